use Prim.Native.Nat.{◌≤◌}
use mathlib.Core.Path.{◌≡◌}
use lib.Dec.{eqb}
use lib.ListN.{length, get_or}
use Rattle.lists.specs.Below.{lowest}
use Rattle.scan.proofs.Surveying.{unmarked_left}
use Rattle.scan.proofs.lowest_unmarked.Given as goal

abbrev pub invariant-loop-b : goal.invariant-loop-b
invariant-loop-b l = (l.b ≤ 129) × (length l.marks ≡ 129) × (unmarked_left l.b l.marks ≡ lowest (λ k. eqb (get_or l.marks k 0) 0) 128 1)
