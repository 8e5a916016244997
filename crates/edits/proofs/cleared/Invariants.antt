use Prim.Native.Nat.{◌≤◌}
use mathlib.Core.Path.{◌≡◌}
use lib.ListN.{length}
use Rattle.lists.specs.Update.{map_first}
use Rattle.rules_table.specs.Records.{within, release}
use Rattle.edits.proofs.cleared.Given as goal

abbrev pub invariant-loop-k : goal.invariant-loop-k
invariant-loop-k l = (l.k ≤ 128) × (length l.ms ≡ 128) × (length l.next ≡ 128) × (l.next ≡ map_first (release (within l.s l.r)) l.k l.ms)
