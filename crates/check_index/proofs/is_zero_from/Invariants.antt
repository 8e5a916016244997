use Prim.Native.Nat.{◌≤◌}
use mathlib.Core.Path.{◌≡◌}
use mathlib.Core.Bool.{◌&&◌}
use Rattle.check_index.specs.Listed.{zeros_from}
use Rattle.check_index.proofs.is_zero_from.Given as goal

abbrev pub invariant-loop-k : goal.invariant-loop-k
invariant-loop-k l = (l.k ≤ 128) × ((l.zero && zeros_from l.k l.ix) ≡ zeros_from l.from l.ix)
