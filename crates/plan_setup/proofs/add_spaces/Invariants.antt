use Prim.Native.Nat.{◌-◌}
use mathlib.Core.Path.{◌≡◌}
use Rattle.plan_setup.specs.Setting.{with_spaces}
use Rattle.plan_setup.proofs.add_spaces.Given as goal

abbrev pub invariant-loop-i : goal.invariant-loop-i
invariant-loop-i l = with_spaces (l.n - l._i) l.t ≡ with_spaces l.n l.initial.t
