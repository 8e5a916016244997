use Prim.Native.Nat.{◌-◌, ◌≤◌}
use mathlib.Core.Path.{◌≡◌}
use lib.ListN.{length}
use Rattle.plan_shape.specs.declared.Section.TheVariants.{Attachments}
use Rattle.plan_shape.specs.Plan.{items_end, pairs}
use Rattle.plan_setup.specs.Setting.{with_pairs}
use Rattle.plan_setup.proofs.add_pairs.Given as goal

abbrev pub invariant-loop-i : goal.invariant-loop-i
invariant-loop-i l = (items_end Attachments (l.n - l._i) l.s l.at ≤ length l.s) × (with_pairs (pairs (l.n - l._i) l.s l.at) l.t ≡ with_pairs (pairs l.n l.s l.initial.at) l.initial.t)
