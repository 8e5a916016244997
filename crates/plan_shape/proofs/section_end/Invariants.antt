use Prim.Native.Nat.{◌+◌, ◌-◌, ◌≤◌, min}
use mathlib.Core.Path.{◌≡◌}
use lib.ListN.{length}
use Rattle.plan_shape.specs.Plan.{items_end, section_end}
use Rattle.plan_shape.proofs.section_end.Given as goal

abbrev pub invariant-loop-i : goal.invariant-loop-i
invariant-loop-i l = (l.end ≤ length l.s) × (min (items_end l.section (l.count - l._i) l.s l.end) (length l.s + 1) ≡ min (section_end l.section l.s l.at) (length l.s + 1))
