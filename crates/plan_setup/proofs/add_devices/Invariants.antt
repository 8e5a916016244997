use Prim.Native.Nat.{◌-◌, ◌≤◌}
use mathlib.Core.Path.{◌≡◌}
use lib.ListN.{length}
use Rattle.plan_shape.specs.declared.Section.TheVariants.{Devices}
use Rattle.plan_shape.specs.Plan.{items_end, devices}
use Rattle.plan_setup.specs.Setting.{with_devices}
use Rattle.plan_setup.proofs.add_devices.Given as goal

abbrev pub invariant-loop-i : goal.invariant-loop-i
invariant-loop-i l = (items_end Devices (l.n - l._i) l.s l.at ≤ length l.s) × (with_devices (devices (l.n - l._i) l.s l.at) l.t ≡ with_devices (devices l.n l.s l.initial.at) l.initial.t)
