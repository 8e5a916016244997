use Prim.Native.Nat.{◌-◌, ◌≤◌}
use mathlib.Core.Path.{◌≡◌}
use mathlib.Core.List.{◌++◌, map}
use lib.ListN.{length, take}
use Rattle.plan_shape.specs.declared.Section.TheVariants.{Commands}
use Rattle.plan_shape.specs.Plan.{items_end, orders}
use Rattle.plan.specs.Running.{kept_of, lines_from}
use Rattle.plan.proofs.whole.run_all.Given as goal

abbrev pub invariant-loop-k : goal.invariant-loop-k
invariant-loop-k l = record {
  room : items_end Commands (l.n - l.k) l.s l.at ≤ length l.s;
  filled : take l.k l.lines ++ map kept_of (lines_from l.k l.t (orders (l.n - l.k) l.s l.at)) ≡ map kept_of (lines_from 0 l.initial.t (orders l.n l.s l.from));
}
