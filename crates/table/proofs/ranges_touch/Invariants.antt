use mathlib.Core.Path.{◌≡◌}
use lib.ListN.{drop}
use Rattle.rangelists.specs.Held.{ranges_of}
use Rattle.rules_table.specs.Good.{lists_touch}
use Rattle.table.proofs.ranges_touch.Given as goal

abbrev pub invariant-loop-i : goal.invariant-loop-i
invariant-loop-i l = lists_touch (drop l.i (ranges_of l.a)) (ranges_of l.b) ≡ lists_touch (ranges_of l.a) (ranges_of l.b)
