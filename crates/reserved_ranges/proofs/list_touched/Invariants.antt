use Prim.Native.Nat.{◌≤◌}
use mathlib.Core.Path.{◌≡◌}
use lib.ListN.{drop}
use Rattle.rules_table.specs.Spaces.{reserved_of}
use Rattle.rules_table.specs.Words.{objects_in}
use Rattle.rangelists.specs.Held.{ranges_of}
use Rattle.rules_table.specs.Good.{lists_touch}
use Rattle.reserved_ranges.proofs.list_touched.Given as goal

abbrev pub invariant-loop-i : goal.invariant-loop-i
invariant-loop-i l = (l.i ≤ 32) × (lists_touch (reserved_of (drop l.i (objects_in l.h)) l.s) (ranges_of l.list) ≡ lists_touch (reserved_of (objects_in l.h) l.s) (ranges_of l.list))
