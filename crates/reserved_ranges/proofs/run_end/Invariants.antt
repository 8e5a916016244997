use Prim.Native.Nat.{◌≤◌, min}
use mathlib.Core.Path.{◌≡◌}
use lib.ListN.{drop}
use Rattle.ranges.specs.Ranges.{U64MAX}
use Rattle.freeranges.specs.Scan.{run_end}
use Rattle.rules_table.specs.Spaces.{reserved_of}
use Rattle.rules_table.specs.Words.{objects_in}
use Rattle.reserved_ranges.proofs.run_end.Given as goal

abbrev pub invariant-loop-i : goal.invariant-loop-i
invariant-loop-i l = (l.i ≤ 32) × (l.lowest ≤ U64MAX) × (min l.lowest (run_end (reserved_of (drop l.i (objects_in l.h)) l.s) l.x) ≡ run_end (reserved_of (objects_in l.h) l.s) l.x)
