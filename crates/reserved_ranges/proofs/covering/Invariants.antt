use Prim.Native.Nat.{◌≤◌}
use mathlib.Core.Path.{◌≡◌}
use lib.ListN.{drop}
use Rattle.freeranges.specs.Scan.{cover_of}
use Rattle.rules_table.specs.Spaces.{reserved_of}
use Rattle.rules_table.specs.Words.{objects_in}
use Rattle.reserved_ranges.proofs.covering.Given as goal

abbrev pub invariant-loop-i : goal.invariant-loop-i
invariant-loop-i l = (l.i ≤ 32) × (cover_of (reserved_of (drop l.i (objects_in l.h)) l.s) l.x ≡ cover_of (reserved_of (objects_in l.h) l.s) l.x)
