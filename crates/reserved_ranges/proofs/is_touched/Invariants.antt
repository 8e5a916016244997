use Prim.Native.Nat.{◌≤◌}
use mathlib.Core.Path.{◌≡◌}
use lib.ListN.{drop}
use Rattle.lists.specs.Search.{any}
use Rattle.ranges.specs.Ranges.{share}
use Rattle.rules_table.specs.Spaces.{reserved_of}
use Rattle.rules_table.specs.Words.{objects_in}
use Rattle.reserved_ranges.proofs.is_touched.Given as goal

abbrev pub invariant-loop-k : goal.invariant-loop-k
invariant-loop-k l = (l.k ≤ 32) × (any (share l.r) (reserved_of (drop l.k (objects_in l.h)) l.s) ≡ any (share l.r) (reserved_of (objects_in l.h) l.s))
