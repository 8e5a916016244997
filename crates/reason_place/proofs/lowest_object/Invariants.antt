use Prim.Native.Nat.{◌≤◌}
use Rattle.reason_place.proofs.Seeking.{Seeking}
use Rattle.lists.specs.Search.{any}
use Rattle.ranges.specs.Ranges.{share}
use Rattle.rules_table.specs.declared.Object.{Object}
use Rattle.rules_table.specs.Spaces.{reserved_for}
use Rattle.rules_table.specs.Words.{objects_in}
use Rattle.reason_place.proofs.lowest_object.Given as goal

abbrev pub invariant-loop-i : goal.invariant-loop-i
invariant-loop-i l = (l.i ≤ 32) × Seeking (λ (o : Object). any (share l.r) (reserved_for l.s o)) (objects_in l.h) l.i
