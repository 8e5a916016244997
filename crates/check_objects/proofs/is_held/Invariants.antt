use Prim.Native.Nat.{◌≤◌}
use mathlib.Core.Path.{◌≡◌}
use lib.ListN.{drop}
use Rattle.lists.specs.Search.{any}
use Rattle.rules_table.specs.declared.Object.{Object}
use Rattle.rules_table.specs.Records.{attached_to}
use Rattle.rules_table.specs.Words.{objects_in}
use Rattle.check_objects.proofs.is_held.Given as goal

abbrev pub invariant-loop-i : goal.invariant-loop-i
invariant-loop-i l = (l.i ≤ 32) × (any (λ (o : Object). attached_to l.s o.kind) (drop l.i (objects_in l.h)) ≡ any (λ (o : Object). attached_to l.s o.kind) (objects_in l.h))
