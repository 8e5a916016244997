use Rattle.rules_table.specs.Words.{objects_in}
use Rattle.check_objects.specs.Passed.{Next}
use Rattle.check_objects.proofs.next_object.Given as goal

abbrev pub invariant-loop-i : goal.invariant-loop-i
invariant-loop-i l = Next (objects_in l.h) l.from l.i
