use Prim.Native.Nat.{◌-◌}
use Rattle.rules_table.specs.Words.{objects_in}
use Rattle.check_objects.proofs.Passing.{Passing}
use Rattle.check_objects.proofs.pass_over.Given as goal

abbrev pub invariant-loop-i : goal.invariant-loop-i
invariant-loop-i l = Passing (objects_in l.h) l.i l.free l.pages

abbrev pub decreases-loop-i : goal.decreases-loop-i
decreases-loop-i l = 32 - l.i
