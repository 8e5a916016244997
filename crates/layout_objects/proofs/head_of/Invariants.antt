use Rattle.layout_objects.specs.Writing.{Laid}
use Rattle.layout_objects.proofs.head_of.Given as goal

abbrev pub invariant-loop-i : goal.invariant-loop-i
invariant-loop-i l = Laid l.limit l.os l.i l.h
