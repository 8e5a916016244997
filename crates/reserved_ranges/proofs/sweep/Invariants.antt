use Rattle.rules_table.specs.Words.{objects_in}
use Rattle.reserved_ranges.proofs.Reserving.{Standing}
use Rattle.reserved_ranges.proofs.sweep.Given as goal

abbrev pub invariant-loop-i : goal.invariant-loop-i
invariant-loop-i l = Standing l.w.alignment l.w.length (objects_in l.h) l.s l.from l.x l.jumps l.i
