use Rattle.rangelists.specs.Held.{ranges_of}
use Rattle.placement.specs.Sweeping.{Sweeping}
use Rattle.placement.proofs.sweep.Given as goal

abbrev pub invariant-loop-i : goal.invariant-loop-i
invariant-loop-i l = Sweeping l.w.alignment l.w.length (ranges_of l.l) l.from l.x l.jumps l.i
