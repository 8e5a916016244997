use Rattle.check_mappings.proofs.Skipping.{Skipping}
use Rattle.check_mappings.proofs.skip_blank.Given as goal

abbrev pub invariant-loop-j : goal.invariant-loop-j
invariant-loop-j l = Skipping l.ws l.from l.j
