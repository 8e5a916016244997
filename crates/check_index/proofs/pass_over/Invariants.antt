use Rattle.check_index.proofs.Walking.{Walking}
use Rattle.check_index.proofs.pass_over.Given as goal

abbrev pub invariant-loop-k : goal.invariant-loop-k
invariant-loop-k l = Walking l.ws l.ix l.space l.last l.k
