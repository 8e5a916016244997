use Rattle.layout_mappings.specs.Words.{Filled}
use Rattle.layout_mappings.proofs.words_of.Given as goal

abbrev pub invariant-loop-i : goal.invariant-loop-i
invariant-loop-i l = Filled l.ms l.i l.ws
