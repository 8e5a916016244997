use native.Mathlib.Omega.{arith}
use Rattle.layout_mappings.specs.Words.{filled_on}
use Rattle.layout_mappings.proofs.words_of.Goals as goal

pub loop-i-preserved : goal.loop-i-preserved
loop-i-preserved c = filled_on _ _ _ _ c.loop-i.invariant (omega arith) c.words.ensures.1
