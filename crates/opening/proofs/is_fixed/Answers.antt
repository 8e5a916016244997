-- The lowest bit.
use Rattle.opening.proofs.Words.{mask_low}
use Rattle.opening.proofs.is_fixed.Goals as goal

pub returns : goal.returns
returns c = mask_low _
