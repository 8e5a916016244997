-- The lowest bit after a shift.
use Rattle.opening.proofs.Words.{mask_shifted}
use Rattle.opening.proofs.is_readable.Goals as goal

pub returns : goal.returns
returns c = mask_shifted 2 _
