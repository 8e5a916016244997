-- The mask of the 29 bits above bit 2.
use native.Mathlib.Omega.{arith}
use Rattle.opening.proofs.Words.{mask_high}
use Rattle.opening.proofs.has_unknown.Goals as goal

pub returns : goal.returns
returns c = mask_high _ (omega arith)
