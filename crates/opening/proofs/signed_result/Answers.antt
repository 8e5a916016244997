-- The negative of a number below 2^31 fits.
use native.Mathlib.Omega.{arith}
use Rattle.opening.proofs.Words.{negative-is}
use Rattle.opening.proofs.signed_result.Goals as goal

pub returns : goal.returns
returns c = negative-is c.args.errno (omega arith) _ c.from.ensures
