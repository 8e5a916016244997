-- Read where the range is one of the first count.
use native.Mathlib.Omega.{arith}
use Rattle.cmd_space.proofs.Listing.{number-none, number-some}
use Rattle.cmd_space.proofs.area_number.Goals as goal

pub returns-then-count-k : goal.returns-then-count-k
returns-then-count-k c = number-none _ _ _ _ (omega arith)

pub returns : goal.returns
returns c = number-some _ _ _ _ (omega arith) c.read64.ensures
