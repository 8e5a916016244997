-- From its address on, as many as the fourth word.
use native.Mathlib.Omega.{arith}
use Rattle.gaps.proofs.Meeting.{extent-is}
use Rattle.gaps.proofs.extent_at.Goals as goal

pub returns : goal.returns
returns c = extent-is c.args.ws.now c.args.i _ _ _ c.span_of.ensures (omega (arith, c.address_at.ensures)) (omega arith)
