-- Behind, at the end, or on.
use native.Mathlib.Omega.{arith}
use Rattle.gaps.proofs.Meeting.{past-behind, past-last, past-touched}
use Rattle.gaps.proofs.past_met.Goals as goal

pub returns-then-q-x : goal.returns-then-q-x
returns-then-q-x c = past-behind _ _ _ _ (omega (arith, c.if-q-x.true))

pub returns-then-q-eq-U64MAX : goal.returns-then-q-eq-U64MAX
returns-then-q-eq-U64MAX c = past-last _ _ _ c.args.q c.requires.0 c.requires.1 (omega arith) (omega (arith, c.if-q-x.false)) (omega (arith, c.if-q-eq-U64MAX.true))

pub returns : goal.returns
returns c = past-touched _ _ _ c.args.q c.requires.0 c.requires.1 (omega arith) (omega (arith, c.if-q-x.false)) _ c.lowest_multiple.ensures
