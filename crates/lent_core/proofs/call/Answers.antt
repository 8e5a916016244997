-- 117, or what is decided, committed and followed by the index, which tells the slots of the records that go.
use native.Mathlib.Omega.{arith}
use Rattle.lent_core.specs.Endings.{call-short, call-done}
use Rattle.lent_core.specs.Follows.{follows}
use Rattle.lent_core.proofs.call.Goals as goal

pub returns-then-count-ne-RECORDS : goal.returns-then-count-ne-RECORDS
returns-then-count-ne-RECORDS c = call-short _ _ _ _ _ _ _ _ _ (λ x. omega (arith, x)) c.refused.ensures (omega arith)

pub slots_for-v-requires : goal.slots_for-v-requires
slots_for-v-requires c = follows _
    c.args.ws.now _ _ _ _ _ _ _
    c.decide-e.ensures

pub follow-requires : goal.follow-requires
follow-requires c = follows _
    c.args.ws.now _ _ _ _ _ _ _
    c.decide-e.ensures

pub returns : goal.returns
returns c = call-done _ _ _ _ _ _ _ _ _ _ _ _ _ _ (omega arith)
    c.decide-e.ensures c.answer.ensures c.slots_for-v.ensures
    c.commit.ensures c.follow.ensures
