use Rattle.std.proofs.Common.{sym, ap, ◌∙◌, arith}
use Rattle.layout_mappings.specs.Words.{records_of, record_at}
use Rattle.check_mappings.proofs.Straying.{leader-inside, stray_none, stray_some, added-first, added-marked, mark_first, mark_kept}
use Rattle.check_mappings.proofs.standing_of.Goals as goal

pub returns-then-mark-eq0 : goal.returns-then-mark-eq0
returns-then-mark-eq0 c = let a = c.args in (λ e. sym (stray_none (records_of a.ws.now) a.mark a.i a.m c.if-mark-eq0.true e), added-first a.mark a.i a.m _ c.if-mark-eq0.true c.requires.2 c.pages_of.ensures.0, c.pages_of.ensures.1, mark_first a.mark a.i a.m _ c.if-mark-eq0.true (omega arith))

pub record-leader-requires : goal.record-leader-requires
record-leader-requires c = let a = c.args in omega (arith, leader-inside (records_of a.ws.now) a.mark a.i a.m _ c.if-mark-eq0.false c.requires.0)

pub returns-then-differs : goal.returns-then-differs
returns-then-differs c = let a = c.args in λ e. sym (stray_some (records_of a.ws.now) a.mark a.i a.m c.if-mark-eq0.false _ _ (c.record-leader.ensures ∙ ap (record_at a.ws.now) c.from.ensures) c.differs.ensures) ∙ c.if-differs.true

pub returns : goal.returns
returns c = let a = c.args in ((λ e. sym (stray_some (records_of a.ws.now) a.mark a.i a.m c.if-mark-eq0.false _ _ (c.record-leader.ensures ∙ ap (record_at a.ws.now) c.from.ensures) c.differs.ensures) ∙ c.if-differs.false), added-marked a.mark a.i a.m _ c.if-mark-eq0.false (omega arith), omega arith, mark_kept a.mark a.i a.m c.if-mark-eq0.false)
