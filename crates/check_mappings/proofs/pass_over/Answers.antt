use Rattle.std.proofs.Common.{true, false, sym, refl, ◌∙◌, arith, rules}
use Rattle.layout_mappings.specs.Words.{records_of, records-length}
use Rattle.check_mappings.proofs.Marking.{seen_few}
use Rattle.check_mappings.proofs.Passing.{marks-long, visiting_start, visiting_failed, visiting_right, visiting_space, visiting_backing, visiting_leader, visiting_differ, visiting_on, visiting_end}
use Rattle.check_mappings.proofs.pass_over.Goals as goal

pub next_used-i-requires : goal.next_used-i-requires
next_used-i-requires c = (omega arith, c.requires.0)

pub loop-i-init : goal.loop-i-init
loop-i-init c = let a = c.args in visiting_start a.pages.now (records_of a.ws.now) a.marks.now _ (search rules) (records-length a.ws.now ∙ search rules) (search rules) c.next_used-i.ensures

pub shape_of-marks-then-not-is_right : goal.shape_of-marks-then-not-is_right
shape_of-marks-then-not-is_right c = c.loop-i.invariant.passing.seen.room ∙ sym (marks-long c.args.marks.now c.requires.2)

pub returns-then-not-is_right : goal.returns-then-not-is_right
returns-then-not-is_right c = visiting_failed c.args.pages.now (records_of c.args.ws.now) c.loop-i.i _ _ _ c.loop-i.invariant _ _ (omega (arith, c.loop-i-test.true)) c.record-m.ensures (c.is_right.ensures ∙ rw c.page_of-page.ensures) c.if-not-is_right.true

pub bounds-marks-b : goal.bounds-marks-b
bounds-marks-b c = omega (arith, c.loop-i.invariant.passing.seen.room, visiting_backing c.args.pages.now (records_of c.args.ws.now) c.loop-i.i _ _ _ c.loop-i.invariant _ _ (omega (arith, c.loop-i-test.true)) c.record-m.ensures (c.is_right.ensures ∙ rw c.page_of-page.ensures) c.if-not-is_right.false)

pub standing_of-requires : goal.standing_of-requires
standing_of-requires c = let r = visiting_right c.args.pages.now (records_of c.args.ws.now) c.loop-i.i _ _ _ c.loop-i.invariant _ _ (omega (arith, c.loop-i-test.true)) c.record-m.ensures (c.is_right.ensures ∙ rw c.page_of-page.ensures) c.if-not-is_right.false in (omega (arith, c.requires.0, c.loop-i-test.true, visiting_leader c.args.pages.now (records_of c.args.ws.now) c.loop-i.i _ _ _ c.loop-i.invariant _ _ (omega (arith, c.loop-i-test.true)) c.record-m.ensures (c.is_right.ensures ∙ rw c.page_of-page.ensures) c.if-not-is_right.false), omega (arith, c.loop-i-test.true), visiting_space c.args.pages.now (records_of c.args.ws.now) c.loop-i.i _ _ _ c.loop-i.invariant _ _ (omega (arith, c.loop-i-test.true)) c.record-m.ensures (c.is_right.ensures ∙ rw c.page_of-page.ensures) c.if-not-is_right.false, r.long, r.holds)

pub shape_of-marks-in_err-standing : goal.shape_of-marks-in_err-standing
shape_of-marks-in_err-standing c = c.loop-i.invariant.passing.seen.room ∙ sym (marks-long c.args.marks.now c.requires.2)

pub returns-in_err-standing : goal.returns-in_err-standing
returns-in_err-standing c = rw c.from_residual.ensures (visiting_differ c.args.pages.now (records_of c.args.ws.now) c.loop-i.i _ _ _ c.loop-i.invariant _ _ (omega (arith, c.loop-i-test.true)) c.record-m.ensures (c.is_right.ensures ∙ rw c.page_of-page.ensures) c.if-not-is_right.false true (λ e. sym (c.in_err-standing.ensures e)) refl)

pub overflow_add-charge : goal.overflow_add-charge
overflow_add-charge c = omega (arith, c.loop-i.invariant.passing.seen.small, c.in_ok-standing.ensures.2)

pub bounds-marks-b-in-loop-i : goal.bounds-marks-b-in-loop-i
bounds-marks-b-in-loop-i c = omega (arith, c.loop-i.invariant.passing.seen.room, visiting_backing c.args.pages.now (records_of c.args.ws.now) c.loop-i.i _ _ _ c.loop-i.invariant _ _ (omega (arith, c.loop-i-test.true)) c.record-m.ensures (c.is_right.ensures ∙ rw c.page_of-page.ensures) c.if-not-is_right.false)

pub overflow_add-used : goal.overflow_add-used
overflow_add-used c = omega (arith, seen_few _ _ _ _ _ c.loop-i.invariant.passing.seen, c.loop-i-test.true)

pub loop-i-preserved : goal.loop-i-preserved
loop-i-preserved c = visiting_on c.args.pages.now (records_of c.args.ws.now) c.loop-i.i _ _ _ c.loop-i.invariant _ _ (omega (arith, c.loop-i-test.true)) c.record-m.ensures (c.is_right.ensures ∙ rw c.page_of-page.ensures) c.if-not-is_right.false false (λ e. sym (c.in_ok-standing.ensures.0 e)) refl _ _ _ (omega arith) c.in_ok-standing.ensures.1 c.in_ok-standing.ensures.2 c.in_ok-standing.ensures.3 _ c.next_used-i-in-loop-i.ensures

pub shape_of-marks : goal.shape_of-marks
shape_of-marks c = c.loop-i.invariant.passing.seen.room ∙ sym (marks-long c.args.marks.now c.requires.2)

pub returns : goal.returns
returns c = let a = c.args in visiting_end a.pages.now (records_of a.ws.now) c.loop-i.i _ _ _ c.loop-i.invariant (omega arith)
