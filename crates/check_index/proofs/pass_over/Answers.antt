use mathlib.Core.Path.{refl}
use native.Mathlib.Omega.{arith}
use Rattle.check_index.proofs.Walking.{walking_start, walking_end, walking_zero, walking_far, walking_placed, walking_stop, walking_used, walking_on}
use Rattle.check_index.proofs.pass_over.Goals as goal

pub loop-k-init : goal.loop-k-init
loop-k-init c = walking_start c.args.ws.now c.args.ix.now _ (omega arith)

pub returns-then-r-eq0 : goal.returns-then-r-eq0
returns-then-r-eq0 c = let l = c.loop-k in let a = c.args in walking_zero a.ws.now a.ix.now l.space l.last l.k l.invariant (omega (arith, c.loop-k-test.true, c.requires.1)) c.if-r-eq0.true

pub returns-then-r-gt128 : goal.returns-then-r-gt128
returns-then-r-gt128 c = let l = c.loop-k in let a = c.args in walking_far a.ws.now a.ix.now l.space l.last l.k l.invariant (omega (arith, c.loop-k-test.true, c.requires.1)) c.if-r-eq0.false c.requires.0 (omega (arith, c.if-r-gt128.true))

pub record-m-requires : goal.record-m-requires
record-m-requires c = omega (arith, c.if-r-eq0.false, c.if-r-gt128.false, c.requires.0)

pub returns-then-not-is_past : goal.returns-then-not-is_past
returns-then-not-is_past c = let l = c.loop-k in let a = c.args in walking_stop a.ws.now a.ix.now l.space l.last l.k l.invariant (omega (arith, c.loop-k-test.true, c.requires.1)) c.if-r-eq0.false _ c.record-m.ensures _ c.is_past.ensures c.if-not-is_past.true

pub end_of-last-requires : goal.end_of-last-requires
end_of-last-requires c = let l = c.loop-k in let a = c.args in (walking_placed a.ws.now a.ix.now l.space l.last l.k l.invariant (omega (arith, c.loop-k-test.true, c.requires.1)) c.if-r-eq0.false _ c.record-m.ensures c.requires.2 c.requires.0 (omega (arith, c.if-r-gt128.false)), walking_used a.ws.now a.ix.now l.space l.last l.k l.invariant (omega (arith, c.loop-k-test.true, c.requires.1)) c.if-r-eq0.false _ c.record-m.ensures _ c.is_past.ensures c.if-not-is_past.false (omega arith))

pub loop-k-preserved : goal.loop-k-preserved
loop-k-preserved c = let l = c.loop-k in let a = c.args in walking_on a.ws.now a.ix.now l.space l.last l.k l.invariant (omega (arith, c.loop-k-test.true, c.requires.1)) c.if-r-eq0.false _ c.record-m.ensures _ c.is_past.ensures c.if-not-is_past.false (omega arith) _ _ refl c.end_of-last.ensures

pub returns : goal.returns
returns c =
    let l = c.loop-k in
    let a = c.args in
    let w = walking_end a.ws.now a.ix.now l.space l.last l.k l.invariant (omega (arith, c.loop-k-test.false, c.requires.1)) in
    (w.0, omega (arith, w.1, l.auto.k-end, c.loop-k-test.false))
