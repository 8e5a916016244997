use borrow.Author.Rules.{rules}
use native.Mathlib.Omega.{arith}
use Rattle.scan.proofs.Surveying.{unmarked-start, unmarked-found, unmarked-on, unmarked-end}
use Rattle.scan.proofs.lowest_unmarked.Goals as goal

pub loop-b-init : goal.loop-b-init
loop-b-init c = let a = c.args in (search rules, search rules, unmarked-start a.marks.now _ (omega arith))

pub returns-then-marks-b-eq0 : goal.returns-then-marks-b-eq0
returns-then-marks-b-eq0 c = let a = c.args in let l = c.loop-b in unmarked-found a.marks.now l.b l.invariant.2 (omega arith) c.if-marks-b-eq0.true

pub loop-b-preserved : goal.loop-b-preserved
loop-b-preserved c = let a = c.args in let l = c.loop-b in (search rules, search rules, unmarked-on a.marks.now l.b l.invariant.2 (omega arith) c.if-marks-b-eq0.false)

pub returns : goal.returns
returns c = let a = c.args in let l = c.loop-b in unmarked-end a.marks.now l.b l.invariant.2 (omega (arith, c.loop-b-test.false))
