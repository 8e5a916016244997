use borrow.Author.Rules.{rules}
use native.Mathlib.Omega.{arith}
use Rattle.layout_mappings.specs.Words.{records_of, records-length}
use Rattle.scan.proofs.Surveying.{free-start, free-found, free_on, free-end}
use Rattle.scan.proofs.free_record.Goals as goal

pub loop-i-init : goal.loop-i-init
loop-i-init c = (search rules, free-start (records_of c.args.ws.now))

pub returns-then-space_at-eq0 : goal.returns-then-space_at-eq0
returns-then-space_at-eq0 c = let a = c.args in let l = c.loop-i in free-found (records_of a.ws.now) l.i l.invariant.1 (omega (arith, records-length a.ws.now, c.loop-i-test.true)) _ c.space_at.ensures c.if-space_at-eq0.true _ (omega arith)

pub loop-i-preserved : goal.loop-i-preserved
loop-i-preserved c = let a = c.args in let l = c.loop-i in (search rules, free_on (records_of a.ws.now) l.i l.invariant.1 (omega (arith, records-length a.ws.now, c.loop-i-test.true)) _ c.space_at.ensures c.if-space_at-eq0.false)

pub returns : goal.returns
returns c = let a = c.args in let l = c.loop-i in free-end (records_of a.ws.now) l.i l.invariant.1 (omega (arith, records-length a.ws.now, c.loop-i-test.false))
