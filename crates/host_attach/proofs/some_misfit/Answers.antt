-- What is left from record i on answers for the whole.
use borrow.Author.Rules.{rules}
use native.Mathlib.Omega.{arith}
use mathlib.Core.Path.{sym, ap, ◌∙◌}
use Rattle.lists.specs.Search.{any_found, any-on, any-end}
use Rattle.rules_table.specs.Records.{zero_mapping}
use Rattle.layout_mappings.specs.Words.{records_of, records-length}
use Rattle.rules_calls.specs.Attach.{misfits}
use Rattle.host_attach.proofs.some_misfit.Goals as goal

pub returns-then-misfit : goal.returns-then-misfit
returns-then-misfit c = let a = c.args in let l = c.loop-i in any_found (misfits a.s a.a) (records_of a.ws.now) l.i l.invariant.1 zero_mapping (omega (arith, records-length a.ws.now, c.loop-i-test.true)) (sym (c.misfit.ensures ∙ ap (misfits a.s a.a) c.record-m.ensures) ∙ c.if-misfit.true)

pub loop-i-preserved : goal.loop-i-preserved
loop-i-preserved c = let a = c.args in let l = c.loop-i in (search rules, any-on (misfits a.s a.a) (records_of a.ws.now) l.i l.invariant.1 zero_mapping (omega (arith, records-length a.ws.now, c.loop-i-test.true)) (sym (c.misfit.ensures ∙ ap (misfits a.s a.a) c.record-m.ensures) ∙ c.if-misfit.false))

pub returns : goal.returns
returns c = let a = c.args in let l = c.loop-i in any-end (misfits a.s a.a) (records_of a.ws.now) l.i l.invariant.1 (omega (arith, records-length a.ws.now, c.loop-i-test.false))
