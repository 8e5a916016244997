-- What is left of the records gives the answer.
use mathlib.Core.Path.{◌∙◌, refl}
use native.Mathlib.Omega.{arith}
use Rattle.rules_table.specs.Records.{zero_mapping}
use Rattle.layout_mappings.specs.Words.{records_of, records-length}
use Rattle.longest_run.specs.Parts.{extent_for}
use Rattle.longest_run.proofs.Parting.{extents_each, free-nowhere, free_on, free-end}
use Rattle.longest_run.proofs.free_mapped.Goals as goal

pub loop-i-init : goal.loop-i-init
loop-i-init c = refl

pub returns-in_err-e : goal.returns-in_err-e
returns-in_err-e c = let a = c.args in let l = c.loop-i in c.from_residual.ensures ∙ extents_each _ _ _ _ _ (free-nowhere (extent_for a.s) (records_of a.ws.now) zero_mapping _ _ _ l.i l.invariant (omega (arith, records-length a.ws.now, c.loop-i-test.true)) _ c.free_record.ensures c.in_err-e.was)

pub loop-i-preserved : goal.loop-i-preserved
loop-i-preserved c = let a = c.args in let l = c.loop-i in free_on (extent_for a.s) (records_of a.ws.now) zero_mapping _ _ _ l.i l.invariant (omega (arith, records-length a.ws.now, c.loop-i-test.true)) _ c.free_record.ensures _ c.in_ok-e.was

pub returns : goal.returns
returns c = let a = c.args in let l = c.loop-i in extents_each _ _ _ _ _ (free-end (extent_for a.s) (records_of a.ws.now) zero_mapping _ _ _ l.i l.invariant (omega (arith, records-length a.ws.now, c.loop-i-test.false)))
