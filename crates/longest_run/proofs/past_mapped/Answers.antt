-- The best so far and what is left of the records give the answer.
use mathlib.Core.Path.{refl}
use native.Mathlib.Omega.{arith}
use Rattle.runs.specs.Runs.{past_range}
use Rattle.rules_table.specs.Records.{zero_mapping}
use Rattle.rules_table.specs.Words.{objects_in}
use Rattle.rules_calls.specs.Landing.{blocked_in, lowest_tried}
use Rattle.layout_mappings.specs.Words.{records_of, records-length}
use Rattle.longest_run.specs.Parts.{extent_for}
use Rattle.longest_run.proofs.Parting.{pass_on, pass_end, pass_extents}
use Rattle.longest_run.proofs.past_mapped.Goals as goal

pub loop-k-init : goal.loop-k-init
loop-k-init c = refl

pub loop-k-preserved : goal.loop-k-preserved
loop-k-preserved c = let a = c.args in let l = c.loop-k in pass_on (past_range a.a lowest_tried (blocked_in (objects_in a.h.now) (records_of a.ws.now) a.s) a.window) (extent_for a.s) (records_of a.ws.now) zero_mapping _ _ l.k l.invariant (omega (arith, records-length a.ws.now, c.loop-k-test.true)) _ c.past_record-best.ensures

pub returns : goal.returns
returns c = let a = c.args in let l = c.loop-k in pass_extents (past_range a.a lowest_tried (blocked_in (objects_in a.h.now) (records_of a.ws.now) a.s) a.window) (records_of a.ws.now) _ _ _ (pass_end (past_range a.a lowest_tried (blocked_in (objects_in a.h.now) (records_of a.ws.now) a.s) a.window) (extent_for a.s) (records_of a.ws.now) zero_mapping _ _ l.k l.invariant (omega (arith, records-length a.ws.now, c.loop-k-test.false)))
