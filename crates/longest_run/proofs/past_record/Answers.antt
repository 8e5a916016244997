-- One law for each answer.
use native.Mathlib.Omega.{arith}
use Rattle.rules_table.specs.Words.{objects_in}
use Rattle.layout_mappings.specs.Words.{records_of}
use Rattle.rules_calls.specs.Landing.{blocked_in, lowest_tried}
use Rattle.longest_run.proofs.Parting.{past-other, past-here}
use Rattle.longest_run.proofs.past_record.Goals as goal

pub returns-then-m-s : goal.returns-then-m-s
returns-then-m-s c = let a = c.args in past-other _ _ _ c.record-m.ensures _ lowest_tried (blocked_in (objects_in a.h.now) (records_of a.ws.now) a.s) _ _ (λ e. omega (arith, e))

pub returns : goal.returns
returns c = let a = c.args in past-here _ _ _ c.record-m.ensures _ lowest_tried (blocked_in (objects_in a.h.now) (records_of a.ws.now) a.s) _ _ (omega arith) _ c.span_of-q.ensures _ _ c.run_past-past.ensures c.better_of.ensures
