-- The best so far and what is left of the slots give the answer.
use mathlib.Core.Path.{refl}
use native.Mathlib.Omega.{arith}
use Rattle.runs.specs.Runs.{past_range}
use Rattle.rules_table.specs.Records.{zero_object}
use Rattle.rules_table.specs.Spaces.{reserved_for}
use Rattle.rules_table.specs.Words.{objects_in}
use Rattle.rules_calls.specs.Landing.{blocked_in, lowest_tried}
use Rattle.layout_mappings.specs.Words.{records_of}
use Rattle.layout_objects.specs.Slots.{objects-long}
use Rattle.longest_run.proofs.Parting.{pass_on, pass_end, pass_reserved}
use Rattle.longest_run.proofs.past_reserved.Goals as goal

pub loop-i-init : goal.loop-i-init
loop-i-init c = refl

pub loop-i-preserved : goal.loop-i-preserved
loop-i-preserved c = let a = c.args in let l = c.loop-i in pass_on (past_range a.a lowest_tried (blocked_in (objects_in a.h.now) (records_of a.ws.now) a.s) a.window) (reserved_for a.s) (objects_in a.h.now) zero_object _ _ l.i l.invariant (omega (arith, objects-long a.h.now, c.loop-i-test.true)) _ c.past_slot-best.ensures

pub returns : goal.returns
returns c = let a = c.args in let l = c.loop-i in pass_reserved (past_range a.a lowest_tried (blocked_in (objects_in a.h.now) (records_of a.ws.now) a.s) a.window) (objects_in a.h.now) _ _ _ (pass_end (past_range a.a lowest_tried (blocked_in (objects_in a.h.now) (records_of a.ws.now) a.s) a.window) (reserved_for a.s) (objects_in a.h.now) zero_object _ _ l.i l.invariant (omega (arith, objects-long a.h.now, c.loop-i-test.false)))
