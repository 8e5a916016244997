-- The parts of the plan go to the door; what it leaves is what was run.
use native.Mathlib.Omega.{arith}
use lib.ListN.{length-take, length-drop}
use Rattle.plan_commands.proofs.Steps.{ran_is}
use borrow.Author.Rules.{rules}
use Rattle.plan_commands.proofs.run_at.Goals as goal

pub slice_bounds-call_on-end-4 : goal.slice_bounds-call_on-end-4
slice_bounds-call_on-end-4 c = simp length-take (omega arith)

pub slice_bounds-call_on-end-6 : goal.slice_bounds-call_on-end-6
slice_bounds-call_on-end-6 c = simp length-take (omega arith)

pub call_on-result-requires : goal.call_on-result-requires
call_on-result-requires c = (simp (length-take, length-drop) (omega arith), simp (length-take, length-drop) (omega arith))

pub returns : goal.returns
returns c = ran_is _ _ _ _ _ _ _ c.read32-request.ensures c.read32-n.ensures c.read32-m.ensures _ c.call_on-result.ensures (search rules) c.charge_of.ensures
