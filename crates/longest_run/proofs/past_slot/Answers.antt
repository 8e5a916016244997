-- The best so far and what is left of the ranges give the answer.
use mathlib.Core.Path.{refl, ap, ◌∙◌}
use native.Mathlib.Omega.{arith}
use Rattle.runs.specs.Runs.{over, past_range}
use Rattle.rules_table.specs.Words.{objects_in}
use Rattle.rules_calls.specs.Landing.{blocked_in, lowest_tried}
use Rattle.layout_mappings.specs.Words.{records_of}
use Rattle.longest_run.proofs.Running.{try_on, try_end, past_is}
use Rattle.longest_run.proofs.past_slot.Goals as goal

pub loop-k-init : goal.loop-k-init
loop-k-init c = refl

pub loop-k-preserved : goal.loop-k-preserved
loop-k-preserved c =
    let a = c.args in
    let blocked = blocked_in (objects_in a.o.now.head.now) (records_of a.ws.now) a.s in
    try_on (past_range a.a lowest_tried blocked a.window) _ _ _ c.loop-k.k c.loop-k.invariant (omega arith) _
    (past_is _ lowest_tried blocked _ _ _ _ _ _ c.run_past-past.ensures c.better_of-best.ensures c.at.ensures)

pub returns : goal.returns
returns c =
    let a = c.args in
    let g = past_range a.a lowest_tried (blocked_in (objects_in a.o.now.head.now) (records_of a.ws.now) a.s) a.window in
    try_end g _ _ _ c.loop-k.k c.loop-k.invariant (omega arith) ∙ ap (over g _) c.reserved_for-l.ensures
