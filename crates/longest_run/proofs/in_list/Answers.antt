-- The best so far and what is left of the windows give the answer.
use mathlib.Core.Path.{refl, ap, ◌∙◌}
use native.Mathlib.Omega.{arith}
use Rattle.runs.specs.Runs.{over, in_window}
use Rattle.rules_table.specs.Words.{objects_in}
use Rattle.rules_calls.specs.Landing.{blocked_in, lowest_tried}
use Rattle.layout_mappings.specs.Words.{records_of}
use Rattle.longest_run.proofs.Running.{try_on, try_end}
use Rattle.longest_run.proofs.in_list.Goals as goal

pub loop-i-init : goal.loop-i-init
loop-i-init c = refl

pub loop-i-preserved : goal.loop-i-preserved
loop-i-preserved c =
    let a = c.args in
    let g = in_window a.a lowest_tried (blocked_in (objects_in a.h.now) (records_of a.ws.now) a.s) in
    try_on g _ _ _ c.loop-i.i c.loop-i.invariant (omega arith) _ (c.in_window-best.ensures ∙ ap (g _) c.at.ensures)

pub returns : goal.returns
returns c =
    let a = c.args in
    let g = in_window a.a lowest_tried (blocked_in (objects_in a.h.now) (records_of a.ws.now) a.s) in
    try_end g _ _ _ c.loop-i.i c.loop-i.invariant (omega arith) ∙ ap (over g _) c.in_use-windows.ensures.same
