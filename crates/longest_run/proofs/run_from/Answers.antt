-- One law for each answer.
use mathlib.Core.Path.{◌∙◌}
use native.Mathlib.Omega.{arith}
use Rattle.rules_table.specs.Words.{objects_in}
use Rattle.layout_mappings.specs.Words.{records_of}
use Rattle.rules_calls.specs.Landing.{blocked_in}
use Rattle.longest_run.proofs.Running.{from-none, from-before, from_past, from-taken, from_last, from-run}
use Rattle.longest_run.proofs.run_from.Goals.{then-x-window-via-then-x-window, then-x-window-via-else-x-window+then-window-x}
use Rattle.longest_run.proofs.run_from.Goals as goal

pub returns-in_err-x : goal.returns-in_err-x
returns-in_err-x c = let a = c.args in c.from_residual.ensures ∙ from-none _ _ (blocked_in (objects_in a.h.now) (records_of a.ws.now) a.s) _ _ c.lowest_multiple.ensures c.in_err-x.was

pub returns-then-x-window : goal.returns-then-x-window
returns-then-x-window c =
    let a = c.args in
    elim c.then-x-window.branch [
      | then-x-window-via-then-x-window w ↦ from-before _ _ (blocked_in (objects_in a.h.now) (records_of a.ws.now) a.s) _ _ c.lowest_multiple.ensures _ c.in_ok-x.was (omega (arith, w.if-x-window.true))
      | then-x-window-via-else-x-window+then-window-x w ↦ from_past _ _ (blocked_in (objects_in a.h.now) (records_of a.ws.now) a.s) _ _ c.lowest_multiple.ensures _ c.in_ok-x.was (omega (arith, w.if-window-x.true))
    ]

pub returns-in_err-z : goal.returns-in_err-z
returns-in_err-z c = let a = c.args in c.from_residual-in_err-z.ensures ∙ from-taken _ _ (blocked_in (objects_in a.h.now) (records_of a.ws.now) a.s) _ _ c.lowest_multiple.ensures _ c.in_ok-x.was (omega arith) (omega arith) _ c.free_from.ensures c.in_err-z.was

pub overflow_sub-result : goal.overflow_sub-result
overflow_sub-result c = let a = c.args in omega (arith, from_last a.a a.u (blocked_in (objects_in a.h.now) (records_of a.ws.now) a.s) a.window _ c.lowest_multiple.ensures _ c.in_ok-x.was (omega arith) (omega arith) _ c.free_from.ensures _ c.in_ok-z.was, c.min.ensures)

pub returns : goal.returns
returns c = let a = c.args in from-run _ _ (blocked_in (objects_in a.h.now) (records_of a.ws.now) a.s) _ _ c.lowest_multiple.ensures _ c.in_ok-x.was (omega arith) (omega arith) _ c.free_from.ensures _ _ c.in_ok-z.was (omega (arith, c.min.ensures))
