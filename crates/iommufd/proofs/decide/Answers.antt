-- 117, a refused opening, or the command.
use mathlib.Core.Path.{sym, ap, ◌∙◌}
use Rattle.std.specs.Prelude.{is_some}
use mathlib.Core.Bool.{◌&&◌}
use Rattle.lists.specs.Tests.{and_left, and_right}
use Rattle.rules_table.specs.declared.Table.{Table}
use Rattle.rules_table.specs.Good.{good}
use Rattle.rules_index.specs.Index.{agrees}
use Rattle.rules_index.specs.Board.{Board}
use Rattle.rules_table.specs.Layout.{table_of}
use Rattle.rules_table.specs.Words.{head_in}
use Rattle.layout_mappings.specs.Words.{records_of}
use Rattle.opening.specs.Opened.{opened-length}
use Rattle.check_table.specs.Known.{table_is}
use Rattle.iommufd.proofs.Dispatching.{refused, gate-closed, opened-none, arm-of, on_board, off_board}
use Rattle.iommufd.proofs.decide.Goals as goal

pub returns-in_default : goal.returns-in_default
unfolding table_of
returns-in_default c = let a = c.args in let ms = records_of a.ws.now in let t = table_of (head_in a.h.now) ms in let verdict = sym (c.check.ensures.verdict ∙ ap (λ (u : Table). good u && agrees a.ix.now ms) (table_is a.h.now ms)) in let b : Board = record { table = t; index = a.ix.now } in off_board b a.request _ _ _ (verdict ∙ ap is_some c.in_default.is) c.refusal.ensures

pub returns-in-Err : goal.returns-in-Err
unfolding table_of
returns-in-Err c = let a = c.args in let ms = records_of a.ws.now in let t = table_of (head_in a.h.now) ms in let verdict = sym (c.check.ensures.verdict ∙ ap (λ (u : Table). good u && agrees a.ix.now ms) (table_is a.h.now ms)) in let b : Board = record { table = t; index = a.ix.now } in let good-both = verdict ∙ ap is_some c.in-Some.is in on_board b a.request _ _ _ _ _ (and_right (good t) (agrees a.ix.now ms) good-both) (refused t _ _ a.request _ _ (gate-closed t a.cmd.now a.area.now a.request _ _ (and_left (good t) (agrees a.ix.now ms) good-both) (sym c.in-Err.is ∙ c.open.ensures) c.unopened_errno.ensures) (opened-none _ _ c.unopened_errno.ensures) c.refusal-in-Err.ensures)

pub decide_command-requires : goal.decide_command-requires
decide_command-requires c = opened-length _ _ _ (sym c.open.ensures ∙ c.in-Ok.is)

pub returns-in-Ok : goal.returns-in-Ok
unfolding table_of
returns-in-Ok c = let a = c.args in let ms = records_of a.ws.now in let t = table_of (head_in a.h.now) ms in let verdict = sym (c.check.ensures.verdict ∙ ap (λ (u : Table). good u && agrees a.ix.now ms) (table_is a.h.now ms)) in let b : Board = record { table = t; index = a.ix.now } in let good-both = verdict ∙ ap is_some c.in-Some.is in on_board b a.request _ _ _ _ _ (and_right (good t) (agrees a.ix.now ms) good-both) (arm-of t _ _ a.request _ _ _ _ _ (table_is a.h.now ms) (and_left (good t) (agrees a.ix.now ms) good-both) (sym c.open.ensures ∙ c.in-Ok.is) c.decide_command.ensures)
