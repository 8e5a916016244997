-- 117, 25, or what stood in the way.
use mathlib.Core.Path.{sym, ap, ◌∙◌}
use mathlib.Core.Bool.{◌&&◌}
use Rattle.std.specs.Prelude.{is_some}
use Rattle.rules_table.specs.declared.Table.{Table}
use Rattle.rules_table.specs.Good.{good}
use Rattle.rules_index.specs.Index.{agrees}
use Rattle.rules_index.specs.Board.{Board, good_board}
use Rattle.rules_table.specs.Layout.{table_of}
use Rattle.rules_table.specs.Words.{head_in}
use Rattle.layout_mappings.specs.Words.{records_of}
use Rattle.check_table.specs.Known.{table_is}
use Rattle.explain.proofs.Opening.{opened-is}
use Rattle.explain.proofs.Answering.{by-bad, by-unlisted, by-listed}
use Rattle.explain.proofs.decide.Goals as goal

pub returns-in_default : goal.returns-in_default
unfolding table_of good_board
returns-in_default c = let a = c.args in let ms = records_of a.ws.now in let t = table_of (head_in a.h.now) ms in let b : Board = record { table = t; index = a.ix.now } in let verdict = sym (c.check.ensures.verdict ∙ ap (λ (u : Table). good u && agrees a.ix.now ms) (table_is a.h.now ms)) in by-bad b a.request a.cmd.now (verdict ∙ ap is_some c.in_default.is)

pub returns-in_default-look_up : goal.returns-in_default-look_up
unfolding table_of good_board
returns-in_default-look_up c = let a = c.args in let ms = records_of a.ws.now in let t = table_of (head_in a.h.now) ms in let b : Board = record { table = t; index = a.ix.now } in let verdict = sym (c.check.ensures.verdict ∙ ap (λ (u : Table). good u && agrees a.ix.now ms) (table_is a.h.now ms)) in by-unlisted b a.request a.cmd.now (verdict ∙ ap is_some c.in-Some.is) _ c.look_up.ensures c.in_default-look_up.is

pub explain_command-requires : goal.explain_command-requires
explain_command-requires c = opened-is _ c.args.request c.args.cmd.now _ _ _ _ c.look_up.ensures c.in-Some-look_up.is c.open.ensures c.opening_reason-opened.ensures

pub returns : goal.returns
unfolding table_of good_board
returns c = let a = c.args in let ms = records_of a.ws.now in let t = table_of (head_in a.h.now) ms in let b : Board = record { table = t; index = a.ix.now } in let verdict = sym (c.check.ensures.verdict ∙ ap (λ (u : Table). good u && agrees a.ix.now ms) (table_is a.h.now ms)) in by-listed b a.request a.cmd.now (verdict ∙ ap is_some c.in-Some.is) _ c.look_up.ensures _ (table_is a.h.now ms) _ _ c.in-Some-look_up.is _ c.explain_command.ensures
