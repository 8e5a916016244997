-- 117, or what the order decides.
use mathlib.Core.Path.{sym, ap, ◌∙◌}
use Rattle.std.specs.Prelude.{is_some}
use Rattle.rules_table.specs.declared.Table.{Table}
use mathlib.Core.Bool.{◌&&◌}
use Rattle.rules_table.specs.Good.{good}
use Rattle.rules_index.specs.Index.{agrees}
use Rattle.rules_index.specs.Board.{Board}
use Rattle.rules_table.specs.Layout.{table_of}
use Rattle.rules_table.specs.Words.{head_in}
use Rattle.layout_mappings.specs.Words.{records_of}
use Rattle.rules_calls.specs.Orders.{act_edit}
use Rattle.check_table.specs.Known.{table_is}
use Rattle.host_calls.proofs.Guarding.{board_bad, board_good}
use Rattle.host_calls.proofs.decide_host.Goals as goal

pub returns-in_default : goal.returns-in_default
unfolding table_of
returns-in_default c = let a = c.args in let ms = records_of a.ws.now in let t = table_of (head_in a.h.now) ms in let b : Board = record { table = t; index = a.ix.now } in board_bad b a.o _ (sym (c.check.ensures.verdict ∙ ap (λ (u : Table). good u && agrees a.ix.now ms) (table_is a.h.now ms)) ∙ ap is_some c.in_default.is) c.refusal.ensures

pub returns : goal.returns
unfolding table_of
returns c = let a = c.args in let ms = records_of a.ws.now in let t = table_of (head_in a.h.now) ms in let b : Board = record { table = t; index = a.ix.now } in board_good b a.o _ (sym (c.check.ensures.verdict ∙ ap (λ (u : Table). good u && agrees a.ix.now ms) (table_is a.h.now ms)) ∙ ap is_some c.in-Some.is) (c.decide_act.ensures ∙ ap (λ (u : Table). act_edit u a.o a.o.act) (table_is a.h.now ms))
