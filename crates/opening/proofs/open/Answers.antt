-- The row decides: none, or its checks.
use mathlib.Core.Path.{sym, ◌∙◌}
use Rattle.opening.specs.Opened.{row_none, row_command, row_size}
use Rattle.opening.proofs.Steps.{without-row, with_row}
use Rattle.opening.proofs.open.Goals as goal

pub returns-in_default : goal.returns-in_default
returns-in_default c = without-row _ _ (sym (row_none _ (sym c.look_up.ensures ∙ c.in_default.is)))

pub open_listed-requires : goal.open_listed-requires
open_listed-requires c = sym (row_size c.args.request _ _ (sym c.look_up.ensures ∙ c.in-Some.is))

pub returns : goal.returns
returns c = with_row _ _ _ (sym (row_command _ _ _ (sym c.look_up.ensures ∙ c.in-Some.is))) c.open_listed.ensures
