-- A fixed address or an automatic one.
use mathlib.Core.Path.{sym, ◌∙◌}
use Rattle.reason_place.proofs.place_reason.Goals as goal

pub returns-then-is_fixed : goal.returns-then-is_fixed
returns-then-is_fixed c = λ ea. c.fixed_reason.ensures ea (sym c.is_fixed.ensures ∙ c.if-is_fixed.true)

pub returns : goal.returns
returns c = λ ea. c.automatic_reason.ensures ea (sym c.is_fixed.ensures ∙ c.if-is_fixed.false)
