-- What is found in the ranges of the slot.
use Rattle.std.proofs.Common.{ap, ◌∙◌, is_some}
use Rattle.reserved_ranges.proofs.Reserving.{slot-touches}
use Rattle.reserved_ranges.proofs.slot_touched.Goals as goal

pub returns : goal.returns
returns c = c.is_some.ensures ∙ ap is_some c.first_touched.ensures ∙ slot-touches _ _ _ c.reserved_for.ensures
