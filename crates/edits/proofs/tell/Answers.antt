-- A released object beside the number.
use mathlib.Core.Path.{◌∙◌}
use Rattle.edits.proofs.tell.Goals as goal

pub returns : goal.returns
returns c = c.acceptance.ensures ∙ rw c.free_object.ensures
