-- The object that is put, in the slot where it is put.
use mathlib.Core.Path.{◌∙◌}
use Rattle.lent_edit.specs.Edits.{head-written}
use Rattle.lent_edit.proofs.commit.Goals as goal

pub returns : goal.returns
returns c = c.put_object.ensures ∙ rw (c.object_of.ensures, c.slot_of.ensures) (head-written _ _)
