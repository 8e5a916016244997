use mathlib.Core.Path.{◌∙◌}
use native.Mathlib.Omega.{arith}
use Rattle.layout_objects.specs.Slots.{object-none, object-past, object-here}
use Rattle.layout_objects.proofs.object_of.Goals as goal
use Rattle.layout_objects.proofs.object_of.Goals.{in_default-via-then-id-lt1, in_default-via-else-id-lt1+else-id-lt33}

pub returns-in-1-to-32 : goal.returns-in-1-to-32
returns-in-1-to-32 c = c.object.ensures ∙ object-here c.args.h.now c.args.id (omega arith) (omega arith)

pub returns-in_default : goal.returns-in_default
returns-in_default c =
    c.free_object.ensures
    ∙ (elim c.in_default.branch [
      | in_default-via-then-id-lt1 w ↦ object-none c.args.h.now c.args.id (omega arith)
      | in_default-via-else-id-lt1+else-id-lt33 w ↦ object-past c.args.h.now c.args.id (omega arith)
    ])
