-- The edit, applied.
use mathlib.Core.Path.{◌∙◌}
use Rattle.host_calls.proofs.attach.Goals as goal

pub returns : goal.returns
returns c = c.settled.ensures ∙ rw (c.decided-e.ensures, c.attach_order.ensures)
