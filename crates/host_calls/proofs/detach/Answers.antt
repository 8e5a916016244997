-- The edit, applied.
use mathlib.Core.Path.{◌∙◌}
use Rattle.host_calls.proofs.detach.Goals as goal

pub returns : goal.returns
returns c = c.settled.ensures ∙ rw (c.decided-e.ensures, c.detach_order.ensures)
