-- By the test.
use mathlib.Core.Path.{◌∙◌}
use Rattle.edits.proofs.Storing.{gone_yes, gone_no}
use Rattle.edits.proofs.released.Goals as goal

pub returns-then-gone : goal.returns-then-gone
returns-then-gone c = c.zero_mapping.ensures ∙ gone_yes _ _ c.if-gone.true

pub returns-else-gone : goal.returns-else-gone
returns-else-gone c = gone_no _ _ c.if-gone.false
