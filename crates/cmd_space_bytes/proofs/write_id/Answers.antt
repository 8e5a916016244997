-- Written where the errno is 0.
use native.Mathlib.Omega.{arith}
use mathlib.Core.Path.{sym, ◌∙◌}
use Rattle.edits.specs.Replies.{written, unwritten}
use Rattle.cmd_space_bytes.proofs.write_id.Goals as goal

pub returns-then-errno-eq0 : goal.returns-then-errno-eq0
returns-then-errno-eq0 c = c.write32.ensures ∙ written _ _ _ _ _ (omega arith)

pub returns-else-errno-eq0 : goal.returns-else-errno-eq0
returns-else-errno-eq0 c = sym (unwritten _ _ _ _ _ c.if-errno-eq0.false)
