-- Written where the errno is 0.
use native.Mathlib.Omega.{arith}
use mathlib.Core.Path.{◌∙◌}
use Rattle.edits.specs.Gating.{replied-some, replied-none}
use Rattle.cmd_map_bytes.proofs.write_value.Goals as goal

pub returns-then-errno-eq0 : goal.returns-then-errno-eq0
returns-then-errno-eq0 c = c.write64.ensures ∙ replied-some _ _ _ _ _ (omega arith)

pub returns-else-errno-eq0 : goal.returns-else-errno-eq0
returns-else-errno-eq0 c = replied-none _ _ _ _ _ c.if-errno-eq0.false
