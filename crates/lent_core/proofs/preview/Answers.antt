-- 117, or what is decided.
use native.Mathlib.Omega.{arith}
use mathlib.Core.Path.{◌∙◌}
use Rattle.lent_core.specs.Endings.{preview_short, preview_done}
use borrow.Author.Rules.{rules}
use Rattle.lent_core.proofs.preview.Goals as goal

pub returns-then-count-ne-RECORDS : goal.returns-then-count-ne-RECORDS
returns-then-count-ne-RECORDS c = preview_short _ _ _ _ _ _ _ _ _ (λ x. omega (arith, x)) (search rules ∙ c.signed_result.ensures) (omega arith)

pub returns : goal.returns
returns c = preview_done _ _ _ _ _ _ _ _ _ _ _ (omega arith) c.decide-e.ensures (search rules ∙ c.signed_result-2.ensures)
