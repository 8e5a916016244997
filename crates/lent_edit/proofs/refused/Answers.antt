-- By the errno.
use mathlib.Core.Path.{ap, ◌∙◌}
use lib.IntN.{ℤ}
use Rattle.lent_records.specs.declared.Records.TheVariants.{Keep}
use Rattle.lent_edit.specs.Edits.{served_by}
use borrow.Author.Rules.{rules}
use Rattle.lent_edit.proofs.refused.Goals as goal

pub returns : goal.returns
unfolding served_by
returns c = ap (λ (z : ℤ). record { result = z; records = Keep }) (search rules ∙ c.signed_result.ensures)
