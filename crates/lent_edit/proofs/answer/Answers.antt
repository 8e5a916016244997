-- Field by field.
use mathlib.Core.Path.{ap, ◌∙◌}
use lib.IntN.{ℤ}
use Rattle.rules_calls.specs.Results.{signed_result}
use Rattle.lent_records.specs.declared.Records.{Records}
use Rattle.lent_edit.specs.Edits.{served_by}
use borrow.Author.Rules.{rules}
use Rattle.lent_edit.proofs.answer.Goals as goal

pub returns : goal.returns
unfolding served_by
returns c = ap (λ (z : ℤ). record { result = z; records = c.records_for.result }) (search rules ∙ c.signed_result.ensures)
    ∙ ap (λ (r : Records). record { result = signed_result c.args.e.errno; records = r }) c.records_for.ensures
