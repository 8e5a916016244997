-- The id, or the signed errno, beside the table after the edit.
use mathlib.Core.Path.{◌≡◌, ◌∙◌}
use mir.Syntax.{w32}
use mir.Val.{to_z, of_z}
use Rattle.rules_calls.specs.Answers.{outcome_id}
use Rattle.edits.proofs.Storing.{answer-is, id_refused, id_given}
use borrow.Author.Rules.{rules}
use Rattle.edits.proofs.settled_id.Goals as goal
use Rattle.edits.proofs.settled_id.Goals.{then-e-eq0, else-e-eq0}

pub returns : goal.returns
unfolding outcome_id
returns c =
    answer-is _ _ _ _
    (elim c.if-e-eq0.branch [
      | then-e-eq0 w ↦ let k : to_z w32 (of_z w32 w.id_result-result.result) ≡ w.id_result-result.result = search rules in w.result-is ∙ k ∙ w.id_result-result.ensures ∙ id_given _ _ w.if-e-eq0.true
      | else-e-eq0 w ↦ let k : to_z w32 (of_z w32 w.signed_result-result.result) ≡ w.signed_result-result.result = search rules in w.result-is ∙ k ∙ w.signed_result-result.ensures ∙ id_refused _ _ w.if-e-eq0.false
    ])
    c.apply.ensures
