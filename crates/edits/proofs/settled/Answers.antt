-- The signed result beside the table after the edit.
use mathlib.Core.Path.{◌∙◌}
use Rattle.rules_calls.specs.Answers.{outcome}
use Rattle.edits.proofs.Storing.{answer-is}
use borrow.Author.Rules.{rules}
use Rattle.edits.proofs.settled.Goals as goal

pub returns : goal.returns
unfolding outcome
returns c = answer-is _ _ _ _ (search rules ∙ c.signed_result.ensures) c.apply.ensures
