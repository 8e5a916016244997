-- A refusal leaves the words; what is told is written.
use native.Mathlib.Omega.{arith}
use mathlib.Core.Path.{subst, ◌∙◌}
use Rattle.rules_reasons.specs.Explain.{Explained}
use Rattle.explain.specs.Answered.{ShortTold}
use Rattle.lent_explain.proofs.Ending.{refused-so, told-so}
use borrow.Author.Rules.{rules}
use Rattle.opening.proofs.signed_result.Reads as signed-result-reads
use Rattle.reason_words.proofs.write.Reads as write-reads
use Rattle.lent_explain.proofs.tell.Goals as goal

pub write-requires : goal.write-requires
write-requires c = (c.requires.0, subst (λ (x : Explained). ShortTold x) c.in-Ok.is c.requires.1)

pub returns-in-Err : goal.returns-in-Err
returns-in-Err c = refused-so c.args.e _ _ _ c.in-Err.is (search rules ∙ c.signed_result.ensures)

pub returns-in-Ok : goal.returns-in-Ok
returns-in-Ok c = told-so c.args.e _ c.args.words.now _ _ _ c.in-Ok.is (search rules ∙ c.signed_result-in-Ok.ensures) (omega arith) c.write.ensures
