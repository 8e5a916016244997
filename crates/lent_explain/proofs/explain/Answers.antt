-- 117, or what is told.
use native.Mathlib.Omega.{arith}
use mathlib.Core.Path.{◌∙◌}
use Rattle.lent_explain.specs.Serving.{explain_short, explain_done}
use borrow.Author.Rules.{rules}
use Rattle.explain.proofs.decide.Reads as decide-reads
use Rattle.lent_explain.proofs.tell.Reads as tell-reads
use Rattle.opening.proofs.signed_result.Reads as signed-result-reads
use Rattle.lent_explain.proofs.explain.Goals as goal

pub returns-then-count-ne-RECORDS : goal.returns-then-count-ne-RECORDS
returns-then-count-ne-RECORDS c = let a = c.args in explain_short a.h.now _ a.ws.now a.beside.now a.request a.cmd.now a.words.now _ _ (λ x. omega (arith, x)) (search rules ∙ c.signed_result.ensures) (omega arith)

pub tell-requires : goal.tell-requires
tell-requires c = (search rules, c.decide-e.ensures.short)

pub returns : goal.returns
returns c = let a = c.args in explain_done a.h.now _ a.ws.now a.beside.now a.request a.cmd.now a.words.now _ _ _ (omega arith) c.decide-e.ensures.answer (search rules ∙ c.tell.ensures.0) c.tell.ensures.1
