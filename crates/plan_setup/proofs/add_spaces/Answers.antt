-- What is left of the spaces gives what all of them do.
use native.Mathlib.Omega.{arith}
use mathlib.Core.Path.{◌≡◌, sym, ◌∙◌}
use Rattle.std.specs.Prelude.{Err}
use Rattle.plan_setup.proofs.Settling.{spaces-turn, spaces-none, spaces-go, turn-stops}
use borrow.Author.Rules.{rules}
use Rattle.plan_setup.proofs.add_spaces.Goals as goal

pub returns-in_err-t : goal.returns-in_err-t
returns-in_err-t c = let l = c.loop-i in let e : c.from_residual.result ≡ Err c.in_err-t.field-0.0 = search rules in e ∙ turn-stops _ _ (spaces-turn _ l.t (omega arith)) l.invariant _ c.in_err-t.ensures

pub loop-i-preserved : goal.loop-i-preserved
loop-i-preserved c = let l = c.loop-i in spaces-go _ _ l.t _ l.invariant (omega arith) (omega arith) c.in_ok-t.ensures

pub returns : goal.returns
returns c = let l = c.loop-i in sym (spaces-none _ l.t (omega arith)) ∙ l.invariant
