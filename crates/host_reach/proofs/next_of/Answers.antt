use mathlib.Core.Path.{sym, ◌∙◌}
use borrow.Author.Tests.{not-false}
use Rattle.host_reach.proofs.Reaching.{next-refused, next-told}
use Rattle.host_reach.proofs.next_of.Goals as goal

pub returns-then-not-is_space : goal.returns-then-not-is_space
returns-then-not-is_space c = λ os e. next-refused os _ _ _ _ e _ c.is_space.ensures _ c.if-not-is_space.true-raw c.refusal.ensures

pub next_number-requires : goal.next_number-requires
next_number-requires c = c.requires (sym c.is_space.ensures ∙ not-false _ c.if-not-is_space.false-raw)

pub returns : goal.returns
returns c = λ os e. next-told os _ _ _ _ e _ c.is_space.ensures _ _ c.if-not-is_space.false-raw c.next_number.ensures c.tell.ensures
