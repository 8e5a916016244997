-- The errno and the address told.
use mathlib.Core.Path.{ap, ◌∙◌}
use Rattle.rules_calls.specs.Orders.{host_edit}
use Rattle.host_calls.proofs.Guarding.{reach-is}
use borrow.Author.Rules.{rules}
use Rattle.host_calls.proofs.reach.Goals as goal

pub returns : goal.returns
returns c = reach-is _ _ _ _ (c.decided-e.ensures ∙ ap (host_edit _) c.reach_order.ensures) (search rules ∙ c.signed_result.ensures)
