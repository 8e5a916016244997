-- The id of the new device.
use mathlib.Core.Path.{ap, ◌∙◌}
use Rattle.lists.specs.Update.{length-mapped}
use Rattle.rules_calls.specs.Orders.{host_edit}
use Rattle.host_calls.proofs.Guarding.{bind_value}
use borrow.Author.Rules.{rules}
use Rattle.host_calls.proofs.bind.Goals as goal

pub settled_id-requires : goal.settled_id-requires
settled_id-requires c = bind_value c.args.t _ _ _ (search (rules, length-mapped)) (c.decided-e.ensures ∙ ap (host_edit _) c.bind_order.ensures)

pub returns : goal.returns
returns c = c.settled_id.ensures ∙ rw (c.decided-e.ensures, c.bind_order.ensures)
