-- By the kind.
use native.Mathlib.Omega.{arith}
use Rattle.lent_order.specs.Orders.{is-next, is-bind, is-attach, is-detach, is-reach, is-charge}
use Rattle.lent_order.proofs.order_in.Goals as goal

pub returns-in-1 : goal.returns-in-1
returns-in-1 c = is-bind _ _ _ (omega arith) (rw (c.bind_order.ensures, c.reserved_in.ensures))

pub returns-in-2 : goal.returns-in-2
returns-in-2 c = is-attach _ _ _ (omega arith) (rw (c.attach_order.ensures, c.low-in-2.ensures, c.low.ensures))

pub returns-in-3 : goal.returns-in-3
returns-in-3 c = is-detach _ _ _ (omega arith) (rw (c.detach_order.ensures, c.low-in-3.ensures))

pub returns-in-4 : goal.returns-in-4
returns-in-4 c = is-reach _ _ _ (omega arith) (rw (c.reach_order.ensures, c.low-in-4.ensures))

pub returns-in-5 : goal.returns-in-5
returns-in-5 c = is-charge _ _ _ (omega arith) c.charge_order.ensures

pub returns-in_default : goal.returns-in_default
returns-in_default c = is-next _ _ _ (omega arith) (rw (c.next_order.ensures, c.low-in_default.ensures))
