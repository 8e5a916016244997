-- By the errno.
use native.Mathlib.Omega.{arith}
use Rattle.lent_order.specs.Orders.{told-number, told_none}
use Rattle.lent_order.proofs.tell.Goals as goal

pub returns-then-errno-eq0 : goal.returns-then-errno-eq0
returns-then-errno-eq0 c = told-number _ _ _ (omega arith)

pub returns-else-errno-eq0 : goal.returns-else-errno-eq0
returns-else-errno-eq0 c = told_none _ _ _ (λ z. omega (arith, z))
