-- The sum over the backings so far.
use native.Mathlib.Omega.{arith}
use Rattle.plan_commands.proofs.Counting.{charge-start, charge-turn, charge-all}
use Rattle.plan_commands.proofs.charging.charge_of.Goals as goal

pub loop-backing-init : goal.loop-backing-init
loop-backing-init c = (omega arith, charge-start _)

pub overflow_add-sum : goal.overflow_add-sum
overflow_add-sum c = record { fits = omega (arith, c.pages_of-sum.ensures.1) }

pub loop-backing-preserved : goal.loop-backing-preserved
loop-backing-preserved c = let l = c.loop-backing in (omega (arith, c.pages_of-sum.ensures.1), charge-turn l.backing _ _ _ l.invariant.1 c.pages_of-sum.ensures.0)

pub returns : goal.returns
returns c = let l = c.loop-backing in charge-all l.backing _ _ (omega arith) l.invariant.1
