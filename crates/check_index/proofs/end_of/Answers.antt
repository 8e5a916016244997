use native.Mathlib.Omega.{arith}
use Rattle.check_index.proofs.Climbing.{placed-some, placed-ends, end_is}
use Rattle.check_index.proofs.end_of.Goals as goal

pub overflow_sub-result : goal.overflow_sub-result
overflow_sub-result c = omega (arith, placed-some c.args.m c.requires.0 c.requires.1)

pub overflow_add-result : goal.overflow_add-result
overflow_add-result c = omega (arith, placed-ends c.args.m c.requires.0 c.requires.1)

pub returns : goal.returns
returns c = end_is c.args.m c.requires.0 c.requires.1 _ (omega arith)
