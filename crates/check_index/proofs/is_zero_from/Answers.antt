use borrow.Author.Rules.{rules}
use native.Mathlib.Omega.{arith}
use mathlib.Core.Path.{refl}
use Rattle.check_index.proofs.Behind.{behind-on, behind-end}
use Rattle.check_index.proofs.is_zero_from.Goals as goal

pub loop-k-init : goal.loop-k-init
loop-k-init c = (search rules, refl)

pub loop-k-preserved : goal.loop-k-preserved
loop-k-preserved c = (omega (arith, c.loop-k-test.true), behind-on c.args.ix.now c.loop-k.k c.loop-k.zero c.loop-k.invariant.1 (omega (arith, c.loop-k-test.true, c.requires.0)) _ refl)

pub returns : goal.returns
returns c = behind-end c.args.ix.now c.loop-k.k c.loop-k.zero c.loop-k.invariant.1 (omega (arith, c.loop-k-test.false, c.requires.0))
