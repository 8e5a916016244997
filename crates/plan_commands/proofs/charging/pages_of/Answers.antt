-- The first record from an index on that has the backing.
use native.Mathlib.Omega.{arith}
use Rattle.plan_commands.proofs.Counting.{pages-start, pages-hit, pages-on, pages-none}
use Rattle.plan_commands.proofs.charging.pages_of.Goals as goal

pub loop-m-init : goal.loop-m-init
loop-m-init c = pages-start _ _

pub returns-then-m-backing : goal.returns-then-m-backing
returns-then-m-backing c = let l = c.loop-m in (pages-hit _ l.m-index _ l.invariant _ (omega arith) (omega arith) c.pages_touched.ensures.0, c.pages_touched.ensures.1)

pub loop-m-preserved : goal.loop-m-preserved
loop-m-preserved c = let l = c.loop-m in pages-on _ l.m-index _ l.invariant (omega arith) (λ e. c.if-m-backing.false e)

pub returns : goal.returns
returns c = let l = c.loop-m in (pages-none _ l.m-index _ l.invariant (omega arith), omega arith)
