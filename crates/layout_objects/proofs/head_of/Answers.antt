use borrow.Author.Rules.{rules}
use lib.ListN.{replicate, length-replicate}
use Prim.Native.Nat.{ℕ}
use native.Mathlib.Omega.{arith}
use mathlib.Core.Path.{refl}
use Rattle.lists.specs.Update.{length-mapped}
use Rattle.layout_objects.specs.Writing.{laid_start, laid_on, laid_end}
use Rattle.layout_objects.proofs.head_of.Goals as goal

pub loop-i-init : goal.loop-i-init
loop-i-init c = laid_start _ _ (replicate 865 0) (search (rules, length-mapped)) (length-replicate {A = ℕ} 865 0)

pub loop-i-preserved : goal.loop-i-preserved
loop-i-preserved c = let l = c.loop-i in laid_on _ _ l.i _ _ _ l.invariant (omega arith) refl c.put.ensures

pub returns : goal.returns
returns c = let l = c.loop-i in (laid_end _ _ l.i _ l.invariant (omega arith), l.invariant.first)
