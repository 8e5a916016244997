-- After k turns the first k records are done.
use native.Mathlib.Omega.{arith}
use mathlib.Core.Path.{◌∙◌}
use lib.ListN.{length-set}
use Rattle.lists.specs.Update.{map_first-zero, map_first-on, map_first-end, length-mapped}
use Rattle.edits.proofs.Storing.{release-by}
use borrow.Author.Rules.{rules}
use Rattle.edits.proofs.cleared.Goals as goal

pub loop-k-init : goal.loop-k-init
loop-k-init c = (omega arith, search (rules, length-mapped), search (rules, length-mapped), map_first-zero _ _)

pub bounds-ms-k : goal.bounds-ms-k
bounds-ms-k c = search (rules, length-mapped)

pub loop-k-preserved : goal.loop-k-preserved
loop-k-preserved c = let l = c.loop-k in (omega arith, l.invariant.1, simp length-set l.invariant.2, map_first-on _ _ _ _ _ l.k l.invariant.3 (omega arith) (release-by _ _ _ _ c.is_within.ensures c.released.ensures))

pub returns : goal.returns
returns c = let l = c.loop-k in l.invariant.3 ∙ map_first-end _ _ l.k (omega arith)
