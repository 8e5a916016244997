-- The record and the mappings of its space.
use native.Mathlib.Omega.{arith}
use mathlib.Core.Path.{ap}
use lib.ListN.{set}
use Rattle.lists.specs.Update.{length-mapped}
use Rattle.rules_table.specs.declared.Object.{Object}
use Rattle.edits.proofs.Storing.{drop_past, drop_here}
use borrow.Author.Rules.{rules}
use Rattle.edits.proofs.drop_space.Goals as goal

pub returns-then-i-ge32 : goal.returns-then-i-ge32
returns-then-i-ge32 c = drop_past _ _ (search (rules, length-mapped)) (omega arith)

pub bounds-next-i : goal.bounds-next-i
bounds-next-i c = search (rules, length-mapped)

pub returns : goal.returns
returns c = drop_here _ _ _ _ (omega arith) (ap (λ (o : Object). set c.args.t.objects c.args.i o) c.free_object.ensures) c.cleared-next.ensures
