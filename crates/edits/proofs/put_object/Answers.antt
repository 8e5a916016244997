-- A place past the records changes nothing.
use native.Mathlib.Omega.{arith}
use mathlib.Core.Path.{refl}
use Rattle.lists.specs.Update.{length-mapped}
use Rattle.rules_calls.specs.Edits.{applied}
use Rattle.edits.proofs.Storing.{put-past}
use borrow.Author.Rules.{rules}
use Rattle.edits.proofs.put_object.Goals as goal

pub returns-then-i-ge32 : goal.returns-then-i-ge32
returns-then-i-ge32 c = put-past _ _ _ (search (rules, length-mapped)) (omega arith)

pub bounds-next-i : goal.bounds-next-i
bounds-next-i c = search (rules, length-mapped)

pub returns : goal.returns
unfolding applied
returns c = refl
