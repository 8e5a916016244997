-- A place that no record has changes nothing.
use native.Mathlib.Omega.{arith}
use Rattle.lists.specs.Update.{length-mapped}
use Rattle.rules_calls.specs.Edits.{applied}
use Rattle.edits.proofs.Storing.{put_mapping-past}
use borrow.Author.Rules.{rules}
use Rattle.edits.proofs.put_mapping.Goals as goal

pub returns-then-i-ge128 : goal.returns-then-i-ge128
returns-then-i-ge128 c = put_mapping-past _ _ _ (search (rules, length-mapped)) (omega arith)

pub returns : goal.returns
unfolding applied
returns c = search rules
