-- A part of the slice, from the known size to the size.
use Rattle.rules_calls.specs.Opening.{tail}
use borrow.Author.Rules.{rules}
use Rattle.opening.proofs.unknown_tail.Goals as goal

pub returns : goal.returns
unfolding tail
returns c = search rules
