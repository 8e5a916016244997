use native.Mathlib.Omega.{arith}
use mathlib.Core.Path.{sym, ◌∙◌}
use borrow.Author.Tests.{le-leb}
use Rattle.lists.specs.Tests.{leb_iff}
use Rattle.ranges.specs.Ranges.{last_of}
use Rattle.index_next.proofs.ends_at.Goals as goal

pub returns-then-a-first : goal.returns-then-a-first
unfolding last_of
returns-then-a-first c = let a = c.args in le-leb a.a a.first (omega arith) ∙ sym (le-leb a.a (last_of a.first a.length) (omega arith))

pub returns-else-a-first : goal.returns-else-a-first
unfolding last_of
returns-else-a-first c = let a = c.args in leb_iff _ a.length a.a (last_of a.first a.length) (λ b. omega arith) (λ b. omega arith)
