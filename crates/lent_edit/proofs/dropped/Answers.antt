-- By the slot.
use borrow.Author.Tests.{le-leb, lt-leb}
use Rattle.lent_edit.proofs.dropped.Goals as goal

pub returns-then-i-ge32 : goal.returns-then-i-ge32
returns-then-i-ge32 c = rw (le-leb _ _ c.if-i-ge32.true)

pub returns : goal.returns
returns c = rw (lt-leb _ _ c.if-i-ge32.false)
