-- By the change.
use Rattle.lent_edit.proofs.records_for.Goals as goal

pub returns-in-Drop : goal.returns-in-Drop
returns-in-Drop c = rw (c.dropped.ensures, c.in-Drop.is)

pub returns-in-Map : goal.returns-in-Map
returns-in-Map c = rw c.in-Map.is

pub returns-in-Clear : goal.returns-in-Clear
returns-in-Clear c = rw c.in-Clear.is
