-- The ranges of an attached device, or none.
use Rattle.reserved_ranges.proofs.Reserving.{reserving_none, reserving_made}
use Rattle.reserved_ranges.proofs.reserved_for.Goals as goal

pub returns-then-not-reserves_in : goal.returns-then-not-reserves_in
returns-then-not-reserves_in c = reserving_none _ _ _ c.reserves_in.ensures c.if-not-reserves_in.true _ _ c.words-none.ensures.1

pub returns : goal.returns
returns c = reserving_made _ _ _ c.reserves_in.ensures c.if-not-reserves_in.false _ c.reserved_in_use.ensures
