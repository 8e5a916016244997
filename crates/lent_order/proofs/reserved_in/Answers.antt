-- Word by word.
use Rattle.lent_order.proofs.reserved_in.Goals as goal

pub returns : goal.returns
returns c = rw c.low.ensures
