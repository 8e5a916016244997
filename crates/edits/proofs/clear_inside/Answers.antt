-- The mappings alone change.
use Rattle.edits.proofs.Storing.{clear-by}
use Rattle.edits.proofs.clear_inside.Goals as goal

pub returns : goal.returns
returns c = clear-by _ _ _ _ c.cleared-next.ensures
