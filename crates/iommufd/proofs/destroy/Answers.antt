-- The object, and whether a device is attached to it.
use Rattle.rules_table.specs.Words.{objects_in}
use Rattle.iommufd.proofs.destroy.Goals as goal

pub returns : goal.returns
returns c = c.decide_destroy.ensures (objects_in c.args.h.now) c.object_of-o.ensures c.is_held-held.ensures
