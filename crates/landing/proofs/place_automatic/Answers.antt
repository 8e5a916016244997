-- The lowest candidate.
use Rattle.rules_table.specs.Words.{objects_in}
use Rattle.layout_mappings.specs.Words.{records_of}
use Rattle.landing.proofs.Finding.{automatic-placed}
use Rattle.landing.proofs.place_automatic.Goals as goal

pub returns : goal.returns
returns c = λ h f ea el. automatic-placed (objects_in c.args.h.now) (records_of c.args.ms.now.records.now) _ _ f (c.automatic_place.ensures h ea el)
