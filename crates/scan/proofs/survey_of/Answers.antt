use Rattle.layout_mappings.specs.Words.{records_of}
use Rattle.scan.proofs.Surveying.{told-survey}
use Rattle.scan.proofs.survey_of.Goals as goal

pub returns : goal.returns
returns c = let a = c.args in λ pages t. told-survey pages (records_of a.ws.now) a.p a.marks.now _ _ t c.free_record-free.ensures c.lowest_unmarked-backing.ensures
