use Rattle.check_table.specs.Known.{table-back}
use Rattle.iommufd.proofs.Dispatching.{decided-back, call-done}
use Rattle.iommufd.proofs.call.Goals as goal

pub returns : goal.returns
returns c = let a = c.args in call-done a.t a.request _ _ _ _ _ _ (decided-back a.t _ _ _ a.request _ _ _ _ _ (table-back a.t _ _ c.head_of-h.ensures.0 c.head_of-h.ensures.1 c.words_of-ws.ensures) c.words_of-ws.ensures c.make.ensures.1 c.decide-e.ensures) c.settled.ensures
