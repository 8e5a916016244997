-- With head, words and index made.
use Rattle.check_table.specs.Known.{table-back}
use Rattle.explain.proofs.Answering.{explained-back}
use Rattle.explain.proofs.explain.Goals as goal

pub returns : goal.returns
returns c = let a = c.args in explained-back a.t _ _ _ a.request _ _ (table-back a.t _ _ c.head_of-h.ensures.0 c.head_of-h.ensures.1 c.words_of-ws.ensures) c.words_of-ws.ensures c.make.ensures.1 c.decide.ensures
