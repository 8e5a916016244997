use Rattle.check_table.specs.Known.{table-back}
use Rattle.host_calls.proofs.Guarding.{made-back}
use Rattle.host_calls.proofs.decided.Goals as goal

pub returns : goal.returns
returns c = let a = c.args in made-back a.t _ _ _ a.o _ (table-back a.t _ _ c.head_of-h.ensures.0 c.head_of-h.ensures.1 c.words_of-ws.ensures) c.words_of-ws.ensures c.make.ensures.1 c.decide_host.ensures
