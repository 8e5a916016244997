use Rattle.layout_mappings.specs.Words.{records-set}
use Rattle.layout_mappings.proofs.put.Goals as goal

pub returns : goal.returns
returns c = records-set c.args.ws.now c.args.i c.words.result c.args.m c.words.ensures.1
