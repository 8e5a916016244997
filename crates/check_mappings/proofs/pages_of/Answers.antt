use Rattle.std.proofs.Common.{arith}
use Rattle.check_mappings.proofs.Straying.{pages-own}
use Rattle.check_mappings.proofs.pages_of.Goals as goal

pub returns : goal.returns
returns c = (pages-own c.args.m _ (omega arith) (omega arith), omega arith)
