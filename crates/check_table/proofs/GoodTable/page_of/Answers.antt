use native.Mathlib.Omega.{arith}
use Rattle.rules_table.specs.Words.{objects_in}
use Rattle.check_table.specs.Known.{page-is}
use Rattle.check_table.proofs.GoodTable.page_of.Goals as goal

pub returns : goal.returns
returns c = omega (arith, c.page_of.ensures, page-is (objects_in c.args.self.now.head.now) c.args.self.now.pages.now c.args.self.now.known.aligned c.args.space)
