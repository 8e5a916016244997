-- The limit is passed already, or by the pages, or not.
use native.Mathlib.Omega.{arith}
use Rattle.cmd_map.proofs.Making.{over, not_over}
use Rattle.cmd_map.proofs.over_limit.Goals as goal

pub returns-then-limit-charge : goal.returns-then-limit-charge
returns-then-limit-charge c = over c.args.limit c.args.charge c.args.pages (omega arith)

pub returns-then-limit-charge-2 : goal.returns-then-limit-charge-2
returns-then-limit-charge-2 c = over c.args.limit c.args.charge c.args.pages (omega arith)

pub returns : goal.returns
returns c = not_over c.args.limit c.args.charge c.args.pages (omega arith)
