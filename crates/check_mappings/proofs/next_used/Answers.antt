use Rattle.std.proofs.Common.{sym, ◌∙◌, arith}
use Rattle.check_mappings.proofs.Skipping.{skipping_none}
use Rattle.check_mappings.proofs.next_used.Goals as goal

pub returns-then-is_used : goal.returns-then-is_used
returns-then-is_used c = let a = c.args in skipping_none a.ws.now a.from (omega (arith, c.if-from-lt128.true, c.requires.1)) (sym c.is_used.ensures ∙ c.if-is_used.true)
