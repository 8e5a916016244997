-- Four numbers, each kept or zero.
use Rattle.std.proofs.Common.{arith, ◌∙◌, sym}
use Rattle.std.proofs.lemmas.Grind.{common_steps}
use Rattle.host_bind.proofs.Trimming.{only_four}
use Rattle.host_bind.proofs.only_first.Goals as goal

pub returns : goal.returns
returns c = grind (arith, common_steps, c.from_fn.ensures.items.each) ∙ sym (only_four c.args.n c.args.xs (omega arith))
