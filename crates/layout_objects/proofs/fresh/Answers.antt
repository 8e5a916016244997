use Rattle.layout_objects.proofs.Clearing.{filled-limit}
use Rattle.std.proofs.Common.{rules}
use Rattle.layout_objects.proofs.fresh.Goals as goal

pub returns : goal.returns
returns c = filled-limit _ _ _ (c.fill.ensures.after (λ y e. e)) (search rules)
