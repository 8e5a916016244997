use mathlib.Core.Path.{refl}
use Rattle.rules_table.specs.Words.{head_in}
use Rattle.layout_objects.proofs.limit_of.Goals as goal

pub returns : goal.returns
unfolding head_in
returns c = refl
