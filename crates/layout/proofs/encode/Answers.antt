-- Field by field.
use Rattle.rules_table.specs.Layout.{encoded}
use Rattle.layout.proofs.encode.Goals as goal

pub returns : goal.returns
unfolding encoded
returns c = cc
