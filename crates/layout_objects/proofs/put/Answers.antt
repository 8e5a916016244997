use mathlib.Core.Path.{ap, ◌∙◌}
use native.Mathlib.Omega.{arith}
use Rattle.rules_table.specs.Layout.{encoded}
use Rattle.rules_table.specs.Words.{head_in}
use Rattle.layout_objects.specs.Writing.{head-put}
use Rattle.layout_objects.proofs.put.Goals as goal

pub returns : goal.returns
returns c = ap head_in c.put_words.ensures ∙ head-put _ c.args.i c.words_of.result
    (encoded c.args.o) (c.words_of.ensures ∙ c.encode.ensures) (omega arith)
