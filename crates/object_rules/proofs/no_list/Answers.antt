-- Where no range is in use, every place is asked.
use Rattle.std.proofs.Common.{sym, ◌∙◌}
use Rattle.layout_objects.proofs.Parts.{allow_part}
use Rattle.object_rules.proofs.Zeroing.{no-list}
use Rattle.object_rules.proofs.no_list.Goals as goal

pub returns-then-allows-eq0 : goal.returns-then-allows-eq0
returns-then-allows-eq0 c =
    let o = c.args.o.now in
    no-list _ _ _ (allow_part o.head.now o.at o.below _ c.words.ensures.0 c.words.ensures.1) c.are_zero.ensures (sym c.allows.ensures ∙ c.if-allows-eq0.true)
