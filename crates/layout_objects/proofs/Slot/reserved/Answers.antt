-- Words of the head for each field.
use Rattle.std.proofs.Common.{ap, ◌∙◌, take_all, rules, arith}
use Rattle.rules_table.specs.Words.{low}
use Rattle.layout_objects.proofs.Parts.{reserves_word, starts_part, lasts_part, starts-long, lasts-long}
use Rattle.layout_objects.proofs.Slot.reserved.Goals as goal

pub returns : goal.returns
returns c =
    let o = c.args.self.now in
    let h = o.head.now in
    rw (
      c.low.ensures ∙ ap low c.word.ensures ∙ reserves_word h o.at o.below,
      starts_part h o.at o.below _ _ 4 0 c.words_at.ensures (search rules) (omega arith) (omega arith) ∙ take_all 4 _ (omega (arith, starts-long h o.at o.below)),
      lasts_part h o.at o.below _ _ 4 0 c.words_at-2.ensures (search rules) (omega arith) (omega arith) ∙ take_all 4 _ (omega (arith, lasts-long h o.at o.below)),
    )
