-- Words of the head for each field.
use Rattle.std.proofs.Common.{ap, ◌∙◌, take_all, rules, arith}
use Rattle.rules_table.specs.Words.{high}
use Rattle.layout_objects.proofs.Parts.{allows_word, froms_part, ends_part, froms-long, ends-long}
use Rattle.layout_objects.proofs.Slot.allow.Goals as goal

pub returns : goal.returns
returns c =
    let o = c.args.self.now in
    let h = o.head.now in
    rw (
      c.high.ensures ∙ ap high c.word.ensures ∙ allows_word h o.at o.below,
      froms_part h o.at o.below _ _ 8 0 c.words_at.ensures (search rules) (omega arith) (omega arith) ∙ take_all 8 _ (omega (arith, froms-long h o.at o.below)),
      ends_part h o.at o.below _ _ 8 0 c.words_at-2.ensures (search rules) (omega arith) (omega arith) ∙ take_all 8 _ (omega (arith, ends-long h o.at o.below)),
    )
