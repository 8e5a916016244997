-- Parts of its lists.
use Rattle.std.proofs.Common.{ap, ◌∙◌, ℕ, min}
use Rattle.rules_table.specs.Words.{low}
use Rattle.layout_objects.proofs.Parts.{reserves_word, reserved_used}
use Rattle.layout_objects.proofs.Slot.reserved_in_use.Goals as goal

pub returns : goal.returns
returns c =
    let o = c.args.self.now in
    let n = c.used-n.ensures ∙ ap (λ (x : ℕ). min x 4) (c.low.ensures ∙ ap low c.word.ensures ∙ reserves_word o.head.now o.at o.below) in
    let s = c.words.ensures in
    let e = c.words-2.ensures in
    reserved_used o.head.now o.at o.below _ n _ _ s.0 s.1 e.0 e.1
