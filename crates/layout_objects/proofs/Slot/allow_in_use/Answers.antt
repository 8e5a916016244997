-- Parts of its lists.
use Rattle.std.proofs.Common.{ap, ◌∙◌, ℕ, min}
use Rattle.rules_table.specs.Words.{high}
use Rattle.layout_objects.proofs.Parts.{allows_word, allow_used}
use Rattle.layout_objects.proofs.Slot.allow_in_use.Goals as goal

pub returns : goal.returns
returns c =
    let o = c.args.self.now in
    let n = c.used-n.ensures ∙ ap (λ (x : ℕ). min x 8) (c.high.ensures ∙ ap high c.word.ensures ∙ allows_word o.head.now o.at o.below) in
    let s = c.words.ensures in
    let e = c.words-2.ensures in
    allow_used o.head.now o.at o.below _ n _ _ s.0 s.1 e.0 e.1
