-- Field by field.
use Rattle.std.proofs.Common.{◌∙◌}
use Rattle.layout_objects.proofs.Parts.{bitmap_word}
use Rattle.layout_objects.proofs.Slot.object.Goals as goal

pub returns : goal.returns
returns c =
    let o = c.args.self.now in
    rw (c.kind.ensures, c.word.ensures ∙ bitmap_word o.head.now o.at o.below, c.reserved.ensures, c.allow.ensures)
