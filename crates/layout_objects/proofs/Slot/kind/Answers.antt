use Rattle.std.proofs.Common.{ap, ◌∙◌, sym}
use Rattle.rules_table.specs.Words.{low, high}
use Rattle.layout_objects.specs.Slots.{kind-words, kind-blank}
use Rattle.layout_objects.proofs.Slot.kind.Goals as goal

pub returns-then-w-eq0 : goal.returns-then-w-eq0
returns-then-w-eq0 c = let o = c.args.self.now in kind-blank o.head.now o.at o.below (sym c.word-w.ensures ∙ c.if-w-eq0.true)

pub returns : goal.returns
returns c = let o = c.args.self.now in
    c.kind_of.ensures ∙ kind-words o.head.now o.at c.low.result c.high.result o.below (c.low.ensures ∙ ap low c.word-w.ensures) (c.high.ensures ∙ ap high c.word-w.ensures)
