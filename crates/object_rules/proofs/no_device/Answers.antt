-- Where no range is in use, every place is asked.
use mathlib.Core.Path.{sym, ◌∙◌}
use borrow.Author.Tests.{eqb-true, ne_eqb}
use Rattle.lists.specs.Tests.{contrary}
use Rattle.layout_objects.proofs.Parts.{reserved_part}
use Rattle.object_rules.proofs.Zeroing.{no-device}
use Rattle.object_rules.proofs.no_device.Goals as goal
use Rattle.object_rules.proofs.no_device.Goals.{then-bitmap-eq0, else-bitmap-eq0}

pub returns-then-reserves-eq0 : goal.returns-then-reserves-eq0
returns-then-reserves-eq0 c =
    let o = c.args.o.now in
    elim c.if-bitmap-eq0.branch [
      | then-bitmap-eq0 w ↦
          no-device _ _ _ (reserved_part o.head.now o.at o.below _ c.words.ensures.0 c.words.ensures.1) c.are_zero.ensures
          (sym c.bitmap.ensures ∙ w.if-bitmap-eq0.true) (sym w.reserves.ensures ∙ eqb-true _ 0 (sym w.value-is ∙ c.if-reserves-eq0.true))
      | else-bitmap-eq0 w ↦ contrary _ c.if-reserves-eq0.true (w.value-is ∙ ne_eqb _ 0 w.if-bitmap-eq0.false)
    ]
