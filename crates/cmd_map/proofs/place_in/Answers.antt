-- The place: what a fixed range touches, or the lowest candidate.
use mathlib.Core.Path.{sym, ap, ◌∙◌}
use Rattle.lists.specs.Search.{any}
use Rattle.ranges.specs.declared.Range.{Range}
use Rattle.ranges.specs.Ranges.{share}
use Rattle.rules_table.specs.declared.Object.{Object}
use Rattle.rules_table.specs.Spaces.{reserved_of}
use Rattle.rules_table.specs.Words.{objects_in}
use Rattle.layout_mappings.specs.Words.{records_of}
use Rattle.cmd_map.proofs.Staging.{touched-is}
use Rattle.cmd_map.proofs.place_in.Goals as goal

pub returns-then-is_fixed : goal.returns-then-is_fixed
returns-then-is_fixed c = λ e. let a = c.args in let os = objects_in a.h.now in let ms = records_of a.ms.now.records.now in (c.place_fixed.ensures) os ms (sym (c.is_fixed.ensures) ∙ c.if-is_fixed.true) e ((c.is_touched-reserved.ensures) ∙ ap (λ (r : Range). any (share r) (reserved_of os a.t.space)) (c.span_of-r.ensures)) (touched-is ms _ _ _ _ _ (c.span_of-r.ensures) c.is_taken-touched.ensures)

pub returns : goal.returns
returns c = λ e. (c.place_automatic.ensures) c.requires (sym (c.is_fixed.ensures) ∙ c.if-is_fixed.false) e (ap (λ (o : Object). o.allow) c.object_of.ensures)
