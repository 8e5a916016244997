-- What is left from slot i on answers for the whole.
use native.Mathlib.Omega.{arith}
use mathlib.Core.Path.{refl, sym, ap, ◌∙◌}
use Rattle.lists.specs.Search.{any}
use Rattle.ranges.specs.Ranges.{share}
use Rattle.rules_table.specs.Spaces.{reserved_of}
use Rattle.rules_table.specs.Words.{objects_in}
use Rattle.layout_objects.specs.Slots.{objects-long}
use Rattle.reserved_ranges.specs.Gathered.{slot-found, slot-on, slot-end}
use Rattle.rangelists.specs.Held.{ranges_of}
use Rattle.rules_table.specs.Good.{lists_touch}
use Rattle.reserved_ranges.proofs.list_touched.Goals as goal

pub loop-i-init : goal.loop-i-init
loop-i-init c = (omega arith, refl)

pub returns-then-slot_strays : goal.returns-then-slot_strays
unfolding lists_touch
returns-then-slot_strays c = slot-found (λ r. any (share r) (ranges_of c.in_use-list.result)) (objects_in c.args.h.now) _ c.loop-i.i c.loop-i.invariant.1 (omega (arith, objects-long c.args.h.now, c.loop-i-test.true)) (sym c.if-slot_strays.true ∙ c.slot_strays.ensures) ∙ ap (lists_touch (reserved_of (objects_in c.args.h.now) c.args.s)) c.in_use-list.ensures.same

pub loop-i-preserved : goal.loop-i-preserved
unfolding lists_touch
loop-i-preserved c = (omega (arith, c.loop-i-test.true), slot-on (λ r. any (share r) (ranges_of c.in_use-list.result)) (objects_in c.args.h.now) _ c.loop-i.i c.loop-i.invariant.1 (omega (arith, objects-long c.args.h.now, c.loop-i-test.true)) (sym c.if-slot_strays.false ∙ c.slot_strays.ensures))

pub returns : goal.returns
unfolding lists_touch
returns c = slot-end (λ r. any (share r) (ranges_of c.in_use-list.result)) (objects_in c.args.h.now) _ c.loop-i.i c.loop-i.invariant.1 (omega (arith, objects-long c.args.h.now, c.loop-i-test.false)) ∙ ap (lists_touch (reserved_of (objects_in c.args.h.now) c.args.s)) c.in_use-list.ensures.same
