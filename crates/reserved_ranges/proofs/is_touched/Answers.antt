-- What is left from slot i on answers for the whole.
use native.Mathlib.Omega.{arith}
use mathlib.Core.Path.{refl, sym, ◌∙◌}
use Rattle.ranges.specs.Ranges.{share}
use Rattle.rules_table.specs.Words.{objects_in}
use Rattle.layout_objects.specs.Slots.{objects-long}
use Rattle.reserved_ranges.specs.Gathered.{slot-found, slot-on, slot-end}
use Rattle.reserved_ranges.proofs.is_touched.Goals as goal

pub loop-k-init : goal.loop-k-init
loop-k-init c = (omega arith, refl)

pub returns-then-slot_touched : goal.returns-then-slot_touched
returns-then-slot_touched c = slot-found (share c.args.r) (objects_in c.args.h.now) _ c.loop-k.k c.loop-k.invariant.1 (omega (arith, objects-long c.args.h.now, c.loop-k-test.true)) (sym c.if-slot_touched.true ∙ c.slot_touched.ensures)

pub loop-k-preserved : goal.loop-k-preserved
loop-k-preserved c = (omega (arith, c.loop-k-test.true), slot-on (share c.args.r) (objects_in c.args.h.now) _ c.loop-k.k c.loop-k.invariant.1 (omega (arith, objects-long c.args.h.now, c.loop-k-test.true)) (sym c.if-slot_touched.false ∙ c.slot_touched.ensures))

pub returns : goal.returns
returns c = slot-end (share c.args.r) (objects_in c.args.h.now) _ c.loop-k.k c.loop-k.invariant.1 (omega (arith, objects-long c.args.h.now, c.loop-k-test.false))
