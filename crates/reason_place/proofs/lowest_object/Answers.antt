use native.Mathlib.Omega.{arith}
use mathlib.Core.Path.{sym, ◌∙◌}
use Rattle.reason_place.proofs.Seeking.{seek-start, seek-here, seek-next, seek-nothing}
use Rattle.lists.specs.Search.{any}
use Rattle.ranges.specs.Ranges.{share}
use Rattle.rules_table.specs.declared.Object.{Object}
use Rattle.rules_table.specs.Records.{zero_object}
use Rattle.rules_table.specs.Spaces.{reserved_for}
use Rattle.rules_table.specs.Words.{objects_in}
use Rattle.layout_objects.specs.Slots.{objects-long}
use Rattle.rules_reasons.specs.Reasons.{object_touched}
use Rattle.reason_place.proofs.lowest_object.Goals as goal

pub loop-i-init : goal.loop-i-init
loop-i-init c = (omega arith, seek-start (λ (o : Object). any (share c.args.r) (reserved_for c.args.s o)) (objects_in c.args.h.now))

pub returns-then-slot_touched : goal.returns-then-slot_touched
unfolding object_touched
returns-then-slot_touched c = seek-here (λ (o : Object). any (share c.args.r) (reserved_for c.args.s o)) (objects_in c.args.h.now) zero_object c.loop-i.i c.loop-i.invariant.1 _ (omega arith) (omega (arith, objects-long c.args.h.now, c.loop-i-test.true)) (sym c.slot_touched.ensures ∙ c.if-slot_touched.true)

pub loop-i-preserved : goal.loop-i-preserved
loop-i-preserved c = (omega (arith, c.loop-i-test.true), seek-next (λ (o : Object). any (share c.args.r) (reserved_for c.args.s o)) (objects_in c.args.h.now) zero_object c.loop-i.i c.loop-i.invariant.1 (omega (arith, objects-long c.args.h.now, c.loop-i-test.true)) (sym c.slot_touched.ensures ∙ c.if-slot_touched.false))

pub returns : goal.returns
unfolding object_touched
returns c = seek-nothing (λ (o : Object). any (share c.args.r) (reserved_for c.args.s o)) (objects_in c.args.h.now) zero_object c.loop-i.i c.loop-i.invariant.1 (omega (arith, objects-long c.args.h.now, c.loop-i-test.false))
