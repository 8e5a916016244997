-- What is left from slot i on answers for the whole.
use native.Mathlib.Omega.{arith}
use mathlib.Core.Path.{refl}
use Rattle.rules_table.specs.Words.{objects_in}
use Rattle.layout_objects.specs.Slots.{objects-long}
use Rattle.reserved_ranges.proofs.Turning.{slot-covers, slot-clears, all-clear}
use Rattle.reserved_ranges.proofs.covering.Goals as goal

pub loop-i-init : goal.loop-i-init
loop-i-init c = (omega arith, refl)

pub returns-then-is_some : goal.returns-then-is_some
returns-then-is_some c = slot-covers (objects_in c.args.h.now) _ c.loop-i.i _ c.loop-i.invariant.1 _ c.slot_cover-c.ensures _ (omega (arith, objects-long c.args.h.now, c.loop-i-test.true)) c.is_some.ensures c.if-is_some.true

pub loop-i-preserved : goal.loop-i-preserved
loop-i-preserved c = (omega (arith, c.loop-i-test.true), slot-clears (objects_in c.args.h.now) _ c.loop-i.i _ c.loop-i.invariant.1 _ c.slot_cover-c.ensures _ (omega (arith, objects-long c.args.h.now, c.loop-i-test.true)) c.is_some.ensures c.if-is_some.false)

pub returns : goal.returns
returns c = all-clear (objects_in c.args.h.now) _ c.loop-i.i _ c.loop-i.invariant.1 (omega (arith, objects-long c.args.h.now, c.loop-i-test.false))
