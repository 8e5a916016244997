-- The place has come from `from` past what the slots before i reserve.
use native.Mathlib.Omega.{arith}
use Rattle.rules_table.specs.Words.{objects_in}
use Rattle.layout_objects.specs.Slots.{objects-long}
use Rattle.reserved_ranges.proofs.Reserving.{standing_start, standing_sum, standing_never, standing_on, standing_end}
use Rattle.reserved_ranges.proofs.sweep.Goals as goal

pub loop-i-init : goal.loop-i-init
loop-i-init c = standing_start _ _ _ _ _ (omega arith)

pub overflow_add-jumps : goal.overflow_add-jumps
overflow_add-jumps c = omega (arith, standing_sum _ _ (objects_in c.args.h.now) _ _ _ _ c.loop-i.i c.loop-i.invariant (omega (arith, objects-long c.args.h.now, c.loop-i-test.true)) c.sweep_slot-r.result.spot c.sweep_slot-r.result.jumps c.sweep_slot-r.ensures, objects-long c.args.h.now)

pub returns-in_default : goal.returns-in_default
returns-in_default c = standing_never _ _ (objects_in c.args.h.now) _ _ _ _ c.loop-i.i c.loop-i.invariant (omega (arith, objects-long c.args.h.now, c.loop-i-test.true)) _ _ c.sweep_slot-r.ensures c.in_default.is

pub loop-i-preserved : goal.loop-i-preserved
loop-i-preserved c = standing_on _ _ (objects_in c.args.h.now) _ _ _ _ c.loop-i.i c.loop-i.invariant (omega (arith, objects-long c.args.h.now, c.loop-i-test.true)) _ _ c.sweep_slot-r.ensures _ c.in-Some.is

pub returns : goal.returns
returns c = standing_end _ _ (objects_in c.args.h.now) _ _ _ _ c.loop-i.i c.loop-i.invariant (omega (arith, objects-long c.args.h.now, c.loop-i-test.false))
