-- What is left from slot i on, with the lowest so far, answers for the whole.
use native.Mathlib.Omega.{arith}
use Rattle.rules_table.specs.Words.{objects_in}
use Rattle.layout_objects.specs.Slots.{objects-long}
use Rattle.reserved_ranges.proofs.Turning.{ends-start, ends_on, ends-done}
use Rattle.reserved_ranges.proofs.run_end.Goals as goal

pub loop-i-init : goal.loop-i-init
loop-i-init c = (omega arith, omega arith, ends-start _ _)

pub loop-i-preserved : goal.loop-i-preserved
loop-i-preserved c = (omega (arith, c.loop-i-test.true), omega (arith, c.min-lowest.ensures, c.loop-i.invariant.1), rw c.min-lowest.ensures (ends_on (objects_in c.args.h.now) _ c.loop-i.i _ _ c.loop-i.invariant.2 _ (omega (arith, objects-long c.args.h.now, c.loop-i-test.true)) c.slot_end.ensures))

pub returns : goal.returns
returns c = ends-done (objects_in c.args.h.now) _ c.loop-i.i _ _ c.loop-i.invariant.2 (omega (arith, objects-long c.args.h.now, c.loop-i-test.false)) c.loop-i.invariant.1
