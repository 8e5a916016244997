-- The best so far and what is left of the windows give the answer.
use native.Mathlib.Omega.{arith}
use Rattle.rules_table.specs.Words.{objects_in}
use Rattle.layout_mappings.specs.Words.{records_of}
use Rattle.layout_objects.specs.Slots.{objects-long}
use Rattle.rules_calls.specs.Landing.{blocked_in}
use Rattle.landing.proofs.Joining.{blocked_most, join_start, join_small, join_on, join_end, each-listed}
use Rattle.landing.proofs.search_each.Goals as goal

pub loop-i-init : goal.loop-i-init
loop-i-init c = (c.in_use-windows.ensures.few, join_start _ _ _ _ _ _ _ _)

pub overflow_add-jumps : goal.overflow_add-jumps
overflow_add-jumps c = let l = c.loop-i in omega (arith, join_small _ _ _ _ (blocked_in (objects_in c.args.h.now) (records_of c.args.ms.now.records.now) c.args.s) _ _ _ _ l.i l.invariant.1 (omega (arith, blocked_most (objects_in c.args.h.now) (records_of c.args.ms.now.records.now) c.args.s, objects-long c.args.h.now, c.args.ms.now.indexed.counted)) l.invariant.0, c.gap_in-r.ensures.1, blocked_most (objects_in c.args.h.now) (records_of c.args.ms.now.records.now) c.args.s, objects-long c.args.h.now, c.args.ms.now.indexed.counted)

pub loop-i-preserved : goal.loop-i-preserved
loop-i-preserved c = let l = c.loop-i in (l.invariant.0, join_on _ _ _ _ (blocked_in (objects_in c.args.h.now) (records_of c.args.ms.now.records.now) c.args.s) _ _ _ _ l.i l.invariant.1 _ _ _ _ (omega arith) c.at.ensures c.gap_in-r.ensures c.lower_spot-best.ensures)

pub returns : goal.returns
returns c = let l = c.loop-i in each-listed _ _ _ _ (blocked_in (objects_in c.args.h.now) (records_of c.args.ms.now.records.now) c.args.s) _ _ _ _ c.in_use-windows.ensures.same (join_end _ _ _ _ (blocked_in (objects_in c.args.h.now) (records_of c.args.ms.now.records.now) c.args.s) _ _ _ _ l.i l.invariant.1 (omega arith))
