-- What is left to count and to write from x on answers for the whole.
use native.Mathlib.Omega.{arith}
use Rattle.rules_table.specs.Spaces.{reserved_of}
use Rattle.rules_table.specs.Words.{objects_in}
use Rattle.layout_objects.specs.Slots.{objects-long}
use Rattle.reserved_ranges.specs.Gathered.{reserved_of-most}
use Rattle.reserved_ranges.proofs.Writing.{work_start, work_none, work_on, work_small, work_further, work_last}
use Rattle.reserved_ranges.proofs.write_free.Goals as goal

pub loop-free-init : goal.loop-free-init
loop-free-init c = work_start _ _ _

pub returns-in_default : goal.returns-in_default
returns-in_default c = work_none (reserved_of (objects_in c.args.h.now) c.args.s) _ _ _ _ _ c.loop-free.invariant _ c.next_free.ensures c.in_default.is

pub overflow_add-k : goal.overflow_add-k
overflow_add-k c = omega (arith, work_small (reserved_of (objects_in c.args.h.now) c.args.s) _ _ _ _ _ c.loop-free.invariant _ c.next_free.ensures _ _ c.in-Some.is, reserved_of-most (objects_in c.args.h.now) c.args.s, objects-long c.args.h.now)

pub returns-then-free : goal.returns-then-free
returns-then-free c = work_last (reserved_of (objects_in c.args.h.now) c.args.s) _ _ _ _ _ c.loop-free.invariant _ c.next_free.ensures _ _ c.in-Some.is _ c.put_range.ensures (omega arith)

pub loop-free-smaller : goal.loop-free-smaller
loop-free-smaller c = omega (arith, work_further (reserved_of (objects_in c.args.h.now) c.args.s) _ _ _ _ _ c.loop-free.invariant _ c.next_free.ensures _ _ c.in-Some.is)

pub loop-free-preserved : goal.loop-free-preserved
loop-free-preserved c = work_on (reserved_of (objects_in c.args.h.now) c.args.s) _ _ _ _ _ c.loop-free.invariant _ c.next_free.ensures _ _ c.in-Some.is _ c.put_range.ensures
