-- Covered addresses are passed; the first clear one begins the range.
use native.Mathlib.Omega.{arith}
use mathlib.Core.Path.{refl}
use Rattle.rules_table.specs.Spaces.{reserved_of}
use Rattle.rules_table.specs.Words.{objects_in}
use Rattle.reserved_ranges.proofs.Stepping.{gap_found, gap_on, gap_end, gap_further}
use Rattle.reserved_ranges.proofs.next_free.Goals as goal

pub loop-end-init : goal.loop-end-init
loop-end-init c = record { fits = omega arith; same = refl }

pub returns-in-None : goal.returns-in-None
returns-in-None c = gap_found (reserved_of (objects_in c.args.h.now) c.args.s) _ _ c.loop-end.invariant _ c.covering.ensures c.in-None.is _ c.run_end.ensures

pub returns-then-end : goal.returns-then-end
returns-then-end c = gap_end (reserved_of (objects_in c.args.h.now) c.args.s) _ _ c.loop-end.invariant _ c.covering.ensures _ c.in-Some.is (omega arith)

pub loop-end-smaller : goal.loop-end-smaller
loop-end-smaller c = omega (arith, gap_further (reserved_of (objects_in c.args.h.now) c.args.s) _ _ c.loop-end.invariant _ c.covering.ensures _ c.in-Some.is)

pub loop-end-preserved : goal.loop-end-preserved
loop-end-preserved c = gap_on (reserved_of (objects_in c.args.h.now) c.args.s) _ _ c.loop-end.invariant _ c.covering.ensures _ c.in-Some.is (omega arith)
