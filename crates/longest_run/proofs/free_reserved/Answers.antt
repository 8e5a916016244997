-- What is left of the slots gives the answer.
use mathlib.Core.Path.{refl, sym, ap, ◌∙◌}
use native.Mathlib.Omega.{arith}
use Rattle.ranges.specs.Ranges.{U64MAX}
use Rattle.rules_table.specs.Records.{zero_object}
use Rattle.rules_table.specs.Spaces.{reserved_for}
use Rattle.rules_table.specs.Words.{objects_in}
use Rattle.layout_objects.specs.Slots.{objects-long}
use Rattle.runs.specs.Runs.{free_to}
use Rattle.longest_run.specs.Parts.{reserved-each}
use Rattle.longest_run.proofs.Parting.{free-nowhere, free_on, free-end}
use Rattle.longest_run.proofs.free_reserved.Goals as goal

pub loop-k-init : goal.loop-k-init
loop-k-init c = refl

pub returns-in_err-e : goal.returns-in_err-e
returns-in_err-e c = let a = c.args in let l = c.loop-k in c.from_residual.ensures ∙ free-nowhere (reserved_for a.s) (objects_in a.h.now) zero_object _ _ _ l.k l.invariant (omega (arith, objects-long a.h.now, c.loop-k-test.true)) _ c.free_slot.ensures c.in_err-e.was ∙ sym (ap (free_to U64MAX _) (reserved-each (objects_in a.h.now) _))

pub loop-k-preserved : goal.loop-k-preserved
loop-k-preserved c = let a = c.args in let l = c.loop-k in free_on (reserved_for a.s) (objects_in a.h.now) zero_object _ _ _ l.k l.invariant (omega (arith, objects-long a.h.now, c.loop-k-test.true)) _ c.free_slot.ensures _ c.in_ok-e.was

pub returns : goal.returns
returns c = let a = c.args in let l = c.loop-k in free-end (reserved_for a.s) (objects_in a.h.now) zero_object _ _ _ l.k l.invariant (omega (arith, objects-long a.h.now, c.loop-k-test.false)) ∙ sym (ap (free_to U64MAX _) (reserved-each (objects_in a.h.now) _))
