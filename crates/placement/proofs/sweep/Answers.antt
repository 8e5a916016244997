-- The place has come from `from` by so many jumps, and where it has not moved, what is left tells whether anything is touched.
use native.Mathlib.Omega.{arith}
use mathlib.Core.Path.{sym, ◌∙◌}
use Rattle.placement.specs.Sweeping.{jumps_most, sweep_small, sweep_on, sweep_never, sweep_end}
use Rattle.placement.proofs.sweep.Goals as goal

pub returns-in_default : goal.returns-in_default
returns-in_default c = let l = c.loop-i in sweep_never _ _ _ _ _ _ l.i l.invariant (omega arith) (rw (← c.at.ensures) (sym c.past.ensures ∙ c.in_default.is))

pub overflow_add-jumps : goal.overflow_add-jumps
overflow_add-jumps c = let l = c.loop-i in omega (arith, sweep_small _ _ _ _ _ _ l.i l.invariant, jumps_most l.x c.in-Some.y)

pub loop-i-preserved : goal.loop-i-preserved
loop-i-preserved c =
    let l = c.loop-i in rw c.jumps_to-jumps.ensures (sweep_on _ _ _ _ _ _ l.i l.invariant (omega arith) _ (rw (← c.at.ensures) (sym c.past.ensures ∙ c.in-Some.is)))

pub returns : goal.returns
returns c = let l = c.loop-i in sweep_end _ _ _ _ _ _ l.i l.invariant (omega arith)
