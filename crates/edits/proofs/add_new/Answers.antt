-- By the record found.
use native.Mathlib.Omega.{arith}
use Rattle.edits.proofs.Looking.{free-below, placed_at, placed-nowhere}
use Rattle.edits.proofs.add_new.Goals as goal

pub returns-in_default : goal.returns-in_default
returns-in_default c = λ os l e. placed-nowhere os _ e _ _ c.in_default.is c.refusal.ensures

pub returns-then-i-ge32 : goal.returns-then-i-ge32
returns-then-i-ge32 c = λ os l e. absurd (omega (arith, free-below os _ e _ c.in-Some.is l, c.if-i-ge32.true))

pub returns : goal.returns
returns c = λ os l e. placed_at os _ e _ _ _ c.in-Some.is c.acceptance.ensures
