-- A bad plan has no lines; the lines of a good one are those of its commands.
use native.Mathlib.Omega.{arith}
use Rattle.plan.proofs.Judging.{ready_length, ready_room}
use Rattle.plan.proofs.Lining.{bad-answers, good-fits, good-answers}
use Rattle.plan.proofs.whole.run.Goals as goal

pub returns-in_err-r : goal.returns-in_err-r
returns-in_err-r c = rw c.from_residual.ensures (bad-answers _ c.in_err-r.ensures c.args.lines.now)

pub run_all-requires : goal.run_all-requires
run_all-requires c = let e = c.in_ok-r.ensures in let f = good-fits _ _ e in let n = ready_length _ _ e in (ready_room _ _ e, omega (arith, n), omega (arith, n), omega (arith, f))

pub returns : goal.returns
returns c = good-answers _ _ c.in_ok-r.ensures _ c.run_all.ensures
