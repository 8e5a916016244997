-- One law for each answer.
use native.Mathlib.Omega.{arith}
use Rattle.longest_run.proofs.Parting.{record_other, record_taken, record_cut}
use Rattle.longest_run.proofs.free_record.Goals as goal

pub returns-then-m-s : goal.returns-then-m-s
returns-then-m-s c = record_other _ _ _ c.record-m.ensures _ _ (λ e. omega (arith, e))

pub returns-then-shares : goal.returns-then-shares
returns-then-shares c = record_taken _ _ _ c.record-m.ensures _ _ (omega arith) _ c.span_of-q.ensures _ _ _ c.shares.ensures (omega arith) (omega arith) c.if-shares.true

pub returns : goal.returns
returns c = record_cut _ _ _ c.record-m.ensures _ _ (omega arith) _ c.span_of-q.ensures _ _ _ c.shares.ensures (omega arith) (omega arith) c.if-shares.false _ c.cut_at.ensures
