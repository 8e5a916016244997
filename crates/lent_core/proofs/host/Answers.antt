-- 14, a fresh table, 25, 117, or an order, committed and told.
use native.Mathlib.Omega.{arith}
use Rattle.lent_core.specs.Endings.{host_short, host_fresh, host_unknown, host_bad, host_done}
use Rattle.lent_core.proofs.host.Goals as goal

pub returns-then-words-lt10 : goal.returns-then-words-lt10
returns-then-words-lt10 c = host_short _ _ _ _ _ _ _ _ (omega arith) c.refused.ensures (omega arith)

pub returns-then-kind-eq0 : goal.returns-then-kind-eq0
returns-then-kind-eq0 c = host_fresh _ _ _ _ _ _ _ _ _ (omega arith) (omega arith) c.fresh.ensures

pub returns-then-kind-gt6 : goal.returns-then-kind-gt6
returns-then-kind-gt6 c = host_unknown _ _ _ _ _ _ _ _ (omega arith) (omega arith) c.refused-then-kind-gt6.ensures (omega arith)

pub returns-then-count-ne-RECORDS : goal.returns-then-count-ne-RECORDS
returns-then-count-ne-RECORDS c = host_bad _ _ _ _ _ _ _ (omega arith) (λ x. omega (arith, x)) c.order_in-o.ensures _ _ (λ x. omega (arith, x))
    c.refused-then-count-ne-RECORDS.ensures (omega arith)

pub returns : goal.returns
returns c = host_done _ _ _ _ _ _ _ (omega arith) (λ x. omega (arith, x))
    c.order_in-o.ensures _ _ _ _ (omega arith)
    c.decide_host-e.ensures c.answer.ensures c.commit.ensures
    c.tell.ensures
