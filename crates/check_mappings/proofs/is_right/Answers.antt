use Rattle.std.proofs.Common.{arith}
use Rattle.check_mappings.proofs.Ruling.{not_right, right-even}
use Rattle.check_mappings.proofs.is_right.Goals as goal

pub returns-then-page-eq0 : goal.returns-then-page-eq0
returns-then-page-eq0 c = let a = c.args in not_right a.page a.m (λ r. r.some c.if-page-eq0.true)

pub returns-then-m-gt1 : goal.returns-then-m-gt1
returns-then-m-gt1 c = let a = c.args in not_right a.page a.m (λ r. omega (arith, r.founder, c.if-m-gt1.true))

pub returns-then-m : goal.returns-then-m
returns-then-m c = let a = c.args in not_right a.page a.m (λ r. omega (arith, r.writes, c.if-m.true))

pub returns-then-m-eq0 : goal.returns-then-m-eq0
returns-then-m-eq0 c = let a = c.args in not_right a.page a.m (λ r. omega (arith, r.first, c.if-m-eq0.true))

pub returns-then-m-gt3 : goal.returns-then-m-gt3
returns-then-m-gt3 c = let a = c.args in not_right a.page a.m (λ r. omega (arith, r.both, c.if-m-gt3.true))

pub returns-then-m-eq0-2 : goal.returns-then-m-eq0-2
returns-then-m-eq0-2 c = let a = c.args in not_right a.page a.m (λ r. omega (arith, r.from, c.if-m-eq0-2.true))

pub returns-then-m-gt128 : goal.returns-then-m-gt128
returns-then-m-gt128 c = let a = c.args in not_right a.page a.m (λ r. omega (arith, r.upto, c.if-m-gt128.true))

pub returns-then-n-gt1099511627775 : goal.returns-then-n-gt1099511627775
returns-then-n-gt1099511627775 c = let a = c.args in not_right a.page a.m (λ r. omega (arith, r.long, r.short, c.if-n-gt1099511627775.true))

pub returns-then-top-m : goal.returns-then-top-m
returns-then-top-m c = let a = c.args in not_right a.page a.m (λ r. omega (arith, r.ends, r.long, r.short, c.if-top-m.true))

pub returns-then-top-m-2 : goal.returns-then-top-m-2
returns-then-top-m-2 c = let a = c.args in not_right a.page a.m (λ r. omega (arith, r.holds, r.long, r.short, c.if-top-m-2.true))

pub returns : goal.returns
returns c = let a = c.args in right-even a.page a.m _ c.is_fit.ensures (λ h. record { some = c.if-page-eq0.false; founder = omega (arith, c.if-m-gt1.false); writes = omega (arith, c.if-m.false); first = omega (arith, c.if-m-eq0.false); both = omega (arith, c.if-m-gt3.false); from = omega (arith, c.if-m-eq0-2.false); upto = omega (arith, c.if-m-gt128.false); long = omega (arith, c.if-n-gt1099511627775.false); short = omega (arith, c.if-n-gt1099511627775.false); ends = omega (arith, c.if-n-gt1099511627775.false, c.if-top-m.false); holds = omega (arith, c.if-n-gt1099511627775.false, c.if-top-m-2.false); even = h })
