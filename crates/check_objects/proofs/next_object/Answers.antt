use borrow.Author.Rules.{rules}
use native.Mathlib.Omega.{arith}
use Rattle.std.proofs.Common.{◌≡◌, subst}
use Rattle.rules_table.specs.Words.{objects_in}
use Rattle.check_objects.specs.Passed.{Next}
use Rattle.check_objects.proofs.Skipping.{next_start, next-on}
use Rattle.check_objects.proofs.next_object.Goals as goal

pub loop-i-init : goal.loop-i-init
loop-i-init c = next_start _ _ (search rules)

pub returns-then-not-is_released : goal.returns-then-not-is_released
returns-then-not-is_released c = c.loop-i.invariant

pub loop-i-preserved : goal.loop-i-preserved
loop-i-preserved c = let l = c.loop-i in
    next-on _ _ _ l.invariant (omega (arith, c.loop-i-test.true)) (c.is_released.ensures c.if-not-is_released.false)

pub returns : goal.returns
returns c = let l = c.loop-i in
    let e : l.i ≡ 32 = omega (arith, l.auto.i-end, c.requires) in
    subst (Next (objects_in c.args.h.now) c.args.from) e l.invariant
