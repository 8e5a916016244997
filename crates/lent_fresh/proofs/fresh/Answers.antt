-- By the number of records and of words beside them, and the limit.
use borrow.Author.Rules.{rules}
use native.Mathlib.Omega.{arith}
use mathlib.Core.Logic.{inl, inr}
use Rattle.lent_fresh.specs.Endings.{fresh-short, fresh-other, fresh-over, fresh-made}
use Rattle.lent_fresh.proofs.fresh.Goals as goal

pub returns-then-count-ne-RECORDS : goal.returns-then-count-ne-RECORDS
returns-then-count-ne-RECORDS c =
    elim c.then-count-ne-RECORDS.either [
      | inl n ↦ fresh-short _ _ _ _ _ _ (λ x. omega (arith, n, x)) c.refused.ensures (omega arith)
      | inr p ↦ fresh-other _ _ _ _ _ _ (omega (arith, p.0)) (λ x. omega (arith, p.1, x)) c.refused.ensures (omega arith)
    ]

pub returns-then-limit-gt68719476736 : goal.returns-then-limit-gt68719476736
returns-then-limit-gt68719476736 c = fresh-over _ _ _ _ _ _ (omega arith) (omega arith) (omega arith) c.refused-then-limit-gt68719476736.ensures (omega arith)

pub returns : goal.returns
returns c = fresh-made _ _ _ _ _ _ (omega arith) (omega arith) (omega arith) c.fresh.ensures (search rules)
