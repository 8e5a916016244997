-- One law a return.
use native.Mathlib.Omega.{arith}
use mathlib.Core.Path.{◌∙◌}
use borrow.Author.Tests.{le-leb}
use Rattle.records.proofs.Touching.{elsewhere, above, starts, below}
use Rattle.records.proofs.is_touched.Goals as goal
use Rattle.records.proofs.is_touched.Goals.{then-n-space-via-then-n-space, then-n-space-via-else-n-space+then-last-n}

pub returns-then-n-space : goal.returns-then-n-space
returns-then-n-space c =
    elim c.then-n-space.branch [
      | then-n-space-via-then-n-space w ↦ elsewhere _ _ _ _ (λ e. omega (arith, e))
      | then-n-space-via-else-n-space+then-last-n w ↦ above _ _ _ _ (omega arith) (omega arith)
    ]

pub returns-then-first-n : goal.returns-then-first-n
returns-then-first-n c = le-leb _ _ c.if-first-n.true ∙ starts _ _ _ _ (omega arith) (omega arith) (omega arith) (omega arith)

pub returns-else-first-n : goal.returns-else-first-n
returns-else-first-n c = below _ _ _ _ (omega arith) (omega arith) (omega arith) (omega arith)
