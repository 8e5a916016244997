-- What the alignment that the check found for a space tells, 0 where the id is no space.
use Rattle.std.specs.Prelude.{ℕ, ◌≡◌, true, not, List, eqb}
use Rattle.std.proofs.Common.{◌∙◌, arith}
use borrow.Author.Tests.{ne_eqb}
use Rattle.lists.specs.Tests.{by-test}
use Rattle.rules_table.specs.declared.Object.{Object}
use Rattle.rules_table.specs.Records.{space_at}
use Rattle.rules_table.specs.Spaces.{alignment}
use Rattle.table.specs.Aligned.{alignment-pos}
use Rattle.table.specs.Checked.{page_at}

module _ (os : List Object) (s a : ℕ) (e : a ≡ page_at os s) where
  -- an alignment is 1 at least, so 0 is no space
  pub page-known : not (eqb a 0) ≡ space_at os s
  unfolding page_at
  page-known =
      by-test (space_at os s)
      (λ t. rw (e, t, ne_eqb (alignment os s) 0 (λ z. omega (arith, z, alignment-pos os s))))
      (λ f. rw (e, f))

  pub page-aligned : space_at os s ≡ true → a ≡ alignment os s
  unfolding page_at
  page-aligned t = e ∙ rw t
