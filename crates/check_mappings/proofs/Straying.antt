-- What each return of a leaf gives, in the words of the definitions.
use Rattle.std.proofs.Common.{◌≡◌, ℕ, zero, suc, ◌+◌, ◌-◌, ◌/◌, ◌<◌, Bool, false, eqb, List, length, get_or, sym, ap, ◌∙◌, arith, eq-eqb, ne_eqb, eqb-true}
use lib.ListN.{get_or-eq_default}
use borrow.Author.Tests.{eqb-false}
use Rattle.lists.specs.Tests.{by-test}
use Rattle.ranges.specs.Pages.{pages_touched}
use Rattle.rules_table.specs.declared.Mapping.{Mapping}
use Rattle.rules_table.specs.Records.{zero_mapping, used}
use Rattle.rules_table.specs.Charge.{mapping_pages}
use Rattle.rules_table.specs.Good.{differ}
use Rattle.records.specs.Charging.{leader_place, mark_after, added_by, differ_self}
use Rattle.check_mappings.specs.Told.{page_of}

-- the alignment of a space
module _ (pages : List ℕ) (s : ℕ) where
  pub page-none : s ≡ 0 → 0 ≡ page_of pages s
  unfolding page_of
  page-none e = rw (eq-eqb s 0 e)

  page-some : (s ≡ 0 → ⊥) → get_or pages s 0 ≡ page_of pages s
  unfolding page_of
  page-some h = rw (ne_eqb s 0 h)

  pub page-far : length pages ≡ 33 → 32 < s → 0 ≡ page_of pages s
  page-far l h = sym (get_or-eq_default pages 0 {n = s} (omega (arith, l))) ∙ page-some (λ e. omega (arith, e, h))

  pub page-here : (s ≡ 0 → ⊥) → (k : ℕ) → k ≡ s → get_or pages k 0 ≡ page_of pages s
  page-here h k e = ap (λ (n : ℕ). get_or pages n 0) e ∙ page-some h

  -- a space with an alignment has an id
  pub page-named : (page_of pages s ≡ 0 → ⊥) → 0 < s
  page-named h = by-test (eqb s 0) (λ t. absurd (h (sym (page-none (eqb-true s 0 t))))) (λ t. omega (arith, eqb-false s 0 t))

-- the pages of a record that has a byte
pages-touched : (memory n : ℕ) → 0 < n → (memory + (n - 1)) / 4096 - memory / 4096 + 1 ≡ pages_touched memory n
unfolding pages_touched
pages-touched memory zero h = absurd (omega arith)
pages-touched memory (suc l) h = let z : suc l - 1 ≡ l = omega arith in rw z

pub pages-own : (m : Mapping) (r : ℕ) → 0 < m.length → r ≡ (m.memory + (m.length - 1)) / 4096 - m.memory / 4096 + 1 → r ≡ mapping_pages m
unfolding mapping_pages
pages-own m r h e = e ∙ pages-touched m.memory m.length h

-- what a record adds, and the mark after it
module _ (mark i : ℕ) (m : Mapping) where
  pub added-first : (r : ℕ) → mark ≡ 0 → 0 < m.space → r ≡ mapping_pages m → r ≡ added_by mark m
  unfolding added_by used
  added-first r e h f = rw (eq-eqb mark 0 e, ne_eqb m.space 0 (λ z. omega (arith, z))) f

  pub added-marked : (r : ℕ) → (mark ≡ 0 → ⊥) → r ≡ 0 → r ≡ added_by mark m
  unfolding added_by
  added-marked r h f = rw (ne_eqb mark 0 h) f

  pub mark_first : (r : ℕ) → mark ≡ 0 → r ≡ i + 1 → r ≡ mark_after mark i
  unfolding mark_after
  mark_first r e f = rw (eq-eqb mark 0 e) f

  pub mark_kept : (mark ≡ 0 → ⊥) → mark ≡ mark_after mark i
  unfolding mark_after
  mark_kept h = rw (ne_eqb mark 0 h)

-- the first record of a backing
module _ (ms : List Mapping) (mark i : ℕ) (m : Mapping) where
  leader-self : mark ≡ 0 → leader_place mark i ≡ i
  unfolding leader_place
  leader-self e = rw (eq-eqb mark 0 e)

  leader-marked : (mark ≡ 0 → ⊥) → leader_place mark i ≡ mark - 1
  unfolding leader_place
  leader-marked h = rw (ne_eqb mark 0 h)

  pub leader-inside : (n : ℕ) → (mark ≡ 0 → ⊥) → leader_place mark i < n → mark - 1 < n
  leader-inside n h l = omega (arith, leader-marked h, l)

  pub stray_none : mark ≡ 0 → m ≡ get_or ms i zero_mapping → false ≡ differ (get_or ms (leader_place mark i) zero_mapping) m
  stray_none e f = sym (ap (λ (n : ℕ). differ (get_or ms n zero_mapping) m) (leader-self e) ∙ ap (λ (x : Mapping). differ x m) (sym f) ∙ differ_self m)

  pub stray_some : (mark ≡ 0 → ⊥) → (l : Mapping) (b : Bool) → l ≡ get_or ms (mark - 1) zero_mapping → b ≡ differ l m → b ≡ differ (get_or ms (leader_place mark i) zero_mapping) m
  stray_some h l b e f = f ∙ ap (λ (x : Mapping). differ x m) e ∙ ap (λ (n : ℕ). differ (get_or ms n zero_mapping) m) (sym (leader-marked h))
