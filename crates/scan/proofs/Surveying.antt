-- The survey: the lowest released slot, and from what the pass hands on the lowest number without a mark and the charge.
use Rattle.std.specs.Prelude.{None, Some, Option}
use Prim.Native.Nat.{ℕ, zero, suc, ◌+◌, ◌-◌, ◌≤◌, ◌<◌}
use mathlib.Core.Path.{◌≡◌, refl, sym, ap, ◌∙◌}
use mathlib.Core.Bool.{Bool, true, false, not}
use mathlib.Core.List.{List}
use native.Mathlib.Omega.{arith}
use lib.Dec.{eqb}
use lib.ListN.{length, get_or, drop}
use borrow.Author.Tests.{eq-eqb, ne_eqb}
use Rattle.lists.specs.Tests.{by-test}
use Rattle.lists.specs.Search.{any, seek, seek-none, seek-any_false, seek_found, seek-on, seek-end}
use Rattle.lists.specs.Below.{lowest, lowest-found, lowest-on, lowest-end}
use Rattle.rules_table.specs.declared.Mapping.{Mapping}
use Rattle.rules_table.specs.Records.{used, zero_mapping}
use Rattle.rules_table.specs.Charge.{backs, free_mapping, free_backing}
use Rattle.scan.specs.Surveyed.{survey_of}
use Rattle.check_mappings.specs.declared.Pass.{Pass}
use Rattle.check_mappings.specs.Told.{Told, mark_of}

-- ---- the lowest released slot

abbrev released : Mapping → Bool
released m = not (used m)

released-at : (m : Mapping) → m.space ≡ 0 → released m ≡ true
unfolding used
released-at m z = rw (eq-eqb m.space 0 z)

used-at : (m : Mapping) → (m.space ≡ 0 → ⊥) → released m ≡ false
unfolding used
used-at m z = rw (ne_eqb m.space 0 z)

-- from slot i on
unfoldable pub free_left : ℕ → List Mapping → Option ℕ
free_left i ms = seek released i (drop i ms)

pub free-start : (ms : List Mapping) → free_left 0 ms ≡ free_mapping ms
unfolding free_left free_mapping
free-start ms = refl

module _ (ms : List Mapping) (i : ℕ) {o : Option ℕ} (v : free_left i ms ≡ o) where
  pub free-end : length ms ≤ i → None ≡ o
  unfolding free_left
  free-end h = seek-end released ms i v h

  -- the record at slot i, of space s
  module _ (h : i < length ms) (s : ℕ) (e : s ≡ (get_or ms i zero_mapping).space) where
    pub free-found : s ≡ 0 → (j : ℕ) → j ≡ i → Some j ≡ o
    unfolding free_left
    free-found z j q = ap Some q ∙ seek_found released ms i v zero_mapping h (released-at (get_or ms i zero_mapping) (sym e ∙ z))

    pub free_on : (s ≡ 0 → ⊥) → free_left (i + 1) ms ≡ o
    unfolding free_left
    free_on z = seek-on released ms i v zero_mapping h (used-at (get_or ms i zero_mapping) (λ y. z (e ∙ y)))

-- ---- the lowest number without a mark

abbrev unmarked : List ℕ → ℕ → Bool
unmarked marks b = eqb (get_or marks b 0) 0

-- from number k on
unfoldable pub unmarked_left : ℕ → List ℕ → Option ℕ
unmarked_left k marks = lowest (unmarked marks) (129 - k) k

pub unmarked-start : (marks : List ℕ) (k : ℕ) → k ≡ 1 → unmarked_left k marks ≡ lowest (λ b. eqb (get_or marks b 0) 0) 128 1
unfolding unmarked_left
unmarked-start marks k e = rw e

module _ (marks : List ℕ) (k : ℕ) {o : Option ℕ} (v : unmarked_left k marks ≡ o) where
  pub unmarked-found : k < 129 → get_or marks k 0 ≡ 0 → Some k ≡ o
  unfolding unmarked_left
  unmarked-found h e = lowest-found (unmarked marks) 129 k v h (eq-eqb (get_or marks k 0) 0 e)

  pub unmarked-on : k < 129 → (get_or marks k 0 ≡ 0 → ⊥) → unmarked_left (k + 1) marks ≡ o
  unfolding unmarked_left
  unmarked-on h e = lowest-on (unmarked marks) 129 k v h (ne_eqb (get_or marks k 0) 0 e)

  pub unmarked-end : 129 ≤ k → None ≡ o
  unfolding unmarked_left
  unmarked-end h = lowest-end (unmarked marks) 129 k v h

-- tests that agree on the numbers asked find the same
lowest-cong : (p q : ℕ → Bool) (n k : ℕ) → ((j : ℕ) → k ≤ j → j < k + n → p j ≡ q j) → lowest p n k ≡ lowest q n k
unfolding lowest
lowest-cong p q zero k h = refl
lowest-cong p q (suc n) k h =
    by-test (q k)
    (λ e. rw (h k (omega arith) (omega arith) ∙ e, e, lowest))
    (λ e. rw (h k (omega arith) (omega arith) ∙ e, e, lowest) (lowest-cong p q n (k + 1) (λ j a b. h j (omega arith) (omega arith))))

-- ---- the survey

-- no mark: no record has the backing
mark_none : (b : ℕ) (ms : List Mapping) → eqb (mark_of (seek (backs b) 0 ms)) 0 ≡ not (any (backs b) ms)
mark_none b ms = go (seek (backs b) 0 ms) refl
  where
    go : (o : Option ℕ) → seek (backs b) 0 ms ≡ o → eqb (mark_of (seek (backs b) 0 ms)) 0 ≡ not (any (backs b) ms)
    go None e = rw (e, seek-none (backs b) 0 ms e)
    go (Some k) e =
        by-test (any (backs b) ms)
        (λ t. rw (e, t) (ne_eqb (k + 1) 0 (λ z. omega (arith, z))))
        (λ t. let f = seek-any_false (backs b) 0 ms t in let z : ◌≡◌ {A = ℕ} 0 1 = cc in absurd (omega arith))

pub told-survey : (pages : List ℕ) (ms : List Mapping) (p : Pass) (marks : List ℕ) (f b : Option ℕ) → Told pages ms p marks
    → f ≡ free_mapping ms → b ≡ lowest (λ b. eqb (get_or marks b 0) 0) 128 1
    → record { free = f; backing = b; charge = p.charge } ≡ survey_of ms
unfolding survey_of free_backing
told-survey pages ms p marks f b t ef eb =
    rw (ef, eb, lowest-cong (unmarked marks) (λ b. not (any (backs b) ms)) 128 1 (λ b k l. rw (t.firsts b k (omega arith)) (mark_none b ms)), t.charge)
