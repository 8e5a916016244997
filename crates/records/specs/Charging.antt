-- The backings of a list of records: when its records agree, and what one more record adds to the charge.
use Rattle.std.specs.Prelude.{ℕ, ◌+◌, ◌-◌, ◌≤◌, ◌<◌, ◌≡◌, refl, Bool, true, false, not, ◌&&◌, cond, leb, eqb, length, get_or, Some}
use Rattle.std.proofs.Common.{sym, ◌∙◌, arith, eqb-true, eq-eqb, ne_eqb, leb-true, leb-false}
use Rattle.std.proofs.Math.Path.{ap}
use mathlib.Core.List.{List, [], ◌∷◌, ◌++◌}
use Rattle.std.proofs.lemmas.Bool.{eqb-false, not-true, not-false}
use Rattle.lists.specs.Tests.{by-test, contrary, and_left, and_right, and_not_right, only_if, only_if-false}
use Rattle.lists.specs.Search.{any, all, find, seek, any-slot, any_none, all-at, find-cons_true, find-cons_false, find-any_true, find-any_false, seek-some_lt, seek-some_at, seek-some_before}
use Rattle.lists.specs.Pairs.{clashes, clashes-false_at}
use Rattle.lists.specs.Below.{sum_below, sum_below-cong, sum_below-zero, sum_below-add, sum_below-only}
use Rattle.rules_table.specs.declared.Mapping.{Mapping}
use Rattle.rules_table.specs.Records.{used, zero_mapping}
use Rattle.rules_table.specs.Charge.{backs, mapping_pages, backing_pages, charge_in, charge}
use Rattle.table.specs.Charged.{backs-is, backs-of}
use Rattle.rules_table.specs.Good.{differ}
use Rattle.records.specs.Alone.{numbered, numbered-used, numbered-released, numbered-backed}
use Rattle.lists.specs.Ends.{find-append_some, find-append_none}

-- ---- records of one backing

-- memory, length and founding right are the same
unfoldable pub alike : Mapping → Mapping → Bool
alike m n = eqb m.memory n.memory && (eqb m.length n.length && eqb m.founder n.founder)

alike_of : (m n : Mapping) → m.memory ≡ n.memory → m.length ≡ n.length → m.founder ≡ n.founder → alike m n ≡ true
unfolding alike
alike_of m n a b c = rw (eq-eqb m.memory n.memory a, eq-eqb m.length n.length b, eq-eqb m.founder n.founder c)

alike-parts : (m n : Mapping) → alike m n ≡ true → (m.memory ≡ n.memory) × (m.length ≡ n.length) × (m.founder ≡ n.founder)
unfolding alike
alike-parts m n e = (
  eqb-true m.memory n.memory (search and_left),
  eqb-true m.length n.length (search (and_left, and_right)),
  eqb-true m.founder n.founder (search (and_left, and_right)),
)

-- two records that are like a third are alike
pub alike-third : (l m n : Mapping) → alike l m ≡ true → alike l n ≡ true → alike m n ≡ true
alike-third l m n e f =
    let p = alike-parts l m e in
    let q = alike-parts l n f in
    alike_of m n (sym p.0 ∙ q.0) (sym p.1 ∙ q.1) (sym p.2 ∙ q.2)

pub differ-parts : (m n : Mapping) → differ m n ≡ true → (used m ≡ true) × (used n ≡ true) × (m.backing ≡ n.backing) × (alike m n ≡ false)
unfolding differ alike
differ-parts m n e = (
  search and_left,
  search (and_left, and_right),
  eqb-true m.backing n.backing (search (and_left, and_right)),
  not-true (alike m n) (search (and_left, and_right)),
)

pub differ-false : (m n : Mapping) → differ m n ≡ false → used m ≡ true → used n ≡ true → m.backing ≡ n.backing → alike m n ≡ true
unfolding differ alike
differ-false m n e u v b = not-false (alike m n) (sym (rw (u, v, eq-eqb m.backing n.backing b)) ∙ e)

pub differ_self : (m : Mapping) → differ m m ≡ false
differ_self m =
    by-test (differ m m)
    (λ e. contrary (alike m m) (alike_of m m refl refl refl) (differ-parts m m e).3)
    (λ e. e)

module _ (ms : List Mapping) (num : all numbered ms ≡ true) where
  -- the first record of a backing is in use where one of them is
  first-used : (k j : ℕ) → k < length ms → j < length ms → (get_or ms k zero_mapping).backing ≡ (get_or ms j zero_mapping).backing → used (get_or ms j zero_mapping) ≡ true → used (get_or ms k zero_mapping) ≡ true
  first-used k j h l e u =
      numbered-backed (get_or ms k zero_mapping) (all-at numbered ms zero_mapping num k h)
      (omega (arith, e, (numbered-used (get_or ms j zero_mapping) (all-at numbered ms zero_mapping num j l) u).0))

  module _ (b k : ℕ) (s : seek (backs b) 0 ms ≡ Some k) where
    first-place : k < length ms
    first-place = omega (arith, (seek-some_lt (backs b) 0 ms k s).1)

    first-backing : (get_or ms k zero_mapping).backing ≡ b
    first-backing = backs-is (get_or ms k zero_mapping) b (seek-some_at (backs b) 0 ms zero_mapping k (let z : k ≡ 0 + k = omega arith in s ∙ ap Some z))

    first-least : (j : ℕ) → (get_or ms j zero_mapping).backing ≡ b → k ≤ j
    first-least j e =
        by-test (leb k j)
        (λ t. leb-true k j t)
        (λ t. contrary (backs b (get_or ms j zero_mapping)) (backs-of b (get_or ms j zero_mapping) e) (seek-some_before (backs b) 0 ms zero_mapping k j s (omega (arith, leb-false k j t))))

    -- a record that does not differ from the first of its backing is like it
    first-like : (m : Mapping) (j : ℕ) → j < length ms → used (get_or ms j zero_mapping) ≡ true → (get_or ms j zero_mapping).backing ≡ b → used m ≡ true → m.backing ≡ b → differ (get_or ms k zero_mapping) m ≡ false → alike (get_or ms k zero_mapping) m ≡ true
    first-like m j h u e v f d =
        differ-false (get_or ms k zero_mapping) m d (first-used k j first-place h (first-backing ∙ sym e) u) v (first-backing ∙ sym f)

  -- one more record differs from none, where it does not differ from the first of its backing
  pub agree-first : (m : Mapping) (k : ℕ) → clashes differ ms ≡ false → seek (backs m.backing) 0 ms ≡ Some k → differ (get_or ms k zero_mapping) m ≡ false → any (λ y. differ y m) ms ≡ false
  agree-first m k ok s d =
      by-test (any (λ y. differ y m) ms)
      (λ t. let w = any-slot (λ y. differ y m) ms zero_mapping t in none w.0 w.1 w.2 (differ-parts (get_or ms w.0 zero_mapping) m w.2))
      (λ t. t)
    where
      none : (j : ℕ) → j < length ms → differ (get_or ms j zero_mapping) m ≡ true
          → (used (get_or ms j zero_mapping) ≡ true) × (used m ≡ true) × ((get_or ms j zero_mapping).backing ≡ m.backing) × (alike (get_or ms j zero_mapping) m ≡ false)
          → any (λ y. differ y m) ms ≡ false
      none j h e p =
          by-test (eqb k j)
          (λ t. contrary (differ (get_or ms j zero_mapping) m) e (rw (← eqb-true k j t) d))
          (λ t.
          let l : k < j = omega (arith, eqb-false k j t, first-least m.backing k s j p.2) in
          contrary (alike (get_or ms j zero_mapping) m)
          (alike-third (get_or ms k zero_mapping) (get_or ms j zero_mapping) m
          (first-like m.backing k s (get_or ms j zero_mapping) j h p.0 p.2 p.0 p.2 (clashes-false_at differ ms zero_mapping k j l h ok))
          (first-like m.backing k s m j h p.0 p.2 p.1 refl d))
          p.3)

pub agree-none : (ms : List Mapping) (m : Mapping) → any (backs m.backing) ms ≡ false → any (λ y. differ y m) ms ≡ false
agree-none ms m e = any_none (λ y. differ y m) (backs m.backing) ms (λ y t. backs-of m.backing y (differ-parts y m t).2) e

-- ---- what one more record adds to the charge

module _ (p : Mapping → Bool) (xs : List Mapping) (m : Mapping) where
  -- to the pages of backing b: its own, where it has b and none before it does
  unfoldable pub added_to : ℕ → ℕ
  added_to b = only_if (not (any (λ x. p x && backs b x) xs) && (p m && backs b m)) (mapping_pages m)

  pub backing_pages-append : (b : ℕ) → backing_pages p (xs ++ m ∷ []) b ≡ backing_pages p xs b + added_to b
  unfolding backing_pages find added_to
  backing_pages-append b =
      by-test (any (λ x. p x && backs b x) xs)
      (λ t.
      let r = find-any_true (λ x. p x && backs b x) xs t in
      rw (t, find-append_some (λ x. p x && backs b x) xs (m ∷ []) r.0 r.1, r.1) (omega arith))
      (λ t. rw (t, find-append_none (λ x. p x && backs b x) xs (m ∷ []) t, find-any_false (λ x. p x && backs b x) xs t)
      (by-test (p m && backs b m)
      (λ q. rw (q, find-cons_true (λ x. p x && backs b x) m [] q) (omega arith))
      (λ q. rw (q, find-cons_false (λ x. p x && backs b x) m [] q) (omega arith))))

  added-other : (b : ℕ) → (m.backing ≡ b → ⊥) → added_to b ≡ 0
  unfolding added_to backs
  added-other b ne =
      only_if-false (not (any (λ x. p x && backs b x) xs) && (p m && backs b m)) (mapping_pages m)
      (and_not_right (not (any (λ x. p x && backs b x) xs)) (p m && backs b m) (and_not_right (p m) (backs b m) (ne_eqb m.backing b ne)))

  added-own : used m ≡ true → added_to m.backing ≡ only_if (not (any (λ x. p x && backs m.backing x) xs) && (p m && used m)) (mapping_pages m)
  unfolding added_to
  added-own u = rw (u, backs-of m.backing m refl)

  added-released : used m ≡ false → 0 ≡ only_if (not (any (λ x. p x && backs m.backing x) xs) && (p m && used m)) (mapping_pages m)
  added-released u =
      sym (only_if-false (not (any (λ x. p x && backs m.backing x) xs) && (p m && used m)) (mapping_pages m)
      (and_not_right (not (any (λ x. p x && backs m.backing x) xs)) (p m && used m) (and_not_right (p m) (used m) u)))

  added-once : numbered m ≡ true → sum_below (λ k. added_to (k + 1)) 128 ≡ only_if (not (any (λ x. p x && backs m.backing x) xs) && (p m && used m)) (mapping_pages m)
  added-once num =
      by-test (used m)
      (λ u.
      let n = numbered-used m num u in
      let z : m.backing - 1 + 1 ≡ m.backing = omega arith in
      sum_below-only (λ k. added_to (k + 1)) (m.backing - 1) 128 (λ k h ne. added-other (k + 1) (λ e. ne (omega (arith, e)))) (omega arith)
      ∙ ap added_to z ∙ added-own u)
      (λ u.
      sum_below-cong (λ k. added_to (k + 1)) (λ k. 0) 128 (λ k h. added-other (k + 1) (λ e. omega (arith, e, numbered-released m num u)))
      ∙ sum_below-zero 128 ∙ added-released u)

  -- to the charge: its own pages, where it is the first of its backing
  pub charge_in-append : numbered m ≡ true
      → charge_in p (xs ++ m ∷ []) ≡ charge_in p xs + only_if (not (any (λ x. p x && backs m.backing x) xs) && (p m && used m)) (mapping_pages m)
  unfolding charge_in
  charge_in-append num =
      sum_below-cong (λ k. backing_pages p (xs ++ m ∷ []) (k + 1)) (λ k. backing_pages p xs (k + 1) + added_to (k + 1)) 128 (λ k h. backing_pages-append (k + 1))
      ∙ sum_below-add (λ k. backing_pages p xs (k + 1)) (λ k. added_to (k + 1)) 128
      ∙ ap (λ (n : ℕ). sum_below (λ k. backing_pages p xs (k + 1)) 128 + n) (added-once num)

pub charge_in-nil : (p : Mapping → Bool) → charge_in p [] ≡ 0
unfolding charge_in backing_pages find
charge_in-nil p = sum_below-zero 128

pub charge-nil : charge [] ≡ 0
unfolding charge
charge-nil = charge_in-nil (λ m. true)

pub charge-append : (xs : List Mapping) (m : Mapping) → numbered m ≡ true
    → charge (xs ++ m ∷ []) ≡ charge xs + only_if (not (any (backs m.backing) xs) && used m) (mapping_pages m)
unfolding charge
charge-append xs m num = charge_in-append (λ m. true) xs m num

-- ---- the pass over the records, which marks the first record of each backing: 0, or one more than its place

-- the place of the first record with the backing of that at i
unfoldable pub leader_place : ℕ → ℕ → ℕ
leader_place mark i = cond (eqb mark 0) i (mark - 1)

-- the mark after the record at i
unfoldable pub mark_after : ℕ → ℕ → ℕ
mark_after mark i = cond (eqb mark 0) (i + 1) mark

-- the pages that a record adds, given the mark of its backing
unfoldable pub added_by : ℕ → Mapping → ℕ
added_by mark m = only_if (eqb mark 0 && used m) (mapping_pages m)
