-- A list in order that names used records only, and as many as are used, lists each of them once: in order, no number stands twice.
use Rattle.std.specs.Prelude.{ℕ, zero, suc, ◌+◌, ◌≤◌, ◌<◌, ◌≡◌, refl, true, List, [], ◌∷◌, map, eqb, length, get_or}
use Rattle.std.proofs.Common.{sym, ◌∙◌, not-suc-le-zero, arith, eqb-true, eq-eqb, ne_eqb}
use Rattle.std.proofs.lemmas.Bool.{eqb-false}
use Rattle.lists.specs.Tests.{by-test, contrary, only_if, and_left, and_right}
use Rattle.lists.specs.Search.{any, all, all-at, any-slot}
use Rattle.lists.specs.Each.{Each, Each-slots}
use Rattle.lists.specs.Sums.{count_of}
use Rattle.lists.specs.Below.{sum_below, sum_below-suc, sum_below-cong, sum_below-le, sum_below-zero, sum_below-add, sum_below-only}
use Rattle.lists.specs.Counting.{count_of-cons, count_of-nil, count_of-none, count_of-some}
use Rattle.sorted.specs.Sorted.{ordered, member_after}
use Rattle.rules_table.specs.declared.Mapping.{Mapping}
use Rattle.rules_table.specs.Records.{zero_mapping, used}
use Rattle.rules_index.specs.Index.{mapping_at, view, ahead}
use Rattle.index.specs.Listing.{ahead-never, length-view, get_d_view, used-place, used-sum, Lists}

-- ---- sums

-- each at most the other, and the sums the same: each the same
sums_same : (f g : ℕ → ℕ) (n : ℕ) → ((k : ℕ) → k < n → f k ≤ g k) → sum_below f n ≡ sum_below g n → (k : ℕ) → k < n → f k ≡ g k
sums_same f g zero h e k l = absurd (not-suc-le-zero l)
sums_same f g (suc n) h e k l =
    let less : sum_below f n ≤ sum_below g n = sum_below-le f g n (λ j m. h j (omega (arith, m))) in
    let last = h n (omega arith) in
    by-test (eqb k n)
    (λ t. let s = eqb-true k n t in rw s (omega (arith, sum_below-suc f n, sum_below-suc g n, less, last, e)))
    (λ t. sums_same f g n (λ j m. h j (omega (arith, m))) (omega (arith, sum_below-suc f n, sum_below-suc g n, less, last, e)) k (omega (arith, l, eqb-false k n t)))

-- how often each number stands, over all numbers
counts-length : (xs : List ℕ) (n : ℕ) → Each (λ r. r < n) xs → sum_below (λ k. count_of (eqb k) xs) n ≡ length xs
counts-length [] n h = sum_below-cong (λ k. count_of (eqb k) []) (λ k. 0) n (λ k l. count_of-nil (eqb k)) ∙ sum_below-zero n
counts-length (x ∷ xs) n h =
    sum_below-cong (λ k. count_of (eqb k) (x ∷ xs)) (λ k. only_if (eqb k x) 1 + count_of (eqb k) xs) n (λ k l. count_of-cons (eqb k) x xs)
    ∙ sum_below-add (λ k. only_if (eqb k x) 1) (λ k. count_of (eqb k) xs) n
    ∙ omega (arith, one, counts-length xs n h.1)
  where
    one : sum_below (λ k. only_if (eqb k x) 1) n ≡ 1
    one = sum_below-only (λ k. only_if (eqb k x) 1) x n (λ k l ne. rw (ne_eqb k x ne) refl) h.0 ∙ rw (eq-eqb x x refl) refl

-- ---- in order, no number stands twice

sorted_once : (xs : List ℕ) (ms : List Mapping) (k : ℕ) → ordered ahead (map (mapping_at ms) xs) ≡ true → count_of (eqb k) xs ≤ 1
unfolding ordered
sorted_once [] ms k e = omega (arith, count_of-nil (eqb k))
sorted_once (x ∷ xs) ms k e =
    let ih = sorted_once xs ms k (and_right (all (ahead (mapping_at ms x)) (map (mapping_at ms) xs)) (ordered ahead (map (mapping_at ms) xs)) e) in
    let c = count_of-cons (eqb k) x xs in
    by-test (eqb k x)
    (λ t.
    let s = eqb-true k x t in
    let o : only_if (eqb k x) 1 ≡ 1 = rw t refl in
    by-test (any (eqb k) xs)
    (λ u.
    let r = member_after ahead (mapping_at ms) ahead-never x xs k (and_left (all (ahead (mapping_at ms x)) (map (mapping_at ms) xs)) (ordered ahead (map (mapping_at ms) xs)) e) (count_of-some (eqb k) xs u) in
    let q : ahead (mapping_at ms x) (mapping_at ms x) ≡ true = rw s at r in
    absurd (ahead-never (mapping_at ms x) (mapping_at ms x) q q))
    (λ u. omega (arith, c, o, count_of-none (eqb k) xs u)))
    (λ t. let o : only_if (eqb k x) 1 ≡ 0 = rw t refl in omega (arith, c, o, ih))

-- ---- THE LAW

module _ (xs : List ℕ) (ms : List Mapping) (e : ordered ahead (view xs ms) ≡ true) (u : all used (view xs ms) ≡ true) (n : length xs ≡ count_of used ms) where
  used-at : (k : ℕ) → k < length xs → used (mapping_at ms (get_or xs k 0)) ≡ true
  used-at k h = rw (← get_d_view xs ms k) (all-at used (view xs ms) zero_mapping u k (omega (arith, h, length-view xs ms)))

  bounded : Each (λ r. r < suc (length ms)) xs
  bounded = Each-slots (λ r. r < suc (length ms)) xs 0 (λ k h. let p = used-place ms (get_or xs k 0) (used-at k h) in omega (arith, p.1, p.2))

  -- a number stands at most once, and not at all where its record is released
  at_most : (r : ℕ) → count_of (eqb r) xs ≤ only_if (used (mapping_at ms r)) 1
  unfolding view
  at_most r =
      by-test (used (mapping_at ms r))
      (λ t. rw t (sorted_once xs ms r e))
      (λ t. by-test (any (eqb r) xs)
      (λ a. let w = any-slot (eqb r) xs 0 a in contrary (used (mapping_at ms r)) (rw (eqb-true r (get_or xs w.0 0) w.2) (used-at w.0 w.1)) t)
      (λ a. rw t (omega (arith, count_of-none (eqb r) xs a))))

  counted : (r : ℕ) → count_of (eqb r) xs ≡ only_if (used (mapping_at ms r)) 1
  counted r =
      by-test (used (mapping_at ms r))
      (λ t.
      let p = used-place ms r t in
      sums_same (λ k. count_of (eqb k) xs) (λ k. only_if (used (mapping_at ms k)) 1) (suc (length ms)) (λ k h. at_most k)
      (counts-length xs (suc (length ms)) bounded ∙ n ∙ sym (used-sum ms)) r (omega (arith, p.1, p.2)))
      (λ t. let z : only_if (used (mapping_at ms r)) 1 ≡ 0 = rw t refl in omega (arith, at_most r, z))

  pub counted-lists : Lists xs ms
  counted-lists = record { once = counted; order = e }
