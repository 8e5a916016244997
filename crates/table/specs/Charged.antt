-- The charge of a sound list of records, by the witness of its backings; and the lowest free backing number, which is there whenever a record is free.
use Rattle.std.specs.Prelude.{ℕ, suc, ◌+◌, ◌≤◌, ◌<◌, ◌≡◌, refl, Bool, false, not, ◌&&◌, ◌||◌, List, [], ◌∷◌, map, eqb, Some}
use Rattle.std.proofs.Common.{sym, ap, subst, ◌∙◌, arith, eqb-true, eq-eqb, ne_eqb}
use Rattle.std.proofs.Math.Bool.{true}
use Rattle.std.proofs.Math.Numerals.{add-one}
use Rattle.std.proofs.Math.ListN as ListN
use Rattle.lists.specs.Tests.{by-test, only_if, only_if-mono, only_if-true, only_if-false, and_right}
use Rattle.lists.specs.Search.{any, any-mono, find, find-cons_true, find-cons_false, seek-some_lt, seek-some_at}
use Rattle.lists.specs.Each.{Each, Each-imp, Each-zip}
use Rattle.lists.specs.Sums.{sum_of-le, count_of}
use Rattle.lists.specs.Below.{sum_below, sum_below-cong, sum_below-le, sum_below-zero, sum_below-some_zero, sum_of-sum_below, count_below, count_below-one, lowest-exists}
use Rattle.lists.specs.Update.{any-map}
use Rattle.ranges.specs.Pages.{pages_touched}
use Rattle.rules_table.specs.declared.Object.{Object}
use Rattle.rules_table.specs.declared.Mapping.{Mapping}
use Rattle.rules_table.specs.Records.{zero_mapping, used, release}
use Rattle.rules_table.specs.Charge.{backs, mapping_pages, pages_found, backing_pages, charge_in, free_mapping, free_backing}
use Rattle.table.specs.Checked.{record_ok}
use Rattle.table.specs.Sound.{Backing, Shares, Agree}
use Rattle.table.specs.Facts.{record_free}
use Rattle.table.specs.Cleared.{release-true, release-false, release-records, release-agree}
use Rattle.lists.specs.Counting.{count_of-some, count_of-at, count_of-not}

-- the pages of a backing, by what its mappings share
unfoldable pub info_pages : Backing → ℕ
info_pages b = pages_touched b.memory b.length

pub shares-pages : (b : Backing) (m : Mapping) → Shares b m → mapping_pages m ≡ info_pages b
unfolding mapping_pages info_pages
shares-pages b m h = rw (h.memory, h.length)

-- where all that pass have c pages, those found are c
found-pages : (q : Mapping → Bool) (c : ℕ) (ms : List Mapping) → Each (λ m. q m ≡ true → mapping_pages m ≡ c) ms → pages_found (find q ms) ≡ only_if (any q ms) c
unfolding find any
found-pages q c [] h = refl
found-pages q c (m ∷ ms) h =
    by-test (q m)
    (λ e. ap pages_found (find-cons_true q m ms e) ∙ h.0 e ∙ sym (only_if-true (q m || any q ms) c (rw e refl)))
    (λ e. ap pages_found (find-cons_false q m ms e) ∙ found-pages q c ms h.1 ∙ rw e refl)

pub backs-is : (m : Mapping) (b : ℕ) → backs b m ≡ true → m.backing ≡ b
unfolding backs
backs-is m b e = eqb-true m.backing b e

pub backs-of : (b : ℕ) (m : Mapping) → m.backing ≡ b → backs b m ≡ true
unfolding backs
backs-of b m e = eq-eqb m.backing b e

-- a mapping that has a backing from 1 on is used
pub backs-used : (os : List Object) (m : Mapping) (k : ℕ) → record_ok os m ≡ true → backs (suc k) m ≡ true → used m ≡ true
unfolding backs
backs-used os m k e b =
    by-test (used m) (λ u. u)
    (λ u. let z : m.backing ≡ 0 = ap (λ (x : Mapping). x.backing) (record_free os m u e) in let s = eqb-true m.backing (suc k) b in absurd (omega arith))

-- the charge by the witness: each backing that some mapping has, once
module _ (os : List Object) (info : ℕ → Backing) (ms : List Mapping) (ok : Each (λ m. record_ok os m ≡ true) ms) (agree : Agree info ms) where
  backing-info : (p : Mapping → Bool) (k : ℕ) → backing_pages p ms (k + 1) ≡ only_if (any (λ m. p m && backs (k + 1) m) ms) (info_pages (info (k + 1)))
  unfolding backing_pages
  backing-info p k =
      found-pages (λ m. p m && backs (k + 1) m) (info_pages (info (k + 1))) ms
      (Each-zip (λ m. record_ok os m ≡ true) (λ m. used m ≡ true → Shares (info m.backing) m) (λ m. (p m && backs (k + 1) m) ≡ true → mapping_pages m ≡ info_pages (info (k + 1))) ms one ok agree)
    where
      one : (m : Mapping) → record_ok os m ≡ true → (used m ≡ true → Shares (info m.backing) m) → (p m && backs (k + 1) m) ≡ true → mapping_pages m ≡ info_pages (info (k + 1))
      one m e h b =
          let c : backs (k + 1) m ≡ true = and_right (p m) (backs (k + 1) m) b in
          let u = backs-used os m k e (rw (← add-one k) c) in
          shares-pages (info (k + 1)) m (subst (λ (x : ℕ). Shares (info x) m) (backs-is m (k + 1) c) (h u))

  pub charge-info : (p : Mapping → Bool) → charge_in p ms ≡ sum_below (λ k. only_if (any (λ m. p m && backs (k + 1) m) ms) (info_pages (info (k + 1)))) 128
  unfolding charge_in
  charge-info p = sum_below-cong (λ k. backing_pages p ms (k + 1)) (λ k. only_if (any (λ m. p m && backs (k + 1) m) ms) (info_pages (info (k + 1)))) 128 (λ k h. backing-info p k)

-- ---- release

released-backs : (p q : Mapping → Bool) (k : ℕ) (m : Mapping) → (q (release p m) && backs (k + 1) (release p m)) ≡ true → (q m && backs (k + 1) m) ≡ true
unfolding backs
released-backs p q k m e =
    by-test (p m)
    (λ t. let f = and_right (q (release p m)) (eqb (release p m).backing (k + 1)) e in
    let z : (release p m).backing ≡ 0 = ap (λ (x : Mapping). x.backing) (release-true p m t) in
    let b = eqb-true (release p m).backing (k + 1) f in absurd (omega arith))
    (λ t. rw (release-false p m t) at e)

-- the charge does not grow where records are released
pub release-charge : (os : List Object) (info : ℕ → Backing) (ms : List Mapping) → Each (λ m. record_ok os m ≡ true) ms → Agree info ms
    → (p q : Mapping → Bool) → charge_in q (map (release p) ms) ≤ charge_in q ms
release-charge os info ms ok agree p q =
    rw (charge-info os info (map (release p) ms) (release-records p os ms ok) (release-agree p info ms agree) q, charge-info os info ms ok agree q)
    (sum_below-le (λ k. only_if (any (λ m. q m && backs (k + 1) m) (map (release p) ms)) (info_pages (info (k + 1)))) (λ k. only_if (any (λ m. q m && backs (k + 1) m) ms) (info_pages (info (k + 1)))) 128
    (λ k h. only_if-mono (any (λ m. q m && backs (k + 1) m) (map (release p) ms)) (any (λ m. q m && backs (k + 1) m) ms) (info_pages (info (k + 1)))
    (λ e. any-mono (λ m. q (release p m) && backs (k + 1) (release p m)) (λ m. q m && backs (k + 1) m) ms (released-backs p q k) (sym (any-map (λ m. q m && backs (k + 1) m) (release p) ms) ∙ e))))

-- ---- the lowest free backing number: each used record has one number, so 127 of them leave one of 128

free-left : (ms : List Mapping) (i : ℕ) → free_mapping ms ≡ Some i → count_of used ms < ListN.length ms
unfolding free_mapping
free-left ms i e =
    let lt = seek-some_lt (λ m. not (used m)) 0 ms i e in
    let zero_plus : i ≡ 0 + i = omega arith in
    let at = seek-some_at (λ m. not (used m)) 0 ms zero_mapping i (e ∙ ap Some zero_plus) in
    omega (arith, count_of-not used ms, count_of-at (λ m. not (used m)) ms zero_mapping i (omega (arith, lt.1)) at)

at_most : (m : Mapping) → sum_below (λ k. only_if (eqb m.backing (k + 1)) 1) 128 ≤ 1
unfolding count_below
at_most m = count_below-one 128 (λ k. eqb m.backing (k + 1)) (λ j k a b p q. omega (arith, eqb-true m.backing (j + 1) p, eqb-true m.backing (k + 1) q))

-- a record has at most one of the numbers, and none where it is released
one_number : (os : List Object) (m : Mapping) → record_ok os m ≡ true → sum_below (λ k. only_if (backs (k + 1) m) 1) 128 ≤ only_if (used m) 1
unfolding backs
one_number os m e =
    by-test (used m)
    (λ u. rw u (at_most m))
    (λ u. rw u (let z : m.backing ≡ 0 = ap (λ (x : Mapping). x.backing) (record_free os m u e) in
    omega (arith, sum_below-cong (λ k. only_if (eqb m.backing (k + 1)) 1) (λ k. 0) 128 (λ k h. only_if-false (eqb m.backing (k + 1)) 1 (ne_eqb m.backing (k + 1) (λ s. omega (arith, s, z)))), sum_below-zero 128)))

exchange : (os : List Object) (ms : List Mapping) → Each (λ m. record_ok os m ≡ true) ms → sum_below (λ k. count_of (backs (k + 1)) ms) 128 ≤ count_of used ms
unfolding count_of
exchange os ms ok =
    rw (← sum_of-sum_below (λ (m : Mapping) k. only_if (backs (k + 1) m) 1) ms 128)
    (sum_of-le (λ m. sum_below (λ k. only_if (backs (k + 1) m) 1) 128) (λ m. only_if (used m) 1) ms (Each-imp (λ m. record_ok os m ≡ true) (λ m. sum_below (λ k. only_if (backs (k + 1) m) 1) 128 ≤ only_if (used m) 1) ms (one_number os) ok))

pub free-backing : (os : List Object) (ms : List Mapping) (i : ℕ) → ListN.length ms ≡ 128 → Each (λ m. record_ok os m ≡ true) ms → free_mapping ms ≡ Some i
    → (b : ℕ) × (free_backing ms ≡ Some b)
unfolding free_backing
free-backing os ms i n ok e =
    let few : sum_below (λ k. count_of (backs (k + 1)) ms) 128 < 128 = omega (arith, exchanged, free-left ms i e) in
    let gap = sum_below-some_zero (λ k. count_of (backs (k + 1)) ms) 128 few in
    lowest-exists (λ b. not (any (backs b) ms)) 128 1 (gap.0 + 1) (omega arith) (omega (arith, gap.1)) (ap (λ (b : Bool). not b) (none_has (gap.0 + 1) gap.2))
  where
    exchanged : sum_below (λ k. count_of (backs (k + 1)) ms) 128 ≤ count_of used ms
    exchanged = exchange os ms ok

    none_has : (b : ℕ) → count_of (backs b) ms ≡ 0 → any (backs b) ms ≡ false
    none_has b z = by-test (any (backs b) ms) (λ t. absurd (omega (arith, count_of-some (backs b) ms t, z))) (λ t. t)
