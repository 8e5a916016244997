-- The next mapping of a space (`nextNumber`) by two places of the index: the place before the one where a search for the address goes in, and that one.
use Rattle.std.specs.Prelude.{ℕ, zero, suc, ◌-◌, ◌≤◌, ◌<◌, ◌≡◌, refl, true, false, List, ltb, eqb, length}
use Rattle.std.proofs.Math.Path.{sym}
use Rattle.std.proofs.Common.{ap, ◌∙◌, arith}
use Rattle.std.proofs.Math.ListN.{get_or, get_or-eq_default}
use borrow.Author.Tests.{ltb-true, ltb-false, eqb-true}
use Rattle.lists.specs.Tests.{by-test, contrary, only_if, only_if-true, only_if-false}
use Rattle.lists.specs.Search.{all, any-slot, all-at}
use Rattle.lists.specs.Sums.{count_of-length}
use Rattle.sorted.specs.Sorted.{ordered, ordered_at, count_past, count-upto}
use Rattle.rules_table.specs.declared.Mapping.{Mapping}
use Rattle.rules_table.specs.Records.{zero_mapping}
use Rattle.rules_calls.specs.Next.{ends_from, next_number}
use Rattle.rules_index.specs.Index.{mapping_at, view}
use Rattle.index.specs.Listing.{lex-elim, lex-not, length-view, get_d_view, Lists, lists-listed}
use Rattle.index.specs.Touched.{before, before-space, before-end, before-ahead, end_from, end_last, sits, sits-some, up_to, up_to-space, up_to-from, ahead-up_to, until}
use Rattle.index_next.specs.NextMapping.{NextMapping, ends-space, ends_last, ends_of, ends-used, next_number-is}

-- what begins neither before the address nor at it
not_up_to : (s a : ℕ) (m : Mapping) → up_to s a m ≡ false → (s ≤ m.space) × (m.space ≡ s → a < m.address)
unfolding up_to
not_up_to s a m e = lex-elim s (suc a) m.space m.address (lex-not m.space m.address s a e) (λ h. (omega arith, λ q. absurd (omega arith))) (λ h k. (omega arith, λ q. k))

-- no mapping has the number 0
pub no-ends : (ms : List Mapping) (s a : ℕ) → 0 < s → ends_from s a (mapping_at ms 0) ≡ false
unfolding mapping_at
no-ends ms s a h = by-test (ends_from s a zero_mapping) (λ t. absurd (omega (arith, h, ends-space s a zero_mapping t))) (λ t. t)

-- the mapping at a place of the list
abbrev pub placed : List ℕ → List Mapping → ℕ → Mapping
placed xs ms k = mapping_at ms (get_or xs k 0)

-- the number at a place of the list, if its mapping is of space s and ends at or after address a, else 0
unfoldable pub told : List ℕ → List Mapping → ℕ → ℕ → ℕ → ℕ
told xs ms s a k = only_if (ends_from s a (placed xs ms k)) (get_or xs k 0)

module _ (xs : List ℕ) (ms : List Mapping) (s a : ℕ) (l : Lists xs ms) (e : ordered before (view xs ms) ≡ true) (h : 0 < s) where
  two-places : (i j : ℕ) → i < j → j < length xs → before (placed xs ms i) (placed xs ms j) ≡ true
  two-places i j b k = rw (← get_d_view xs ms i, ← get_d_view xs ms j) (ordered_at before (view xs ms) zero_mapping i j e b (omega (arith, k, length-view xs ms)))

  listed_at : (q : ℕ) → ends_from s a (mapping_at ms q) ≡ true → (j : ℕ) × (j < length xs) × (q ≡ get_or xs j 0)
  listed_at q t = let w = any-slot (eqb q) xs 0 (lists-listed xs ms l q ∙ ends-used s a (mapping_at ms q) h t) in (w.0, w.1, eqb-true q (get_or xs w.0 0) w.2)

  -- of two mappings of the space the one that stands first in the list has the lower address
  lower-first : (i j : ℕ) → i < j → j < length xs → ends_from s a (placed xs ms i) ≡ true → ends_from s a (placed xs ms j) ≡ true → (placed xs ms i).address < (placed xs ms j).address
  lower-first i j b k t u =
      let x = placed xs ms i in let y = placed xs ms j in
      omega (arith, before-end x y (two-places i j b k) (ends-space s a x t ∙ sym (ends-space s a y u)), end_from x)

  -- the first in the list that ends at or after the address is the next mapping
  place_is : (i : ℕ) → i < length xs → ends_from s a (placed xs ms i) ≡ true → ((j : ℕ) → j < i → ends_from s a (placed xs ms j) ≡ false) → get_or xs i 0 ≡ next_number ms s a
  place_is i b t early = go (next_number ms s a) (next_number-is ms s a h)
    where
      go : (r : ℕ) → NextMapping ms s a r → get_or xs i 0 ≡ r
      go zero n = absurd (n.never refl (get_or xs i 0) (ends-space s a (placed xs ms i) t) (ends_last s a (placed xs ms i) t))
      go (suc r) n =
          let f = n.found (omega arith) in
          let u = ends_of s a (mapping_at ms (suc r)) f.0 f.1 in
          let w = listed_at (suc r) u in
          let v : ends_from s a (placed xs ms w.0) ≡ true = rw (← w.2) u in
          let o : (mapping_at ms (suc r)).address ≡ (placed xs ms w.0).address = ap (λ (r : ℕ). (mapping_at ms r).address) w.2 in
          by-test (ltb i w.0)
          (λ k. absurd (omega (arith, lower-first i w.0 (ltb-true i w.0 k) w.1 t v, o, n.lowest (omega arith) (get_or xs i 0) (ends-space s a (placed xs ms i) t) (ends_last s a (placed xs ms i) t))))
          (λ k. by-test (ltb w.0 i)
          (λ c. contrary (ends_from s a (placed xs ms w.0)) v (early w.0 (ltb-true w.0 i c)))
          (λ c. ap (λ (p : ℕ). get_or xs p 0) (omega (arith, ltb-false i w.0 k, ltb-false w.0 i c)) ∙ sym w.2))

  none_is : ((j : ℕ) → j < length xs → ends_from s a (placed xs ms j) ≡ false) → 0 ≡ next_number ms s a
  none_is f = go (next_number ms s a) (next_number-is ms s a h)
    where
      go : (r : ℕ) → NextMapping ms s a r → 0 ≡ r
      go zero n = refl
      go (suc r) n =
          let e = n.found (omega arith) in
          let u = ends_of s a (mapping_at ms (suc r)) e.0 e.1 in
          let w = listed_at (suc r) u in
          contrary (ends_from s a (placed xs ms w.0)) (rw (← w.2) u) (f w.0 w.1)

  -- ---- where the search goes in: the mappings before that place begin at or before the address, the others behind it

  up_to-at : (j : ℕ) → j < until (view xs ms) s a → j < length xs → up_to s a (placed xs ms j) ≡ true
  unfolding until
  up_to-at j b k =
      rw (← get_d_view xs ms j) (by-test (up_to s a (get_or (view xs ms) j zero_mapping)) (λ t. t)
      (λ t. absurd (omega (arith, b, count-upto before (up_to s a) (λ x y c. ahead-up_to s a x y (before-ahead x y c)) (view xs ms) zero_mapping j e (omega (arith, k, length-view xs ms)) t))))

  past-at : (j : ℕ) → until (view xs ms) s a ≤ j → j < length xs → up_to s a (placed xs ms j) ≡ false
  unfolding until
  past-at j b k =
      rw (← get_d_view xs ms j) (by-test (up_to s a (get_or (view xs ms) j zero_mapping))
      (λ t. absurd (omega (arith, b, count_past before (up_to s a) (λ x y c. ahead-up_to s a x y (before-ahead x y c)) (view xs ms) zero_mapping j e (omega (arith, k, length-view xs ms)) t)))
      (λ t. t))

  until-most : until (view xs ms) s a ≤ length xs
  unfolding until
  until-most = omega (arith, count_of-length (up_to s a) (view xs ms), length-view xs ms)

  -- p is the place before that: a mapping that stands before p ends before the one at p begins
  early_not : (p j : ℕ) → p ≡ until (view xs ms) s a - 1 → j < p → ends_from s a (placed xs ms j) ≡ false
  early_not p j q b =
      let x = placed xs ms j in
      let y = placed xs ms p in
      let u : up_to s a y ≡ true = up_to-at p (omega (arith, q, b)) (omega (arith, q, b, until-most)) in
      let c : before x y ≡ true = two-places j p b (omega (arith, q, b, until-most)) in
      by-test (ends_from s a x)
      (λ t.
      let z : x.space ≡ y.space = omega (arith, ends-space s a x t, before-space x y c, up_to-space s a y u) in
      absurd (omega (arith, before-end x y c z, end_last x, ends_last s a x t, up_to-from s a y u (sym z ∙ ends-space s a x t))))
      (λ t. t)

  -- where the mapping at that place is of another space, so are those behind it
  late_not : all sits (view xs ms) ≡ true → (k j : ℕ) → k ≡ until (view xs ms) s a → ends_from s a (placed xs ms k) ≡ false → k ≤ j → j < length xs → ends_from s a (placed xs ms j) ≡ false
  late_not g k j q f b c =
      let x = placed xs ms k in
      let y = placed xs ms j in
      let n = not_up_to s a x (past-at k (omega (arith, q)) (omega (arith, b, c))) in
      let i : sits x ≡ true = rw (← get_d_view xs ms k) (all-at sits (view xs ms) zero_mapping g k (omega (arith, b, c, length-view xs ms))) in
      by-test (ltb k j)
      (λ d. by-test (ends_from s a y)
      (λ t.
      let z : x.space ≡ s = omega (arith, n.0, before-space x y (two-places k j (ltb-true k j d) c), ends-space s a y t) in
      contrary (ends_from s a x) (ends_of s a x z (omega (arith, n.1 z, sits-some x i))) f)
      (λ t. t))
      (λ d. let z : j ≡ k = omega (arith, b, ltb-false k j d) in rw z f)

  told-zero : (i : ℕ) → told xs ms s a i ≡ 0 → ends_from s a (placed xs ms i) ≡ false
  unfolding told
  told-zero i z =
      by-test (ends_from s a (placed xs ms i))
      (λ t. let y : get_or xs i 0 ≡ 0 = sym (only_if-true (ends_from s a (placed xs ms i)) (get_or xs i 0) t) ∙ z in contrary (ends_from s a (mapping_at ms 0)) (rw (← y) t) (no-ends ms s a h))
      (λ t. t)

  told-place : (i : ℕ) → ends_from s a (placed xs ms i) ≡ true → (told xs ms s a i ≡ get_or xs i 0) × (i < length xs)
  unfolding told
  told-place i t = (
    only_if-true (ends_from s a (placed xs ms i)) (get_or xs i 0) t,
    by-test (ltb i (length xs)) (λ k. ltb-true i (length xs) k) (λ k. let y : get_or xs i 0 ≡ 0 = get_or-eq_default xs 0 (ltb-false i (length xs) k) in contrary (ends_from s a (mapping_at ms 0)) (rw (← y) t) (no-ends ms s a h)),
  )

  told-never : (i : ℕ) → ends_from s a (placed xs ms i) ≡ false → told xs ms s a i ≡ 0
  unfolding told
  told-never i t = only_if-false (ends_from s a (placed xs ms i)) (get_or xs i 0) t

  -- THE LAWS: the number at p is the next one, if it is told; else that at the place behind p
  pub told-first : (p : ℕ) → p ≡ until (view xs ms) s a - 1 → (told xs ms s a p ≡ 0 → ⊥) → told xs ms s a p ≡ next_number ms s a
  told-first p q z =
      by-test (ends_from s a (placed xs ms p))
      (λ t. let w = told-place p t in w.0 ∙ place_is p w.1 t (λ j b. early_not p j q b))
      (λ t. absurd (z (told-never p t)))

  -- where it is not told, all that end at or after the address stand behind p
  before-not : (p k j : ℕ) → p ≡ until (view xs ms) s a - 1 → k ≡ until (view xs ms) s a → told xs ms s a p ≡ 0 → j < k → ends_from s a (placed xs ms j) ≡ false
  before-not p k j q r z b =
      by-test (ltb j p)
      (λ t. early_not p j q (ltb-true j p t))
      (λ t. let y : j ≡ p = omega (arith, b, q, r, ltb-false j p t) in rw y (told-zero p z))

  pub told-second : all sits (view xs ms) ≡ true → (p k : ℕ) → p ≡ until (view xs ms) s a - 1 → k ≡ until (view xs ms) s a → told xs ms s a p ≡ 0 → told xs ms s a k ≡ next_number ms s a
  told-second g p k q r z =
      by-test (ends_from s a (placed xs ms k))
      (λ t. let w = told-place k t in w.0 ∙ place_is k w.1 t (λ j b. before-not p k j q r z b))
      (λ t. told-never k t ∙ none_is (λ j b. by-test (ltb j k) (λ c. before-not p k j q r z (ltb-true j k c)) (λ c. late_not g k j r t (ltb-false j k c) b)))
