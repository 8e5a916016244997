-- Searching a list: whether some element passes, whether all do, the first that does and its place.
-- The laws `.. -found`, `-failed`, `-on`, `-end` are those of a loop that stands at place i: `v` is its invariant, that what is left to search
-- gives the answer k of the whole.
use Prim.Native.Nat.{ℕ, zero, suc, ◌+◌, ◌≤◌, ◌<◌}
use Rattle.std.proofs.Math.Path.{◌≡◌, refl, sym, ap}
use Rattle.std.proofs.Common.{◌∙◌, le_of_suc-le-suc, not-suc-le-zero, add-one, drop_of_length-le, drop-cons}
use Rattle.std.specs.Prelude.{Bool, not, ◌&&◌, ◌||◌, length, get_or, drop, Option, None, Some}
use Rattle.std.proofs.Math.Bool.{true, false}
use mathlib.Core.List.{List, [], ◌∷◌, ◌++◌}
use native.Mathlib.Omega.{arith}
use Rattle.lists.specs.Tests.{by-test, contrary, and_left, and_right, and_both, or_left, or_right, or_not_left, or_not_right, or_other}

module _ {A : Type 0} where
  -- what is left at i is the element at i and what is left at i + 1
  pub drop_turn : (xs : List A) (d : A) (i : ℕ) → i < length xs → drop i xs ≡ get_or xs i d ∷ drop (i + 1) xs
  drop_turn xs d i h = rw add-one (drop-cons xs i d h)

  -- ---- some element passes

  unfoldable pub any : (A → Bool) → List A → Bool
  any p [] = false
  any p (x ∷ xs) = p x || any p xs

  pub any-nil : (p : A → Bool) → any p [] ≡ false
  unfolding any
  any-nil p = refl

  pub any-cons : (p : A → Bool) (x : A) (xs : List A) → any p (x ∷ xs) ≡ (p x || any p xs)
  unfolding any
  any-cons p x xs = refl

  pub any_append : (p : A → Bool) (xs ys : List A) → any p (xs ++ ys) ≡ (any p xs || any p ys)
  unfolding any
  any_append p [] ys = refl
  any_append p (x ∷ xs) ys = by-test (p x) (λ e. rw e) (λ e. rw e (any_append p xs ys))

  pub any-cong : (p q : A → Bool) (xs : List A) → ((x : A) → p x ≡ q x) → any p xs ≡ any q xs
  unfolding any
  any-cong p q [] h = refl
  any-cong p q (x ∷ xs) h = rw (h x, any-cong p q xs h)

  -- two tests asked at once
  pub any-or : (p q : A → Bool) (xs : List A) → any (λ x. p x || q x) xs ≡ (any p xs || any q xs)
  unfolding any
  any-or p q [] = refl
  any-or p q (x ∷ xs) = spread (p x) (q x) (any p xs) (any q xs) (any-or p q xs)
    where
      spread : {r : Bool} (a b c d : Bool) → r ≡ (c || d) → (a || b || r) ≡ (a || c || (b || d))
      spread true b c d e = refl
      spread false true true d e = refl
      spread false true false d e = refl
      spread false false c d e = e

  -- a narrower test passes less
  pub any-mono : (p q : A → Bool) (xs : List A) → ((x : A) → p x ≡ true → q x ≡ true) → any p xs ≡ true → any q xs ≡ true
  unfolding any
  any-mono p q [] h e = e
  any-mono p q (x ∷ xs) h e =
      by-test (p x)
      (λ t. or_left (q x) (any q xs) (h x t))
      (λ t. or_right (q x) (any q xs) (any-mono p q xs h (or_other (p x) (any p xs) e t)))

  pub any_none : (p q : A → Bool) (xs : List A) → ((x : A) → p x ≡ true → q x ≡ true) → any q xs ≡ false → any p xs ≡ false
  any_none p q xs h e = by-test (any p xs) (λ t. contrary (any q xs) (any-mono p q xs h t) e) (λ t. t)

  pub any_at : (p : A → Bool) (xs : List A) (d : A) (i : ℕ) → i < length xs → p (get_or xs i d) ≡ true → any p xs ≡ true
  unfolding any
  any_at p [] d i h e = absurd (not-suc-le-zero h)
  any_at p (x ∷ xs) d zero h e = or_left (p x) (any p xs) e
  any_at p (x ∷ xs) d (suc i) h e = or_right (p x) (any p xs) (any_at p xs d i (le_of_suc-le-suc h) e)

  pub any-false_at : (p : A → Bool) (xs : List A) (d : A) (i : ℕ) → i < length xs → any p xs ≡ false → p (get_or xs i d) ≡ false
  any-false_at p xs d i h e = by-test (p (get_or xs i d)) (λ t. contrary (any p xs) (any_at p xs d i h t) e) (λ t. t)

  -- what passes has a place
  pub any-slot : (p : A → Bool) (xs : List A) (d : A) → any p xs ≡ true → (i : ℕ) × (i < length xs) × (p (get_or xs i d) ≡ true)
  unfolding any
  any-slot p [] d e = contrary false e refl
  any-slot p (x ∷ xs) d e =
      by-test (p x)
      (λ t. (0, omega arith, t))
      (λ t. let r = any-slot p xs d (or_other (p x) (any p xs) e t) in (suc r.0, omega (arith, r.1), r.2))

  module _ (p : A → Bool) (xs : List A) (i : ℕ) {k : Bool} (v : any p (drop i xs) ≡ k) where
    pub any_found : (d : A) → i < length xs → p (get_or xs i d) ≡ true → true ≡ k
    unfolding any
    any_found d h e = sym (rw (drop_turn xs d i h, any, e)) ∙ v

    pub any-on : (d : A) → i < length xs → p (get_or xs i d) ≡ false → any p (drop (i + 1) xs) ≡ k
    unfolding any
    any-on d h e = sym (rw (drop_turn xs d i h, any, e)) ∙ v

    pub any-end : length xs ≤ i → false ≡ k
    unfolding any
    any-end h = sym (rw (drop_of_length-le xs h)) ∙ v

  -- ---- every element passes

  unfoldable pub all : (A → Bool) → List A → Bool
  all p [] = true
  all p (x ∷ xs) = p x && all p xs

  pub all_nil : (p : A → Bool) → all p [] ≡ true
  unfolding all
  all_nil p = refl

  pub all_cons : (p : A → Bool) (x : A) (xs : List A) → all p (x ∷ xs) ≡ (p x && all p xs)
  unfolding all
  all_cons p x xs = refl

  pub all_append : (p : A → Bool) (xs ys : List A) → all p (xs ++ ys) ≡ (all p xs && all p ys)
  unfolding all
  all_append p [] ys = refl
  all_append p (x ∷ xs) ys = by-test (p x) (λ e. rw e (all_append p xs ys)) (λ e. rw e)

  pub all-cong : (p q : A → Bool) (xs : List A) → ((x : A) → p x ≡ q x) → all p xs ≡ all q xs
  unfolding all
  all-cong p q [] h = refl
  all-cong p q (x ∷ xs) h = rw (h x, all-cong p q xs h)

  pub all-and : (p q : A → Bool) (xs : List A) → all (λ x. p x && q x) xs ≡ (all p xs && all q xs)
  unfolding all
  all-and p q [] = refl
  all-and p q (x ∷ xs) = spread (p x) (q x) (all p xs) (all q xs) (all-and p q xs)
    where
      spread : {r : Bool} (a b c d : Bool) → r ≡ (c && d) → (a && b && r) ≡ (a && c && (b && d))
      spread true true c d e = e
      spread true false true d e = refl
      spread true false false d e = refl
      spread false b c d e = refl

  pub all-mono : (p q : A → Bool) (xs : List A) → ((x : A) → p x ≡ true → q x ≡ true) → all p xs ≡ true → all q xs ≡ true
  unfolding all
  all-mono p q [] h e = refl
  all-mono p q (x ∷ xs) h e = and_both (q x) (all q xs) (h x (and_left (p x) (all p xs) e)) (all-mono p q xs h (and_right (p x) (all p xs) e))

  -- all pass where none fails
  pub all-not : (p : A → Bool) (xs : List A) → all (λ x. not (p x)) xs ≡ not (any p xs)
  unfolding all any
  all-not p [] = refl
  all-not p (x ∷ xs) = by-test (p x) (λ e. rw e) (λ e. rw e (all-not p xs))

  pub all-at : (p : A → Bool) (xs : List A) (d : A) → all p xs ≡ true → (i : ℕ) → i < length xs → p (get_or xs i d) ≡ true
  unfolding all
  all-at p [] d e i h = absurd (not-suc-le-zero h)
  all-at p (x ∷ xs) d e zero h = and_left (p x) (all p xs) e
  all-at p (x ∷ xs) d e (suc i) h = all-at p xs d (and_right (p x) (all p xs) e) i (le_of_suc-le-suc h)

  module _ (p : A → Bool) (xs : List A) (i : ℕ) {k : Bool} (v : all p (drop i xs) ≡ k) where
    pub all-failed : (d : A) → i < length xs → p (get_or xs i d) ≡ false → false ≡ k
    unfolding all
    all-failed d h e = sym (rw (drop_turn xs d i h, all, e)) ∙ v

    pub all-on : (d : A) → i < length xs → p (get_or xs i d) ≡ true → all p (drop (i + 1) xs) ≡ k
    unfolding all
    all-on d h e = sym (rw (drop_turn xs d i h, all, e)) ∙ v

    pub all_end : length xs ≤ i → true ≡ k
    unfolding all
    all_end h = sym (rw (drop_of_length-le xs h)) ∙ v

  -- ---- the first element that passes

  unfoldable pub find : (A → Bool) → List A → Option A
  find p [] = None
  find p (x ∷ xs) = elim (p x) [ true ↦ Some x | false ↦ find p xs ]

  pub find-cons_true : (p : A → Bool) (x : A) (xs : List A) → p x ≡ true → find p (x ∷ xs) ≡ Some x
  unfolding find
  find-cons_true p x xs e = rw (e, find)

  pub find-cons_false : (p : A → Bool) (x : A) (xs : List A) → p x ≡ false → find p (x ∷ xs) ≡ find p xs
  unfolding find
  find-cons_false p x xs e = rw (e, find)

  -- what is found passes
  pub find-some : (p : A → Bool) (xs : List A) (a : A) → find p xs ≡ Some a → p a ≡ true
  unfolding find
  find-some p [] a e = let z : ◌≡◌ {A = ℕ} 0 1 = cc in absurd (omega arith)
  find-some p (x ∷ xs) a e =
      by-test (p x)
      (λ t. let f = find-cons_true p x xs t in let same : x ≡ a = cc in rw (← same) t)
      (λ t. find-some p xs a (sym (find-cons_false p x xs t) ∙ e))

  -- and has a place
  pub find-slot : (p : A → Bool) (xs : List A) (d a : A) → find p xs ≡ Some a → (i : ℕ) × (i < length xs) × (get_or xs i d ≡ a)
  unfolding find
  find-slot p [] d a e = let z : ◌≡◌ {A = ℕ} 0 1 = cc in absurd (omega arith)
  find-slot p (x ∷ xs) d a e =
      by-test (p x)
      (λ t. let f = find-cons_true p x xs t in let same : x ≡ a = cc in (0, omega arith, same))
      (λ t. let r = find-slot p xs d a (sym (find-cons_false p x xs t) ∙ e) in (suc r.0, omega (arith, r.1), r.2))

  -- and is an element: what no element passes, it does not
  pub find-some_any : (p q : A → Bool) (xs : List A) (a : A) → find p xs ≡ Some a → any q xs ≡ false → q a ≡ false
  unfolding find any
  find-some_any p q [] a e n = let z : ◌≡◌ {A = ℕ} 0 1 = cc in absurd (omega arith)
  find-some_any p q (x ∷ xs) a e n =
      by-test (p x)
      (λ t. let f = find-cons_true p x xs t in let same : x ≡ a = cc in rw (← same) (or_not_left (q x) (any q xs) n))
      (λ t. find-some_any p q xs a (sym (find-cons_false p x xs t) ∙ e) (or_not_right (q x) (any q xs) n))

  pub find-some_all : (p q : A → Bool) (xs : List A) (a : A) → find p xs ≡ Some a → all q xs ≡ true → q a ≡ true
  unfolding find all
  find-some_all p q [] a e n = let z : ◌≡◌ {A = ℕ} 0 1 = cc in absurd (omega arith)
  find-some_all p q (x ∷ xs) a e n =
      by-test (p x)
      (λ t. let f = find-cons_true p x xs t in let same : x ≡ a = cc in rw (← same) (and_left (q x) (all q xs) n))
      (λ t. find-some_all p q xs a (sym (find-cons_false p x xs t) ∙ e) (and_right (q x) (all q xs) n))

  pub find_none : (p : A → Bool) (xs : List A) → find p xs ≡ None → any p xs ≡ false
  unfolding any
  find_none p [] e = refl
  find_none p (x ∷ xs) e =
      by-test (p x)
      (λ t. let f = find-cons_true p x xs t in let z : ◌≡◌ {A = ℕ} 0 1 = cc in absurd (omega arith))
      (λ t. rw t (find_none p xs (sym (find-cons_false p x xs t) ∙ e)))

  pub find-any_false : (p : A → Bool) (xs : List A) → any p xs ≡ false → find p xs ≡ None
  unfolding any find
  find-any_false p [] e = refl
  find-any_false p (x ∷ xs) e = find-cons_false p x xs (or_not_left (p x) (any p xs) e) ∙ find-any_false p xs (or_not_right (p x) (any p xs) e)

  -- where something passes, something is found
  pub find-any_true : (p : A → Bool) (xs : List A) → any p xs ≡ true → (a : A) × (find p xs ≡ Some a)
  unfolding any
  find-any_true p [] e = contrary false e refl
  find-any_true p (x ∷ xs) e =
      by-test (p x)
      (λ t. (x, find-cons_true p x xs t))
      (λ t. let r = find-any_true p xs (or_other (p x) (any p xs) e t) in (r.0, find-cons_false p x xs t ∙ r.1))

  module _ (p : A → Bool) (xs : List A) (i : ℕ) {k : Option A} (v : find p (drop i xs) ≡ k) where
    pub find-found : (d : A) → i < length xs → p (get_or xs i d) ≡ true → Some (get_or xs i d) ≡ k
    find-found d h e = sym (ap (find p) (drop_turn xs d i h) ∙ find-cons_true p (get_or xs i d) (drop (i + 1) xs) e) ∙ v

    pub find-on : (d : A) → i < length xs → p (get_or xs i d) ≡ false → find p (drop (i + 1) xs) ≡ k
    find-on d h e = sym (ap (find p) (drop_turn xs d i h) ∙ find-cons_false p (get_or xs i d) (drop (i + 1) xs) e) ∙ v

    pub find-end : length xs ≤ i → None ≡ k
    unfolding find
    find-end h = sym (rw (drop_of_length-le xs h)) ∙ v

  -- ---- the place of the first element that passes, where the first element has the place i

  unfoldable pub seek : (A → Bool) → ℕ → List A → Option ℕ
  seek p i [] = None
  seek p i (x ∷ xs) = elim (p x) [ true ↦ Some i | false ↦ seek p (i + 1) xs ]

  pub seek-cons_true : (p : A → Bool) (i : ℕ) (x : A) (xs : List A) → p x ≡ true → seek p i (x ∷ xs) ≡ Some i
  unfolding seek
  seek-cons_true p i x xs e = rw (e, seek)

  pub seek-cons_false : (p : A → Bool) (i : ℕ) (x : A) (xs : List A) → p x ≡ false → seek p i (x ∷ xs) ≡ seek p (i + 1) xs
  unfolding seek
  seek-cons_false p i x xs e = rw (e, seek)

  -- the place lies in the list
  pub seek-some_lt : (p : A → Bool) (i : ℕ) (xs : List A) (n : ℕ) → seek p i xs ≡ Some n → (i ≤ n) × (n < i + length xs)
  unfolding seek
  seek-some_lt p i [] n e = let z : ◌≡◌ {A = ℕ} 0 1 = cc in absurd (omega arith)
  seek-some_lt p i (x ∷ xs) n e =
      by-test (p x)
      (λ t. let f = seek-cons_true p i x xs t in let same : i ≡ n = cc in (omega arith, omega arith))
      (λ t. let r = seek-some_lt p (i + 1) xs n (sym (seek-cons_false p i x xs t) ∙ e) in (omega (arith, r.0), omega (arith, r.1)))

  -- its element passes
  pub seek-some_at : (p : A → Bool) (i : ℕ) (xs : List A) (d : A) (n : ℕ) → seek p i xs ≡ Some (i + n) → p (get_or xs n d) ≡ true
  unfolding seek
  seek-some_at p i [] d n e = let z : ◌≡◌ {A = ℕ} 0 1 = cc in absurd (omega arith)
  seek-some_at p i (x ∷ xs) d n e =
      by-test (p x)
      (λ t. let f = seek-cons_true p i x xs t in let same : i ≡ i + n = cc in let z : n ≡ 0 = omega arith in rw z t)
      (λ t. let f : seek p (i + 1) xs ≡ Some (i + n) = sym (seek-cons_false p i x xs t) ∙ e in later n f (seek-some_lt p (i + 1) xs (i + n) f).0 (seek-some_at p (i + 1) xs d))
    where
      later : (n : ℕ) → seek p (i + 1) xs ≡ Some (i + n) → i + 1 ≤ i + n → ((m : ℕ) → seek p (i + 1) xs ≡ Some (i + 1 + m) → p (get_or xs m d) ≡ true) → p (get_or (x ∷ xs) n d) ≡ true
      later zero f h rec = absurd (omega arith)
      later (suc m) f h rec = let s : i + suc m ≡ i + 1 + m = omega arith in rec m (f ∙ ap Some s)

  -- no element before it does
  pub seek-some_before : (p : A → Bool) (i : ℕ) (xs : List A) (d : A) (n m : ℕ) → seek p i xs ≡ Some n → i + m < n → p (get_or xs m d) ≡ false
  unfolding seek
  seek-some_before p i [] d n m e h = let z : ◌≡◌ {A = ℕ} 0 1 = cc in absurd (omega arith)
  seek-some_before p i (x ∷ xs) d n m e h =
      by-test (p x)
      (λ t. let f = seek-cons_true p i x xs t in let same : i ≡ n = cc in absurd (omega arith))
      (λ t. let f : seek p (i + 1) xs ≡ Some n = sym (seek-cons_false p i x xs t) ∙ e in later m h t (λ k. seek-some_before p (i + 1) xs d n k f))
    where
      later : (m : ℕ) → i + m < n → p x ≡ false → ((k : ℕ) → i + 1 + k < n → p (get_or xs k d) ≡ false) → p (get_or (x ∷ xs) m d) ≡ false
      later zero h t rec = t
      later (suc k) h t rec = rec k (omega arith)

  pub seek-none : (p : A → Bool) (i : ℕ) (xs : List A) → seek p i xs ≡ None → any p xs ≡ false
  unfolding any
  seek-none p i [] e = refl
  seek-none p i (x ∷ xs) e =
      by-test (p x)
      (λ t. let f = seek-cons_true p i x xs t in let z : ◌≡◌ {A = ℕ} 0 1 = cc in absurd (omega arith))
      (λ t. rw t (seek-none p (i + 1) xs (sym (seek-cons_false p i x xs t) ∙ e)))

  pub seek-any_false : (p : A → Bool) (i : ℕ) (xs : List A) → any p xs ≡ false → seek p i xs ≡ None
  unfolding any seek
  seek-any_false p i [] e = refl
  seek-any_false p i (x ∷ xs) e = seek-cons_false p i x xs (or_not_left (p x) (any p xs) e) ∙ seek-any_false p (i + 1) xs (or_not_right (p x) (any p xs) e)

  module _ (p : A → Bool) (xs : List A) (i : ℕ) {k : Option ℕ} (v : seek p i (drop i xs) ≡ k) where
    pub seek_found : (d : A) → i < length xs → p (get_or xs i d) ≡ true → Some i ≡ k
    seek_found d h e = sym (ap (seek p i) (drop_turn xs d i h) ∙ seek-cons_true p i (get_or xs i d) (drop (i + 1) xs) e) ∙ v

    pub seek-on : (d : A) → i < length xs → p (get_or xs i d) ≡ false → seek p (i + 1) (drop (i + 1) xs) ≡ k
    seek-on d h e = sym (ap (seek p i) (drop_turn xs d i h) ∙ seek-cons_false p i (get_or xs i d) (drop (i + 1) xs) e) ∙ v

    pub seek-end : length xs ≤ i → None ≡ k
    unfolding seek
    seek-end h = sym (rw (drop_of_length-le xs h)) ∙ v
