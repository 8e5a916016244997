-- A list with one more element at its end, as a loop that goes forward has it.
use Rattle.std.proofs.Math.ListN as ListN
use Prim.Native.Nat.{ℕ, suc, ◌+◌, ◌<◌, zero}
use Rattle.std.proofs.Math.Path.{◌≡◌, refl, sym, ap}
use Rattle.std.proofs.Common.{◌∙◌, add-one, take-suc, le_of_suc-le-suc, not-suc-le-zero}
use Rattle.std.specs.Prelude.{Bool, ◌||◌, get_or, take, set, Option, None, Some}
use Rattle.std.proofs.Math.Bool.{true, false}
use mathlib.Core.List.{List, [], ◌∷◌, ◌++◌}
use native.Mathlib.Omega.{arith}
use Rattle.std.proofs.Math.ListN.{length}
use Rattle.lists.specs.Tests.{by-test, contrary, or_not_left, or_not_right}
use Rattle.lists.specs.Search.{any, any_append, all, all_append, find, find-cons_true, find-cons_false, seek, seek-cons_true, seek-cons_false, seek-none}
use Rattle.lists.specs.Pairs.{clashes, clashes-false_at}

module _ {A : Type 0} where
  -- what is seen after one more turn
  pub take_turn : (xs : List A) (d : A) (i : ℕ) → i < length xs → take (i + 1) xs ≡ take i xs ++ get_or xs i d ∷ []
  take_turn xs d i h = rw add-one (take-suc xs i d h)

  -- a fact of those seen and of one more
  pub all-turn : (p : A → Bool) (xs : List A) (d : A) (i : ℕ) → i < length xs → all p (take i xs) ≡ true → p (get_or xs i d) ≡ true → all p (take (i + 1) xs) ≡ true
  unfolding all
  all-turn p xs d i h e f = rw (take_turn xs d i h, all_append p (take i xs) (get_or xs i d ∷ []), e, f)

  pub find-append_some : (p : A → Bool) (xs ys : List A) (a : A) → find p xs ≡ Some a → find p (xs ++ ys) ≡ Some a
  unfolding find
  find-append_some p [] ys a e = let z : ◌≡◌ {A = ℕ} 0 1 = cc in absurd (omega arith)
  find-append_some p (x ∷ xs) ys a e =
      by-test (p x)
      (λ t. find-cons_true p x (xs ++ ys) t ∙ sym (find-cons_true p x xs t) ∙ e)
      (λ t. find-cons_false p x (xs ++ ys) t ∙ find-append_some p xs ys a (sym (find-cons_false p x xs t) ∙ e))

  pub find-append_none : (p : A → Bool) (xs ys : List A) → any p xs ≡ false → find p (xs ++ ys) ≡ find p ys
  unfolding any
  find-append_none p [] ys e = refl
  find-append_none p (x ∷ xs) ys e = find-cons_false p x (xs ++ ys) (or_not_left (p x) (any p xs) e) ∙ find-append_none p xs ys (or_not_right (p x) (any p xs) e)

  pub seek-append_some : (p : A → Bool) (i : ℕ) (xs ys : List A) (n : ℕ) → seek p i xs ≡ Some n → seek p i (xs ++ ys) ≡ Some n
  unfolding seek
  seek-append_some p i [] ys n e = let z : ◌≡◌ {A = ℕ} 0 1 = cc in absurd (omega arith)
  seek-append_some p i (x ∷ xs) ys n e =
      by-test (p x)
      (λ t. seek-cons_true p i x (xs ++ ys) t ∙ sym (seek-cons_true p i x xs t) ∙ e)
      (λ t. seek-cons_false p i x (xs ++ ys) t ∙ seek-append_some p (i + 1) xs ys n (sym (seek-cons_false p i x xs t) ∙ e))

  pub seek-append_none : (p : A → Bool) (i : ℕ) (xs ys : List A) → any p xs ≡ false → seek p i (xs ++ ys) ≡ seek p (i + length xs) ys
  unfolding any
  seek-append_none p i [] ys e = let z : i + 0 ≡ i = omega arith in ap (λ (k : ℕ). seek p k ys) (sym z)
  seek-append_none p i (x ∷ xs) ys e =
      let z : i + 1 + length xs ≡ i + suc (length xs) = omega arith in
      seek-cons_false p i x (xs ++ ys) (or_not_left (p x) (any p xs) e)
      ∙ seek-append_none p (i + 1) xs ys (or_not_right (p x) (any p xs) e)
      ∙ ap (λ (k : ℕ). seek p k ys) z

  -- one more element that does not pass is not found
  pub seek-append_other : (p : A → Bool) (i : ℕ) (xs : List A) (a : A) → p a ≡ false → seek p i (xs ++ a ∷ []) ≡ seek p i xs
  unfolding seek
  seek-append_other p i xs a e = go (seek p i xs) refl
    where
      go : (o : Option ℕ) → seek p i xs ≡ o → seek p i (xs ++ a ∷ []) ≡ seek p i xs
      go None f = seek-append_none p i xs (a ∷ []) (seek-none p i xs f) ∙ seek-cons_false p (i + length xs) a [] e ∙ sym f
      go (Some k) f = seek-append_some p i xs (a ∷ []) k f ∙ sym f

  -- one more element clashes with one before it
  pub clashes-append : (p : A → A → Bool) (xs : List A) (a : A) → clashes p (xs ++ a ∷ []) ≡ (clashes p xs || any (λ x. p x a) xs)
  unfolding clashes any
  clashes-append p [] a = refl
  clashes-append p (x ∷ xs) a = rw (any_append (p x) xs (a ∷ []), clashes-append p xs a) (spread (any (p x) xs) (p x a) (clashes p xs) (any (λ y. p y a) xs))
    where
      spread : (a b c d : Bool) → (a || (b || false) || (c || d)) ≡ (a || c || (b || d))
      spread true b c d = refl
      spread false true true d = refl
      spread false true false d = refl
      spread false false c d = refl

  -- two places that clash
  pub clashes-at : (p : A → A → Bool) (xs : List A) (d : A) (i j : ℕ) → i < j → j < length xs → p (get_or xs i d) (get_or xs j d) ≡ true → clashes p xs ≡ true
  clashes-at p xs d i j h k e = by-test (clashes p xs) (λ t. t) (λ t. contrary (p (get_or xs i d) (get_or xs j d)) e (clashes-false_at p xs d i j h k t))

-- a read within the list does not look at what is given past its end
pub get_d_any : {A : Type 0} (xs : List A) (i : ℕ) (d e : A) → i < length xs → get_or xs i d ≡ get_or xs i e
get_d_any [] i d e h = absurd (not-suc-le-zero h)
get_d_any (x ∷ xs) zero d e h = refl
get_d_any (x ∷ xs) (suc i) d e h = get_d_any xs i d e (le_of_suc-le-suc h)

-- a store where an element stood that does not pass
pub any-stored : {A : Type 0} (p : A → Bool) (xs : List A) (d : A) (i : ℕ) (a : A) → i < ListN.length xs → p (get_or xs i d) ≡ false → any p (set xs i a) ≡ (p a || any p xs)
unfolding any
any-stored p [] d i a h e = absurd (not-suc-le-zero h)
any-stored p (x ∷ xs) d zero a h e = ap (λ (b : Bool). p a || b) (sym (rw e))
any-stored p (x ∷ xs) d (suc i) a h e = rw (any-stored p xs d i a (le_of_suc-le-suc h) e) (turned (p x) (p a) (any p xs))
  where
    turned : (a b c : Bool) → (a || (b || c)) ≡ (b || (a || c))
    turned true true c = refl
    turned true false c = refl
    turned false b c = refl
