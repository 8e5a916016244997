-- A statement about every element, where a test is not enough.
use Rattle.std.specs.Prelude.{ℕ, zero, suc, ◌<◌, ◌≡◌, Bool, true, false, length, get_or, set, replicate}
use Rattle.std.proofs.Math.Path.{refl}
use mathlib.Core.List.{List, [], ◌∷◌, map}
use Rattle.std.proofs.Common.{le_of_suc-le-suc, not-suc-le-zero, arith}
use Rattle.lists.specs.Tests.{and_left, and_right, and_both, or_not_left, or_not_right, or_neither}
use Rattle.lists.specs.Search.{any, all}

abbrev pub Each : {A : Type 0} → (A → Type 0) → List A → Type 0
Each P [] = Unit {0}
Each P (x ∷ xs) = P x × Each P xs

module _ {A : Type 0} where
  pub Each-of : (P : A → Type 0) (xs : List A) → ((x : A) → P x) → Each P xs
  Each-of P [] g = tt
  Each-of P (x ∷ xs) g = (g x, Each-of P xs g)

  pub Each-imp : (P Q : A → Type 0) (xs : List A) → ((x : A) → P x → Q x) → Each P xs → Each Q xs
  Each-imp P Q [] g h = tt
  Each-imp P Q (x ∷ xs) g h = (g x h.0, Each-imp P Q xs g h.1)

  pub Each-zip : (P Q R : A → Type 0) (xs : List A) → ((x : A) → P x → Q x → R x) → Each P xs → Each Q xs → Each R xs
  Each-zip P Q R [] g h k = tt
  Each-zip P Q R (x ∷ xs) g h k = (g x h.0 k.0, Each-zip P Q R xs g h.1 k.1)

  pub Each-at : (P : A → Type 0) (xs : List A) (d : A) (i : ℕ) → i < length xs → Each P xs → P (get_or xs i d)
  Each-at P [] d i h e = absurd (not-suc-le-zero h)
  Each-at P (x ∷ xs) d zero h e = e.0
  Each-at P (x ∷ xs) d (suc i) h e = Each-at P xs d i (le_of_suc-le-suc h) e.1

  pub Each-slots : (P : A → Type 0) (xs : List A) (d : A) → ((i : ℕ) → i < length xs → P (get_or xs i d)) → Each P xs
  Each-slots P [] d g = tt
  Each-slots P (x ∷ xs) d g = (g 0 (omega arith), Each-slots P xs d (λ i h. g (suc i) (omega arith)))

  pub Each-set : (P : A → Type 0) (xs : List A) (i : ℕ) (a : A) → P a → Each P xs → Each P (set xs i a)
  Each-set P [] i a g h = tt
  Each-set P (x ∷ xs) zero a g h = (g, h.1)
  Each-set P (x ∷ xs) (suc i) a g h = (h.0, Each-set P xs i a g h.1)

  pub Each-map : {B : Type 0} (P : A → Type 0) (Q : B → Type 0) (f : A → B) (xs : List A) → ((x : A) → P x → Q (f x)) → Each P xs → Each Q (map f xs)
  Each-map P Q f [] g h = tt
  Each-map P Q f (x ∷ xs) g h = (g x h.0, Each-map P Q f xs g h.1)

  pub Each-replicate : (P : A → Type 0) (n : ℕ) (a : A) → P a → Each P (replicate n a)
  Each-replicate P zero a g = tt
  Each-replicate P (suc n) a g = (g, Each-replicate P n a g)

  -- a test of every element, as a statement, and back
  pub Each-all : (p : A → Bool) (xs : List A) → all p xs ≡ true → Each (λ x. p x ≡ true) xs
  unfolding all
  Each-all p [] e = tt
  Each-all p (x ∷ xs) e = (and_left (p x) (all p xs) e, Each-all p xs (and_right (p x) (all p xs) e))

  pub all-Each : (p : A → Bool) (xs : List A) → Each (λ x. p x ≡ true) xs → all p xs ≡ true
  unfolding all
  all-Each p [] h = refl
  all-Each p (x ∷ xs) h = and_both (p x) (all p xs) h.0 (all-Each p xs h.1)

  pub Each-any_false : (p : A → Bool) (xs : List A) → any p xs ≡ false → Each (λ x. p x ≡ false) xs
  unfolding any
  Each-any_false p [] e = tt
  Each-any_false p (x ∷ xs) e = (or_not_left (p x) (any p xs) e, Each-any_false p xs (or_not_right (p x) (any p xs) e))

  pub any-Each_false : (p : A → Bool) (xs : List A) → Each (λ x. p x ≡ false) xs → any p xs ≡ false
  unfolding any
  any-Each_false p [] h = refl
  any-Each_false p (x ∷ xs) h = or_neither (p x) (any p xs) h.0 (any-Each_false p xs h.1)
