-- Pairs of elements that clash: some element, and a later one.
use Prim.Native.Nat.{ℕ, zero, suc, ◌+◌, ◌≤◌, ◌<◌}
use Rattle.std.specs.Prelude.{◌≡◌, Bool, true, ◌||◌, length, get_or, drop}
use Rattle.std.proofs.Math.Path.{refl, sym}
use Rattle.std.proofs.Common.{◌∙◌, le_of_suc-le-suc, not-suc-le-zero, drop_of_length-le}
use Rattle.std.proofs.Math.Bool.{false}
use mathlib.Core.List.{List, [], ◌∷◌}
use native.Mathlib.Omega.{arith}
use Rattle.lists.specs.Tests.{by-test, contrary, or_not_left, or_not_right, or_other}
use Rattle.lists.specs.Search.{any, any-false_at, any-slot, drop_turn}

module _ {A : Type 0} where
  unfoldable pub clashes : (A → A → Bool) → List A → Bool
  clashes p [] = false
  clashes p (x ∷ xs) = any (p x) xs || clashes p xs

  pub clashes-nil : (p : A → A → Bool) → clashes p [] ≡ false
  unfolding clashes
  clashes-nil p = refl

  pub clashes-cons : (p : A → A → Bool) (x : A) (xs : List A) → clashes p (x ∷ xs) ≡ (any (p x) xs || clashes p xs)
  unfolding clashes
  clashes-cons p x xs = refl

  -- where none clash, no two places do
  pub clashes-false_at : (p : A → A → Bool) (xs : List A) (d : A) (i j : ℕ) → i < j → j < length xs → clashes p xs ≡ false → p (get_or xs i d) (get_or xs j d) ≡ false
  unfolding clashes
  clashes-false_at p [] d i j h k e = absurd (not-suc-le-zero k)
  clashes-false_at p (x ∷ xs) d i zero h k e = absurd (not-suc-le-zero h)
  clashes-false_at p (x ∷ xs) d zero (suc j) h k e = any-false_at (p x) xs d j (le_of_suc-le-suc k) (or_not_left (any (p x) xs) (clashes p xs) e)
  clashes-false_at p (x ∷ xs) d (suc i) (suc j) h k e = clashes-false_at p xs d i j (le_of_suc-le-suc h) (le_of_suc-le-suc k) (or_not_right (any (p x) xs) (clashes p xs) e)

  -- where some clash, there are two places that do
  pub clashes-slot : (p : A → A → Bool) (xs : List A) (d : A) → clashes p xs ≡ true
      → (i : ℕ) × (j : ℕ) × (i < j) × (j < length xs) × (p (get_or xs i d) (get_or xs j d) ≡ true)
  unfolding clashes
  clashes-slot p [] d e = contrary false e refl
  clashes-slot p (x ∷ xs) d e =
      by-test (any (p x) xs)
      (λ t. let r = any-slot (p x) xs d t in (0, suc r.0, omega arith, omega (arith, r.1), r.2))
      (λ t. let r = clashes-slot p xs d (or_other (any (p x) xs) (clashes p xs) e t) in (suc r.0, suc r.1, omega (arith, r.2), omega (arith, r.3), r.4))

  module _ (p : A → A → Bool) (xs : List A) (i : ℕ) {k : Bool} (v : clashes p (drop i xs) ≡ k) where
    pub clashes-found : (d : A) → i < length xs → any (p (get_or xs i d)) (drop (i + 1) xs) ≡ true → true ≡ k
    unfolding clashes
    clashes-found d h e = sym (rw (drop_turn xs d i h, clashes, e)) ∙ v

    pub clashes-on : (d : A) → i < length xs → any (p (get_or xs i d)) (drop (i + 1) xs) ≡ false → clashes p (drop (i + 1) xs) ≡ k
    unfolding clashes
    clashes-on d h e = sym (rw (drop_turn xs d i h, clashes, e)) ∙ v

    pub clashes-end : length xs ≤ i → false ≡ k
    unfolding clashes
    clashes-end h = sym (rw (drop_of_length-le xs h)) ∙ v
