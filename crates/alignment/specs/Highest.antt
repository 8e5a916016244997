-- The highest of several pages (document 01, "Alignment of a space"): a number is a multiple of it exactly if it is one of each.
use Rattle.std.specs.Prelude.{ℕ, zero, suc, ◌+◌, ◌-◌, ◌%◌, ◌^◌, ◌≤◌, ◌<◌, max, ◌≡◌, Bool, true, ◌&&◌, leb, length, get_or, drop, set}
use Rattle.std.proofs.Math.Path.{refl, ap}
use Rattle.std.proofs.Common.{sym, ◌∙◌, not-suc-le-zero, le_of_suc-le-suc, arith, drop_of_length-le, pow-add, pow_mono, leb-true, leb-false}
use mathlib.Core.List.{List, [], ◌∷◌}
use Rattle.std.proofs.Math.Nat.{mod-mod_of_dvd, dvd-mul_right, mod-one, zero-mod}
use Rattle.lists.specs.Tests.{by-test, same_test, and_left, and_right, and_both}
use Rattle.lists.specs.Search.{all, drop_turn}
use Rattle.alignment.specs.Multiples.{multiple, multiple-true, multiple-of}
use Rattle.alignment.specs.Pages.{Power}

-- the highest of f over the elements, 1 with none
unfoldable pub highest : {A : Type 0} → (A → ℕ) → List A → ℕ
highest f [] = 1
highest f (x ∷ xs) = max (f x) (highest f xs)

-- a multiple of a power of two is one of each lower power
lower_power : (j d x : ℕ) → x % 2 ^ (j + d) ≡ 0 → x % 2 ^ j ≡ 0
lower_power j d x e =
    sym (mod-mod_of_dvd _ x (dvd-mul_right (2 ^ j) (2 ^ d))) ∙ ap (λ (m : ℕ). x % m % 2 ^ j) (sym (pow-add 2 j d)) ∙ ap (λ (m : ℕ). m % 2 ^ j) e ∙ zero-mod (2 ^ j)

pub multiple-lower : (a b x : ℕ) → Power a → Power b → a ≤ b → multiple b x ≡ true → multiple a x ≡ true
multiple-lower a b x (j, p) (k, q) h e =
    by-test (leb j k)
    (λ t. let g = leb-true j k t in let s : j + (k - j) ≡ k = omega arith in multiple-of a x (rw p (lower_power j (k - j) x (rw (s, ← q) (multiple-true b x e)))))
    (λ t. let g = leb-false j k t in let l : k ≤ j = omega arith in let m = pow_mono l in let s : b ≡ a = omega (arith, p, q) in rw (← s) e)

module _ (a b : ℕ) (p : Power a) (q : Power b) where
  pub max_power : Power (max a b)
  max_power =
      by-test (leb a b)
      (λ e. let h = leb-true a b e in let s : max a b ≡ b = omega arith in rw s q)
      (λ e. let h = leb-false a b e in let s : max a b ≡ a = omega arith in rw s p)

  max_multiple : (x : ℕ) → multiple (max a b) x ≡ (multiple a x && multiple b x)
  max_multiple x =
      by-test (leb a b)
      (λ e.
      let h = leb-true a b e in
      let s : max a b ≡ b = omega arith in
      rw s (same_test (multiple b x) (multiple a x && multiple b x) (λ t. and_both (multiple a x) (multiple b x) (multiple-lower a b x p q h t) t) (and_right (multiple a x) (multiple b x))))
      (λ e.
      let h = leb-false a b e in
      let s : max a b ≡ a = omega arith in
      rw s (same_test (multiple a x) (multiple a x && multiple b x) (λ t. and_both (multiple a x) (multiple b x) t (multiple-lower b a x q p (omega arith) t)) (and_left (multiple a x) (multiple b x))))

module _ {A : Type 0} (f : A → ℕ) (powers : (a : A) → Power (f a)) where
  pub highest-power : (xs : List A) → Power (highest f xs)
  unfolding highest
  highest-power [] = (0, refl)
  highest-power (a ∷ xs) = max_power (f a) (highest f xs) (powers a) (highest-power xs)

  -- THE LAW
  pub highest-multiple : (xs : List A) (x : ℕ) → multiple (highest f xs) x ≡ all (λ a. multiple (f a) x) xs
  unfolding highest all
  highest-multiple [] x = multiple-of 1 x (mod-one x)
  highest-multiple (a ∷ xs) x = max_multiple (f a) (highest f xs) (powers a) (highest-power xs) x ∙ ap (λ (b : Bool). multiple (f a) x && b) (highest-multiple xs x)

module _ {A : Type 0} (f : A → ℕ) where
  highest-nil : highest f [] ≡ 1
  unfolding highest
  highest-nil = refl

  highest-cons : (x : A) (xs : List A) → highest f (x ∷ xs) ≡ max (f x) (highest f xs)
  unfolding highest
  highest-cons x xs = refl

  pub highest-pos : (xs : List A) → 1 ≤ highest f xs
  highest-pos [] = omega (arith, highest-nil)
  highest-pos (x ∷ xs) = omega (arith, highest-cons x xs, highest-pos xs)

  -- an element that asked 1 is replaced: the higher of the old and the new
  pub highest-set : (xs : List A) (i : ℕ) (a d : A) → i < length xs → f (get_or xs i d) ≡ 1 → highest f (set xs i a) ≡ max (f a) (highest f xs)
  highest-set [] i a d h e = absurd (not-suc-le-zero h)
  highest-set (x ∷ xs) zero a d h e = omega (arith, e, highest-cons a xs, highest-cons x xs, highest-pos xs)
  highest-set (x ∷ xs) (suc i) a d h e = omega (arith, highest-cons x (set xs i a), highest-cons x xs, highest-set xs i a d (le_of_suc-le-suc h) e)

  -- a loop that keeps the highest so far
  pub highest-start : (xs : List A) → max 1 (highest f xs) ≡ highest f xs
  highest-start xs = omega (arith, highest-pos xs)

  module _ (xs : List A) (i best : ℕ) {k : ℕ} (v : max best (highest f (drop i xs)) ≡ k) where
    pub highest-on : (d : A) (r : ℕ) → i < length xs → r ≡ f (get_or xs i d) → max (max best r) (highest f (drop (i + 1) xs)) ≡ k
    highest-on d r h e = omega (arith, ap (highest f) (drop_turn xs d i h) ∙ highest-cons (get_or xs i d) (drop (i + 1) xs))

    pub highest-end : length xs ≤ i → 1 ≤ best → best ≡ k
    highest-end h p = omega (arith, ap (highest f) (drop_of_length-le xs h) ∙ highest-nil)
