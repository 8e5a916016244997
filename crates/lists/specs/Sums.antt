-- The sum of a weight over the elements of a list, and the elements that pass a test.
use Prim.Native.Nat.{ℕ, zero, suc, ◌+◌, ◌*◌, ◌≤◌, ◌<◌, zero-le}
use Rattle.std.specs.Prelude.{◌≡◌, Bool, true, false, ◌&&◌, ◌||◌, cond, ltb, length, get_or, replicate, Some}
use Rattle.std.proofs.Math.Path.{refl}
use Rattle.std.proofs.Common.{ap, ◌∙◌, le_of_suc-le-suc, not-suc-le-zero}
use mathlib.Core.List.{List, [], ◌∷◌, ◌++◌}
use Rattle.std.proofs.Math.Nat.{suc-mul}
use native.Mathlib.Omega.{arith}
use borrow.Author.Tests.{ltb-true, lt-ltb}
use Rattle.lists.specs.Tests.{by-test, only_if, only_if-true, only_if-zero}
use Rattle.lists.specs.Search.{any, any_at, find, find-cons_true, find-cons_false}
use Rattle.lists.specs.Each.{Each}

module _ {A : Type 0} where
  unfoldable pub sum_of : (A → ℕ) → List A → ℕ
  sum_of w [] = 0
  sum_of w (x ∷ xs) = w x + sum_of w xs

  pub sum_of-nil : (w : A → ℕ) → sum_of w [] ≡ 0
  unfolding sum_of
  sum_of-nil w = refl

  pub sum_of-cons : (w : A → ℕ) (x : A) (xs : List A) → sum_of w (x ∷ xs) ≡ w x + sum_of w xs
  unfolding sum_of
  sum_of-cons w x xs = refl

  pub sum_of-append : (w : A → ℕ) (xs ys : List A) → sum_of w (xs ++ ys) ≡ sum_of w xs + sum_of w ys
  unfolding sum_of
  sum_of-append w [] ys = omega arith
  sum_of-append w (x ∷ xs) ys = omega (arith, sum_of-append w xs ys)

  pub sum_of-cong : (w v : A → ℕ) (xs : List A) → Each (λ x. w x ≡ v x) xs → sum_of w xs ≡ sum_of v xs
  unfolding sum_of
  sum_of-cong w v [] h = refl
  sum_of-cong w v (x ∷ xs) h = omega (arith, h.0, sum_of-cong w v xs h.1)

  pub sum_of-le : (w v : A → ℕ) (xs : List A) → Each (λ x. w x ≤ v x) xs → sum_of w xs ≤ sum_of v xs
  unfolding sum_of
  sum_of-le w v [] h = zero-le
  sum_of-le w v (x ∷ xs) h = omega (arith, h.0, sum_of-le w v xs h.1)

  -- each weight at most b: the sum at most b for each element
  pub sum_of-most : (w : A → ℕ) (b : ℕ) (xs : List A) → Each (λ x. w x ≤ b) xs → sum_of w xs ≤ length xs * b
  unfolding sum_of
  sum_of-most w b [] h = zero-le
  sum_of-most w b (x ∷ xs) h = omega (arith, h.0, sum_of-most w b xs h.1, suc-mul (length xs) b)

  pub sum_of-zero : (xs : List A) → sum_of (λ x. 0) xs ≡ 0
  unfolding sum_of
  sum_of-zero [] = refl
  sum_of-zero (x ∷ xs) = omega (arith, sum_of-zero xs)

  pub sum_of-add : (w v : A → ℕ) (xs : List A) → sum_of (λ x. w x + v x) xs ≡ sum_of w xs + sum_of v xs
  unfolding sum_of
  sum_of-add w v [] = refl
  sum_of-add w v (x ∷ xs) = omega (arith, sum_of-add w v xs)

  pub sum_of-replicate : (w : A → ℕ) (n : ℕ) (a : A) → w a ≡ 0 → sum_of w (replicate n a) ≡ 0
  unfolding sum_of
  sum_of-replicate w zero a e = refl
  sum_of-replicate w (suc n) a e = omega (arith, sum_of-replicate w n a e)

  -- how many elements pass
  unfoldable pub count_of : (A → Bool) → List A → ℕ
  count_of p xs = sum_of (λ x. only_if (p x) 1) xs

  pub count_of-any : (p : A → Bool) (xs : List A) → ltb 0 (count_of p xs) ≡ any p xs
  unfolding count_of sum_of any
  count_of-any p [] = refl
  count_of-any p (x ∷ xs) =
      by-test (p x)
      (λ e. rw e (lt-ltb 0 (1 + sum_of (λ x. only_if (p x) 1) xs) (omega arith)))
      (λ e. let z : 0 + sum_of (λ x. only_if (p x) 1) xs ≡ sum_of (λ x. only_if (p x) 1) xs = omega arith in rw (e, z) (count_of-any p xs))

  pub count_of-zero : (p : A → Bool) (xs : List A) → count_of p xs ≡ 0 → Each (λ x. p x ≡ false) xs
  unfolding count_of sum_of
  count_of-zero p [] e = tt
  count_of-zero p (x ∷ xs) e = (only_if-zero (p x) (omega arith), count_of-zero p xs (omega arith))

  pub count_of-length : (p : A → Bool) (xs : List A) → count_of p xs ≤ length xs
  unfolding count_of sum_of
  count_of-length p [] = zero-le
  count_of-length p (x ∷ xs) = by-test (p x) (λ e. rw e (omega (arith, count_of-length p xs))) (λ e. rw e (omega (arith, count_of-length p xs)))

  -- at most one element passes q, and p is narrower than q: the element that passes p is the one that is found
  pub find-only : (p q : A → Bool) → ((x : A) → p x ≡ true → q x ≡ true) → (xs : List A) (d : A) → count_of q xs ≤ 1 → (i : ℕ) → i < length xs → p (get_or xs i d) ≡ true → find p xs ≡ Some (get_or xs i d)
  unfolding count_of sum_of
  find-only p q h [] d c i l e = absurd (not-suc-le-zero l)
  find-only p q h (x ∷ xs) d c zero l e = find-cons_true p x xs e
  find-only p q h (x ∷ xs) d c (suc i) l e =
      by-test (p x)
      (λ t. let one = ltb-true 0 (count_of q xs) (count_of-any q xs ∙ any_at q xs d i (le_of_suc-le-suc l) (h (get_or xs i d) e)) in absurd (omega (arith, c, one, only_if-true (q x) 1 (h x t))))
      (λ t. find-cons_false p x xs t ∙ find-only p q h xs d (omega (arith, c)) i (le_of_suc-le-suc l) e)

  -- the elements that pass, in their order
  unfoldable pub keep : (A → Bool) → List A → List A
  keep p [] = []
  keep p (x ∷ xs) = cond (p x) (x ∷ keep p xs) (keep p xs)

  pub sum_of-keep : (w : A → ℕ) (p : A → Bool) (xs : List A) → sum_of w (keep p xs) ≡ sum_of (λ x. only_if (p x) (w x)) xs
  unfolding keep sum_of
  sum_of-keep w p [] = refl
  sum_of-keep w p (x ∷ xs) = by-test (p x) (λ e. rw e (omega (arith, sum_of-keep w p xs))) (λ e. rw e (omega (arith, sum_of-keep w p xs)))

  pub any-keep : (q p : A → Bool) (xs : List A) → any q (keep p xs) ≡ any (λ x. p x && q x) xs
  unfolding keep any
  any-keep q p [] = refl
  any-keep q p (x ∷ xs) = by-test (p x) (λ e. rw e (ap (λ (b : Bool). q x || b) (any-keep q p xs))) (λ e. rw e (any-keep q p xs))
