-- Two ways to say that elements do not clash: no two do, or nothing is had by more than one of them.
use Prim.Native.Nat.{ℕ, ◌+◌, ◌≤◌, ◌<◌, zero-le}
use Rattle.std.specs.Prelude.{◌≡◌, Bool, not, length, get_or}
use Rattle.std.proofs.Math.Path.{refl}
use Rattle.std.proofs.Common.{◌∙◌, arith}
use Rattle.std.proofs.Math.Bool.{true, false}
use mathlib.Core.List.{List, [], ◌∷◌}
use Rattle.lists.specs.Tests.{by-test, contrary, only_if, only_if-split, or_not_left, or_not_right, or_neither}
use Rattle.lists.specs.Search.{any, any_none, any_at, any-slot}
use Rattle.lists.specs.Pairs.{clashes}
use Rattle.lists.specs.Sums.{count_of, sum_of-cons, sum_of-nil}

module _ {A : Type 0} where
  pub count_of-cons : (p : A → Bool) (x : A) (xs : List A) → count_of p (x ∷ xs) ≡ only_if (p x) 1 + count_of p xs
  unfolding count_of
  count_of-cons p x xs = sum_of-cons (λ y. only_if (p y) 1) x xs

  pub count_of-nil : (p : A → Bool) → count_of p [] ≡ 0
  unfolding count_of
  count_of-nil p = sum_of-nil (λ y. only_if (p y) 1)

  -- where none passes, the count is 0
  pub count_of-none : (p : A → Bool) (xs : List A) → any p xs ≡ false → count_of p xs ≡ 0
  unfolding any
  count_of-none p [] e = count_of-nil p
  count_of-none p (x ∷ xs) e = count_of-cons p x xs ∙ rw (or_not_left (p x) (any p xs) e, count_of-none p xs (or_not_right (p x) (any p xs) e)) refl

  -- where some passes, the count is at least 1
  pub count_of-some : (p : A → Bool) (xs : List A) → any p xs ≡ true → 1 ≤ count_of p xs
  unfolding any
  count_of-some p [] e = contrary false e refl
  count_of-some p (x ∷ xs) e =
      by-test (p x)
      (λ t. rw (count_of-cons p x xs, t) (omega arith))
      (λ t. rw (count_of-cons p x xs, t) (omega (arith, count_of-some p xs (rw t at e))))

  pub count_of-at : (p : A → Bool) (xs : List A) (d : A) (i : ℕ) → i < length xs → p (get_or xs i d) ≡ true → 1 ≤ count_of p xs
  count_of-at p xs d i h e = count_of-some p xs (any_at p xs d i h e)

  -- any two that pass p clash, and none clash: at most one passes p
  pub clashes-once : (p : A → Bool) (r : A → A → Bool) → ((x y : A) → p x ≡ true → p y ≡ true → r x y ≡ true) → (xs : List A) → clashes r xs ≡ false → count_of p xs ≤ 1
  unfolding clashes
  clashes-once p r h [] e = rw (count_of-nil p) zero-le
  clashes-once p r h (x ∷ xs) e =
      by-test (p x)
      (λ t. rw (count_of-cons p x xs, t, count_of-none p xs (any_none p (r x) xs (λ y q. h x y t q) (or_not_left (any (r x) xs) (clashes r xs) e))) (omega arith))
      (λ t. rw (count_of-cons p x xs, t) (omega (arith, clashes-once p r h xs (or_not_right (any (r x) xs) (clashes r xs) e))))

  -- any two that clash pass some p k, and at most one passes each p k: none clash
  pub once-clashes : {K : Type 0} (p : K → A → Bool) (r : A → A → Bool) → ((x y : A) → r x y ≡ true → (k : K) × (p k x ≡ true) × (p k y ≡ true))
      → (xs : List A) → ((k : K) → count_of (p k) xs ≤ 1) → clashes r xs ≡ false
  unfolding clashes
  once-clashes p r h [] f = refl
  once-clashes p r h (x ∷ xs) f =
      or_neither (any (r x) xs) (clashes r xs)
      (by-test (any (r x) xs) (λ t. absurd (twice t)) (λ t. t))
      (once-clashes p r h xs (λ k. omega (arith, f k, count_of-cons (p k) x xs)))
    where
      twice : any (r x) xs ≡ true → ⊥
      twice t =
          let w = any-slot (r x) xs x t in
          let k = h x (get_or xs w.0 x) w.2 in
          let one = count_of-at (p k.0) xs x w.0 w.1 k.2 in
          let two : count_of (p k.0) (x ∷ xs) ≡ 1 + count_of (p k.0) xs = count_of-cons (p k.0) x xs ∙ rw k.1 refl in
          omega (arith, f k.0, one, two)

  -- those that pass and those that do not
  pub count_of-not : (p : A → Bool) (xs : List A) → count_of p xs + count_of (λ x. not (p x)) xs ≡ length xs
  count_of-not p [] = omega (arith, count_of-nil p, count_of-nil (λ x. not (p x)))
  count_of-not p (x ∷ xs) = omega (arith, count_of-cons p x xs, count_of-cons (λ x. not (p x)) x xs, count_of-not p xs, only_if-split (p x) 1)
