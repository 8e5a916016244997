-- Sums and counts over the numbers below n, the exchange with a sum over a list, and the lowest of some numbers that passes a test.
-- All are shut: a sum over 2^64 numbers is reasoned about and never computed.
use Rattle.std.specs.Prelude.{ℕ, zero, suc, ◌+◌, ◌-◌, ◌*◌, ◌≤◌, ◌<◌, min, ◌≡◌, refl, Bool, true, false, ◌&&◌, List, leb, ltb, eqb, Option, None, Some}
use Rattle.std.proofs.Common.{zero-le, ◌∙◌, ⊎_elim, le_of_suc-le-suc, not-suc-le-zero, eq-or-lt_of_le, leb-true, leb-false, ltb-true, ltb-false, eqb-true}
use Rattle.std.proofs.Math.Path.{sym}
use native.Mathlib.Omega.{arith}
use Rattle.std.proofs.lemmas.Bool.{eqb-false}
use Rattle.lists.specs.Tests.{by-test, contrary, only_if, only_if-false}
use Rattle.lists.specs.Sums.{sum_of, sum_of-add, sum_of-zero}

-- f 0 + .. + f (n - 1)
unfoldable pub sum_below : (ℕ → ℕ) → ℕ → ℕ
sum_below f zero = 0
sum_below f (suc n) = f n + sum_below f n

pub sum_below-suc : (f : ℕ → ℕ) (n : ℕ) → sum_below f (suc n) ≡ f n + sum_below f n
unfolding sum_below
sum_below-suc f n = refl

pub sum_below-cong : (f g : ℕ → ℕ) (n : ℕ) → ((k : ℕ) → k < n → f k ≡ g k) → sum_below f n ≡ sum_below g n
unfolding sum_below
sum_below-cong f g zero h = refl
sum_below-cong f g (suc n) h = omega (arith, h n (omega arith), sum_below-cong f g n (λ k l. h k (omega arith)))

pub sum_below-le : (f g : ℕ → ℕ) (n : ℕ) → ((k : ℕ) → k < n → f k ≤ g k) → sum_below f n ≤ sum_below g n
unfolding sum_below
sum_below-le f g zero h = zero-le
sum_below-le f g (suc n) h = omega (arith, h n (omega arith), sum_below-le f g n (λ k l. h k (omega arith)))

pub sum_below-const : (c n : ℕ) → sum_below (λ k. c) n ≡ c * n
unfolding sum_below
sum_below-const c zero = omega arith
sum_below-const c (suc n) = omega (arith, sum_below-const c n)

pub sum_below-zero : (n : ℕ) → sum_below (λ k. 0) n ≡ 0
sum_below-zero n = omega (arith, sum_below-const 0 n)

pub sum_below-add : (f g : ℕ → ℕ) (n : ℕ) → sum_below (λ k. f k + g k) n ≡ sum_below f n + sum_below g n
unfolding sum_below
sum_below-add f g zero = omega arith
sum_below-add f g (suc n) = omega (arith, sum_below-add f g n)

-- the two kinds of sum change places
pub sum_of-sum_below : {A : Type 0} (f : A → ℕ → ℕ) (xs : List A) (n : ℕ) → sum_of (λ x. sum_below (f x) n) xs ≡ sum_below (λ k. sum_of (λ x. f x k) xs) n
unfolding sum_below
sum_of-sum_below f xs zero = sum_of-zero xs
sum_of-sum_below f xs (suc n) = omega (arith, sum_of-add (λ x. f x n) (λ x. sum_below (f x) n) xs, sum_of-sum_below f xs n)

-- a sum to which only the number x can give anything
pub sum_below-only : (f : ℕ → ℕ) (x n : ℕ) → ((k : ℕ) → k < n → (k ≡ x → ⊥) → f k ≡ 0) → x < n → sum_below f n ≡ f x
unfolding sum_below
sum_below-only f x zero z h = absurd (not-suc-le-zero h)
sum_below-only f x (suc n) z h =
    ⊎_elim
    (λ e. rw e (omega (arith, sum_below-cong f (λ k. 0) n (λ k l. z k (omega arith) (λ s. omega (arith, s, e))), sum_below-zero n)))
    (λ l. omega (arith, z n (omega arith) (λ s. omega (arith, s, l)), sum_below-only f x n (λ k m. z k (omega arith)) l))
    (eq-or-lt_of_le (le_of_suc-le-suc h))

-- n numbers whose sum is below n: one of them is 0
pub sum_below-some_zero : (f : ℕ → ℕ) (n : ℕ) → sum_below f n < n → (k : ℕ) × (k < n) × (f k ≡ 0)
unfolding sum_below
sum_below-some_zero f zero h = absurd (not-suc-le-zero h)
sum_below-some_zero f (suc n) h =
    by-test (eqb (f n) 0)
    (λ e. (n, omega arith, eqb-true (f n) 0 e))
    (λ e. let ne : f n ≡ 0 → ⊥ = eqb-false (f n) 0 e in let r = sum_below-some_zero f n (omega (arith, ne)) in (r.0, omega (arith, r.1), r.2))

-- how many numbers below n pass
unfoldable pub count_below : ℕ → (ℕ → Bool) → ℕ
count_below n p = sum_below (λ k. only_if (p k) 1) n

pub count_below-cong : (n : ℕ) (p q : ℕ → Bool) → ((k : ℕ) → k < n → p k ≡ q k) → count_below n p ≡ count_below n q
unfolding count_below
count_below-cong n p q h = sum_below-cong (λ k. only_if (p k) 1) (λ k. only_if (q k) 1) n (λ k l. rw (h k l))

-- a test that no two numbers pass
pub count_below-one : (n : ℕ) (p : ℕ → Bool) → ((j k : ℕ) → j < n → k < n → p j ≡ true → p k ≡ true → j ≡ k) → count_below n p ≤ 1
unfolding count_below sum_below
count_below-one zero p h = zero-le
count_below-one (suc n) p h =
    by-test (p n)
    (λ e. rw e (omega (arith, out e, sum_below-zero n)))
    (λ e. rw e (omega (arith, count_below-one n p (λ j k a b. h j k (omega arith) (omega arith)))))
  where
    out : p n ≡ true → sum_below (λ k. only_if (p k) 1) n ≡ sum_below (λ k. 0) n
    out e = sum_below-cong (λ k. only_if (p k) 1) (λ k. 0) n (λ k l. only_if-false (p k) 1 (by-test (p k) (λ q. let s : k ≡ n = h k n (omega arith) (omega arith) q e in absurd (omega arith)) (λ q. q)))

-- how many numbers from x on, but below y, lie below n
count_below-cut : (n x y : ℕ) → count_below n (λ k. leb x k && ltb k y) ≡ min n y - x
unfolding count_below sum_below
count_below-cut zero x y = omega arith
count_below-cut (suc n) x y =
    by-test (leb x n)
    (λ e. by-test (ltb n y)
    (λ f. rw (e, f) (omega (arith, leb-true x n e, ltb-true n y f, count_below-cut n x y)))
    (λ f. rw (e, f) (omega (arith, ltb-false n y f, count_below-cut n x y))))
    (λ e. rw e (omega (arith, leb-false x n e, count_below-cut n x y)))

-- a run of numbers that ends by n
pub count_below-run : (n x y : ℕ) → y ≤ n → count_below n (λ k. leb x k && ltb k y) ≡ y - x
count_below-run n x y h = omega (arith, count_below-cut n x y)

-- ---- the first of the n numbers from k on that passes

unfoldable pub lowest : (ℕ → Bool) → ℕ → ℕ → Option ℕ
lowest p zero k = None
lowest p (suc n) k = elim (p k) [ true ↦ Some k | false ↦ lowest p n (k + 1) ]

lowest-true : (p : ℕ → Bool) (n k : ℕ) → p k ≡ true → lowest p (suc n) k ≡ Some k
unfolding lowest
lowest-true p n k e = rw (e, lowest)

lowest-false : (p : ℕ → Bool) (n k : ℕ) → p k ≡ false → lowest p (suc n) k ≡ lowest p n (k + 1)
unfolding lowest
lowest-false p n k e = rw (e, lowest)

-- it passes, is one of them, and none of them below it passes
pub record LowestOf (p : ℕ → Bool) (n k m : ℕ) : Type 0 where
  pub passes : p m ≡ true
  pub from : k ≤ m
  pub upto : m < k + n
  pub least : (j : ℕ) → k ≤ j → j < m → p j ≡ false

lowest-later : (p : ℕ → Bool) (n k m : ℕ) → p k ≡ false → LowestOf p n (k + 1) m → LowestOf p (suc n) k m
lowest-later p n k m t r = record {
  passes = r.passes;
  from = omega (arith, r.from);
  upto = omega (arith, r.upto);
  least = λ j a b. by-test (eqb j k) (λ q. rw (eqb-true j k q) t) (λ q. let ne : j ≡ k → ⊥ = eqb-false j k q in r.least j (omega (arith, ne)) b);
}

pub lowest-some : (p : ℕ → Bool) (n k m : ℕ) → lowest p n k ≡ Some m → LowestOf p n k m
unfolding lowest
lowest-some p zero k m e = let z : ◌≡◌ {A = ℕ} 0 1 = cc in absurd (omega arith)
lowest-some p (suc n) k m e =
    by-test (p k)
    (λ t. let f = lowest-true p n k t in let s : k ≡ m = cc in record { passes = rw (← s) t; from = omega arith; upto = omega arith; least = λ j a b. absurd (omega arith) })
    (λ t. lowest-later p n k m t (lowest-some p n (k + 1) m (sym (lowest-false p n k t) ∙ e)))

-- where one of them passes, there is a lowest
pub lowest-exists : (p : ℕ → Bool) (n k m : ℕ) → k ≤ m → m < k + n → p m ≡ true → (r : ℕ) × (lowest p n k ≡ Some r)
unfolding lowest
lowest-exists p zero k m a b e = absurd (omega arith)
lowest-exists p (suc n) k m a b e =
    by-test (p k)
    (λ t. (k, lowest-true p n k t))
    (λ t. let ne : k ≡ m → ⊥ = λ s. contrary (p m) e (rw (← s) t) in let r = lowest-exists p n (k + 1) m (omega (arith, ne)) (omega arith) e in (r.0, lowest-false p n k t ∙ r.1))

-- a loop that looks for it, from k up to but not at end
module _ (p : ℕ → Bool) (end k : ℕ) {a : Option ℕ} (v : lowest p (end - k) k ≡ a) where
  pub lowest-found : k < end → p k ≡ true → Some k ≡ a
  lowest-found h e = let s : end - k ≡ suc (end - (k + 1)) = omega arith in sym (rw s (lowest-true p (end - (k + 1)) k e)) ∙ v

  pub lowest-on : k < end → p k ≡ false → lowest p (end - (k + 1)) (k + 1) ≡ a
  lowest-on h e = let s : end - k ≡ suc (end - (k + 1)) = omega arith in sym (rw s (lowest-false p (end - (k + 1)) k e)) ∙ v

  pub lowest-end : end ≤ k → None ≡ a
  unfolding lowest
  lowest-end h = let s : end - k ≡ 0 = omega arith in sym (rw s) ∙ v
