-- What each return of the code gives, in the words of the definitions.
use Prim.Native.Nat.{ℕ, zero, suc, ◌+◌, ◌*◌, ◌%◌, ◌^◌, ◌<◌}
use mathlib.Core.Path.{◌≡◌, refl, sym, ap, ◌∙◌}
use mathlib.Core.Bool.{Bool, true, false, ◌&&◌}
use native.Mathlib.Nat.{mod-eq_of_lt, one-mul}
use native.Mathlib.Omega.{arith}
use lib.Count.{count_trailing_zeros}
use lib.Dec.{eqb}
use lib.Pow.{pow-lt}
use borrow.Author.Tests.{eqb-true, eq-eqb}
use Rattle.lists.specs.Tests.{same_test, and_left, and_right, and_both}
use Rattle.alignment.specs.Multiples.{multiple, multiple-true, multiple-of, fits, fits-length}
use Rattle.alignment.specs.Pages.{smallest_page, trailing_lt}

module _ (a s n : ℕ) where
  pub start_off : multiple a s ≡ false → fits a s n ≡ false
  start_off e = fits-length a s n ∙ ap (λ (b : Bool). b && multiple a n) e

  -- both remainders are 0 where their sum is
  page-both : eqb (s % 4096 + n % 4096) 0 ≡ fits 4096 s n
  page-both =
      same_test (eqb (s % 4096 + n % 4096) 0) (fits 4096 s n)
      (λ t. let z = eqb-true (s % 4096 + n % 4096) 0 t in
      fits-length 4096 s n ∙ and_both (multiple 4096 s) (multiple 4096 n) (multiple-of 4096 s (omega (arith, z))) (multiple-of 4096 n (omega (arith, z))))
      (λ t. let b = sym (fits-length 4096 s n) ∙ t in
      eq-eqb (s % 4096 + n % 4096) 0
      (omega (arith, multiple-true 4096 s (and_left (multiple 4096 s) (multiple 4096 n) b), multiple-true 4096 n (and_right (multiple 4096 s) (multiple 4096 n) b))))

  pub page_fits : a ≡ 4096 → fits a s n ≡ eqb (s % 4096 + n % 4096) 0
  page_fits e = ap (λ (x : ℕ). fits x s n) e ∙ sym page-both

  pub length_tells : multiple a s ≡ true → fits a s n ≡ multiple a n
  length_tells e = fits-length a s n ∙ ap (λ (b : Bool). b && multiple a n) e

pub page_none : (n : ℕ) → n ≡ 0 → smallest_page n ≡ 1
unfolding smallest_page
page_none n e = rw e

pub page_some : (n : ℕ) → (n ≡ 0 → ⊥) → n < 2 ^ 64 → smallest_page n ≡ 1 * 2 ^ count_trailing_zeros 64 n % 2 ^ 64
unfolding smallest_page
page_some zero ne h = absurd (ne refl)
page_some (suc n) ne h = sym (rw (one-mul (2 ^ count_trailing_zeros 64 (suc n))) (mod-eq_of_lt (pow-lt (trailing_lt 64 (suc n) (omega arith) h))))
