-- The smallest page of a device (document 01, "Alignment of a space": the lowest set bit of its page-size bitmap).
use Rattle.std.specs.Prelude.{ℕ, zero, suc, ◌*◌, ◌/◌, ◌%◌, ◌^◌, ◌<◌, ◌≡◌, refl}
use Rattle.std.proofs.Common.{sym, ap, ◌∙◌, pow-suc, div-one, mul_comm, arith, pow_pos}
use Rattle.std.proofs.Math.Nat.{mod-one, div-div-eq-div-mul}
use Rattle.std.proofs.Math.Arith.{mod-mul}
use Rattle.std.specs.Int.Count.{count_trailing_zeros, under}

-- 1 where no bit is set, which bind refuses: so every page is a power of two, and no law has a case for it
unfoldable pub smallest_page : ℕ → ℕ
smallest_page zero = 1
smallest_page (suc n) = 2 ^ count_trailing_zeros 64 (suc n)

abbrev pub Power : ℕ → Type 0
Power n = (k : ℕ) × (n ≡ 2 ^ k)

pub page-power : (n : ℕ) → Power (smallest_page n)
unfolding smallest_page
page-power zero = (0, refl)
page-power (suc n) = (count_trailing_zeros 64 (suc n), refl)

pub page-pos : (n : ℕ) → 0 < smallest_page n
page-pos n = rw (page-power n).1 (pow_pos (page-power n).0)

pub trailing_lt : (k n : ℕ) → 0 < n → n < 2 ^ k → count_trailing_zeros k n < k
unfolding count_trailing_zeros
trailing_lt zero n p h = absurd (omega arith)
trailing_lt (suc k) n p h = go (n % 2) refl (trailing_lt k (n / 2))
  where
    bound : n < 2 ^ k * 2
    bound = rw (← pow-suc 2 k) h

    go : (r : ℕ) → n % 2 ≡ r → (0 < n / 2 → n / 2 < 2 ^ k → count_trailing_zeros k (n / 2) < k) → under r (count_trailing_zeros k (n / 2)) < suc k
    go zero e rec = omega (arith, rec (omega arith) (omega (arith, bound)))
    go (suc r) e rec = omega arith

-- bit p of n is set and no bit below it is
pub record LowestBit (n p : ℕ) : Type 0 where
  pub power : Power p
  pub below : n % p ≡ 0
  pub here : n / p % 2 ≡ 1

lowest-bit : (k n : ℕ) → 0 < n → n < 2 ^ k → LowestBit n (2 ^ count_trailing_zeros k n)
unfolding count_trailing_zeros
lowest-bit zero n p h = absurd (omega arith)
lowest-bit (suc k) n p h = go (n % 2) refl (lowest-bit k (n / 2))
  where
    bound : n < 2 ^ k * 2
    bound = rw (← pow-suc 2 k) h

    go : (r : ℕ) → n % 2 ≡ r → (0 < n / 2 → n / 2 < 2 ^ k → LowestBit (n / 2) (2 ^ count_trailing_zeros k (n / 2))) → LowestBit n (2 ^ under r (count_trailing_zeros k (n / 2)))
    go zero e rec =
        let i = rec (omega arith) (omega (arith, bound)) in
        let t = count_trailing_zeros k (n / 2) in
        record {
          power = (suc t, refl);
          below = ap (λ (x : ℕ). n % x) (pow-suc 2 t) ∙ mod-mul n (pow_pos t) (omega arith) ∙ rw (i.below, e);
          here = ap (λ (x : ℕ). n / x % 2) (pow-suc 2 t ∙ mul_comm (2 ^ t) 2) ∙ ap (λ (x : ℕ). x % 2) (sym (div-div-eq-div-mul n 2 (2 ^ t))) ∙ i.here;
        }
    go (suc r) e rec = record { power = (0, refl); below = mod-one n; here = ap (λ (x : ℕ). x % 2) (div-one n) ∙ omega arith }

-- THE LAW: the smallest page is the lowest set bit
pub page-lowest : (n : ℕ) → 0 < n → n < 2 ^ 64 → LowestBit n (smallest_page n)
unfolding smallest_page
page-lowest zero p h = absurd (omega arith)
page-lowest (suc n) p h = lowest-bit 64 (suc n) p h
