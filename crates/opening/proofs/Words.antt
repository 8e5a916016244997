-- Flags by masks and shifts, and the negative of a number, as the code computes them.
use Prim.Native.Nat.{ℕ, zero, suc, ◌*◌, ◌/◌, ◌%◌, ◌^◌, ◌≤◌, ◌<◌}
use mathlib.Core.Path.{◌≡◌, sym, ap, ◌∙◌}
use mathlib.Core.Bool.{Bool, not}
use native.Mathlib.Nat.{mod-eq_of_lt, div-one}
use native.Mathlib.Omega.{arith}
use lib.Dec.{eqb}
use lib.Bits.{bit_and, and_mask, and_high}
use lib.IntN.{ℤ, pos, neg_ℤ, ◌-ℤ◌, +ℤ_idl}
use lib.Signed.{mag}
use mir.Syntax.{w32}
use mir.Val.{SFits, to_z, of_z}
use mir.Facts.{to_z-of_z}
use borrow.Author.Tests.{eq-eqb, ne_eqb, eqb-true, eqb-false}
use Rattle.lists.specs.Tests.{by-test}
use Rattle.rules_table.specs.Flags.{bit, unknown}
use Rattle.rules_calls.specs.Results.{signed_result}

pub mask_low : (n : ℕ) → eqb (bit_and n 1) 1 ≡ bit 0 n
unfolding bit
mask_low n = ap (λ (x : ℕ). eqb x 1) (and_mask n 1 ∙ ap (λ (x : ℕ). x % 2) (sym (div-one n)))

pub mask_shifted : (k n : ℕ) → eqb (bit_and (n / 2 ^ k) 1) 1 ≡ bit k n
unfolding bit
mask_shifted k n = ap (λ (x : ℕ). eqb x 1) (and_mask (n / 2 ^ k) 1)

pub mask_high : (n : ℕ) → n < 2 ^ 32 → not (eqb (bit_and n 0xFFFF_FFF8) 0) ≡ unknown 3 n
unfolding unknown
mask_high n h =
    let q : n / 2 ^ 3 % 2 ^ 29 ≡ n / 2 ^ 3 = mod-eq_of_lt (omega arith) in
    ap (λ (b : Bool). not b) (ap (λ (x : ℕ). eqb x 0) (and_high n 29 3 ∙ ap (λ (x : ℕ). x * 2 ^ 3) q) ∙ times (n / 2 ^ 3))
  where
    times : (x : ℕ) → eqb (x * 2 ^ 3) 0 ≡ eqb x 0
    times x =
        by-test (eqb x 0)
        (λ e. let z : x ≡ 0 = eqb-true x 0 e in eq-eqb (x * 2 ^ 3) 0 (omega arith) ∙ sym e)
        (λ e. ne_eqb (x * 2 ^ 3) 0 (λ z. eqb-false x 0 e (omega (arith, z))) ∙ sym e)

mag_neg : (n : ℕ) → mag (neg_ℤ (pos n)) ≤ n
mag_neg zero = omega arith
mag_neg (suc n) = omega arith

module _ (n : ℕ) (h : n < 2 ^ 31) where
  fits : SFits w32 (pos n)
  fits = record { sfits = omega arith }

  negative_fits : SFits w32 (pos 0 -ℤ pos n)
  negative_fits = rw (+ℤ_idl (neg_ℤ (pos n))) (record { sfits = omega (arith, mag_neg n) })

  pub negative-is : (z : ℤ) → z ≡ pos n → to_z w32 (of_z w32 (pos 0 -ℤ to_z w32 (of_z w32 z))) ≡ signed_result n
  unfolding signed_result
  negative-is z e = rw (e, to_z-of_z fits) (to_z-of_z negative_fits ∙ +ℤ_idl (neg_ℤ (pos n)))
