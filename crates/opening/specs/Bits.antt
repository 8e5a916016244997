-- Laws of flags: with no unknown bit, three bits are all there is.
use Rattle.std.specs.Prelude.{ℕ, ◌+◌, ◌*◌, ◌/◌, ◌%◌, ◌^◌, ◌≡◌, false, eqb}
use Rattle.std.proofs.Common.{mod-lt, mod-eq_of_lt, div-one, div-add-mod', arith, eqb-true}
use Rattle.std.proofs.Math.Nat.{div-div-eq-div-mul}
use Rattle.std.proofs.lemmas.Bool.{eqb-false, not-false}
use Rattle.lists.specs.Tests.{by-test, only_if}
use Rattle.rules_table.specs.Flags.{bit, unknown}

-- a bit as a number
bit-number : (k f w : ℕ) → only_if (bit k f) w ≡ w * (f / 2 ^ k % 2)
unfolding bit
bit-number k f w =
    by-test (eqb (f / 2 ^ k % 2) 1)
    (λ e. rw e (let z : f / 2 ^ k % 2 ≡ 1 = eqb-true (f / 2 ^ k % 2) 1 e in rw z (omega arith)))
    (λ e. rw e (let ne : f / 2 ^ k % 2 ≡ 1 → ⊥ = eqb-false (f / 2 ^ k % 2) 1 e in let z : f / 2 ^ k % 2 ≡ 0 = omega (arith, ne, mod-lt (f / 2 ^ k) {m = 2} (omega arith)) in rw z (omega arith)))

-- with no bit above bit 2, the three bits are all there is
pub flags-bits : (f : ℕ) → unknown 3 f ≡ false → f ≡ only_if (bit 0 f) 1 + only_if (bit 1 f) 2 + only_if (bit 2 f) 4
unfolding unknown
flags-bits f e =
    let high : f / 8 ≡ 0 = eqb-true (f / 2 ^ 3) 0 (not-false (eqb (f / 2 ^ 3) 0) e) in
    let top : f / 4 % 2 ≡ f / 4 = mod-eq_of_lt (omega arith) in
    let half : f / 2 / 2 ≡ f / 4 = div-div-eq-div-mul f 2 2 in
    let digits : f ≡ f % 2 + 2 * (f / 2 % 2) + 4 * (f / 4 % 2) = rw top (omega (arith, div-add-mod' f 2, div-add-mod' (f / 2) 2, half)) in
    omega (arith, digits, div-one f, bit-number 0 f 1, bit-number 1 f 2, bit-number 2 f 4)
