-- Multiples of an alignment (document 01, MAP: "address or address + length not a multiple of the alignment"), and the lowest from a number on.
use Rattle.std.specs.Prelude.{ℕ, ◌+◌, ◌-◌, ◌*◌, ◌/◌, ◌%◌, ◌≤◌, ◌<◌, ◌≡◌, refl, Bool, true, false, ◌&&◌, cond, ltb, eqb, Option, None, Some}
use Rattle.std.proofs.Common.{sym, ◌∙◌, ⊎_elim, mod-lt, add-mul, one-mul, div-add-mod', mod-eq_of_lt, eq-zero-or-pos, mul-le-mul_right, lt_of_mul-lt-mul_right}
use Rattle.std.proofs.Math.Path.{ap}
use Rattle.std.proofs.Math.Nat.{mod-zero, mod_self, mod-add-mod, mul-mod_left}
use native.Mathlib.Omega.{arith}
use borrow.Author.Tests.{eqb-true, eqb-false, eq-eqb, ltb-true, ltb-false, lt-ltb, le-ltb}
use Rattle.lists.specs.Tests.{by-test, contrary}

-- x is a multiple of a
unfoldable pub multiple : ℕ → ℕ → Bool
multiple a x = eqb (x % a) 0

pub multiple-true : (a x : ℕ) → multiple a x ≡ true → x % a ≡ 0
unfolding multiple
multiple-true a x e = eqb-true (x % a) 0 e

pub multiple-of : (a x : ℕ) → x % a ≡ 0 → multiple a x ≡ true
unfolding multiple
multiple-of a x e = eq-eqb (x % a) 0 e

pub multiple-false : (a x : ℕ) → multiple a x ≡ false → x % a ≡ 0 → ⊥
unfolding multiple
multiple-false a x e = eqb-false (x % a) 0 e

-- a multiple and a number: their sum is a multiple where the number is
pub multiple-add : (a x y : ℕ) → multiple a x ≡ true → multiple a (x + y) ≡ multiple a y
unfolding multiple
multiple-add a x y e =
    let z : 0 + y ≡ y = omega arith in
    ap (λ (r : ℕ). eqb r 0) (sym (mod-add-mod x a y) ∙ ap (λ (r : ℕ). (r + y) % a) (multiple-true a x e) ∙ ap (λ (r : ℕ). r % a) z)

-- start and start + length are multiples of a
unfoldable pub fits : ℕ → ℕ → ℕ → Bool
fits a start length = multiple a start && multiple a (start + length)

-- so are start and length
pub fits-length : (a s n : ℕ) → fits a s n ≡ (multiple a s && multiple a n)
unfolding fits
fits-length a s n = by-test (multiple a s) (λ e. rw e (multiple-add a s n e)) (λ e. rw e)

-- ---- the lowest number with a property, or that there is none: a relation that fixes the answer

abbrev pub Lowest : (ℕ → Type 0) → Option ℕ → Type 0
Lowest P (Some x) = P x × ((y : ℕ) → P y → x ≤ y)
Lowest P None = (y : ℕ) → P y → ⊥

pub lowest-unique : (P : ℕ → Type 0) (r s : Option ℕ) → Lowest P r → Lowest P s → r ≡ s
lowest-unique P None None h k = refl
lowest-unique P None (Some y) h k = absurd (h y k.0)
lowest-unique P (Some x) None h k = absurd (k x h.0)
lowest-unique P (Some x) (Some y) h k = let e : x ≡ y = omega (arith, h.1 y k.0, k.1 x h.0) in ap Some e

-- y is a multiple of a, at or above x and below 2^64
pub record MultipleFrom (a x y : ℕ) : Type 0 where
  pub exact : multiple a y ≡ true
  pub from : x ≤ y
  pub below : y < 0x1_0000_0000_0000_0000

-- x and what it lacks to a multiple of a
unfoldable pub round_up : ℕ → ℕ → ℕ
round_up a x = x + (a - x % a) % a

-- the lowest multiple of a from x on, if it is one and below 2^64 (of 0 only 0 is a multiple)
unfoldable pub lowest_multiple : ℕ → ℕ → Option ℕ
lowest_multiple a x = cond (multiple a (round_up a x) && ltb (round_up a x) 0x1_0000_0000_0000_0000) (Some (round_up a x)) None

-- where x is no multiple, the next one is the lowest from x on
module _ (a x : ℕ) (pos : 0 < a) where
  next : x + (a - x % a) ≡ (x / a + 1) * a
  next = rw add-mul (rw one-mul (omega (arith, div-add-mod' x a, mod-lt x pos)))

  next_multiple : multiple a (x + (a - x % a)) ≡ true
  next_multiple = multiple-of a (x + (a - x % a)) (rw next (mul-mod_left (x / a + 1) a))

  next-least : (y : ℕ) → y % a ≡ 0 → x ≤ y → (x % a ≡ 0 → ⊥) → x + (a - x % a) ≤ y
  next-least y e h ne =
      let hy : y / a * a + y % a ≡ y = div-add-mod' y a in
      let hx : x / a * a + x % a ≡ x = div-add-mod' x a in
      let l : x / a < y / a = lt_of_mul-lt-mul_right a {m = x / a} {n = y / a} (omega arith) in
      let m : (x / a + 1) * a ≤ y / a * a = mul-le-mul_right {m = x / a + 1} {n = y / a} a (omega arith) in
      rw next (omega arith)

  -- the answer by its cases
  round_up-next : multiple a x ≡ false → round_up a x ≡ x + (a - x % a)
  unfolding round_up
  round_up-next e = ap (λ (r : ℕ). x + r) (mod-eq_of_lt (omega (arith, multiple-false a x e)))

  pub lowest-next : multiple a x ≡ false → x + (a - x % a) < 0x1_0000_0000_0000_0000 → Some (x + (a - x % a)) ≡ lowest_multiple a x
  unfolding lowest_multiple
  lowest-next e h = rw (round_up-next e, next_multiple, lt-ltb (x + (a - x % a)) 0x1_0000_0000_0000_0000 h)

  pub lowest-past : multiple a x ≡ false → 0x1_0000_0000_0000_0000 ≤ x + (a - x % a) → None ≡ lowest_multiple a x
  unfolding lowest_multiple
  lowest-past e h = rw (round_up-next e, next_multiple, le-ltb (x + (a - x % a)) 0x1_0000_0000_0000_0000 h)

  next-lowest : multiple a x ≡ false → Lowest (MultipleFrom a x) (lowest_multiple a x)
  next-lowest e =
      by-test (ltb (x + (a - x % a)) 0x1_0000_0000_0000_0000)
      (λ t.
      let h = ltb-true (x + (a - x % a)) 0x1_0000_0000_0000_0000 t in
      rw (← lowest-next e h) (record { exact = next_multiple; from = omega arith; below = h }, λ y q. next-least y (multiple-true a y q.exact) q.from (multiple-false a x e)))
      (λ t.
      let h = ltb-false (x + (a - x % a)) 0x1_0000_0000_0000_0000 t in
      rw (← lowest-past e h) (λ y q. omega (arith, q.below, next-least y (multiple-true a y q.exact) q.from (multiple-false a x e))))

module _ (a x : ℕ) where
  round_up-here : multiple a x ≡ true → round_up a x ≡ x
  unfolding round_up
  round_up-here e =
      let z : a - 0 ≡ a = omega arith in
      let s : x + 0 ≡ x = omega arith in
      ap (λ (r : ℕ). x + (a - r) % a) (multiple-true a x e) ∙ ap (λ (r : ℕ). x + r % a) z ∙ ap (λ (r : ℕ). x + r) (mod_self a) ∙ s

  pub lowest-here : multiple a x ≡ true → x < 0x1_0000_0000_0000_0000 → Some x ≡ lowest_multiple a x
  unfolding lowest_multiple
  lowest-here e h = rw (round_up-here e, e, lt-ltb x 0x1_0000_0000_0000_0000 h)

  pub lowest-zero : a ≡ 0 → multiple a x ≡ false → None ≡ lowest_multiple a x
  unfolding lowest_multiple round_up
  lowest-zero z e = rw (same, e)
    where
      same : x + (a - x % a) % a ≡ x
      same = rw z (omega (arith, mod-zero x, mod-zero (0 - x % 0)))

  -- no other number is a multiple of 0
  zero_only : (y : ℕ) → a ≡ 0 → multiple a y ≡ true → y ≡ 0
  zero_only y z e = sym (mod-zero y) ∙ ap (λ (b : ℕ). y % b) (sym z) ∙ multiple-true a y e

  -- THE LAW: it is the lowest such number, or there is none
  pub lowest-is : x < 0x1_0000_0000_0000_0000 → Lowest (MultipleFrom a x) (lowest_multiple a x)
  lowest-is h =
      by-test (multiple a x)
      (λ e. rw (← lowest-here e h) (record { exact = e; from = omega arith; below = h }, λ y q. q.from))
      (λ e. ⊎_elim
      (λ z. rw (← lowest-zero z e) (λ y q. contrary (multiple a x) (let s : x ≡ y = omega (arith, zero_only y z q.exact, q.from) in rw s q.exact) e))
      (λ p. next-lowest a x p e)
      (eq-zero-or-pos a))
