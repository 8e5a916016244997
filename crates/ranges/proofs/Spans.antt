-- The addresses of a start and a length, where the run does not pass U64MAX.
use Rattle.std.specs.Prelude.{ℕ, suc, ◌+◌, ◌-◌, ◌<◌, ◌^◌, ◌≡◌, Bool, false, ◌&&◌, ltb}
use Rattle.std.proofs.Math.Path.{ap}
use Rattle.std.proofs.Common.{◌∙◌}
use native.Mathlib.Omega.{arith}
use Rattle.std.proofs.Math.Dec.{leb}
use Rattle.lists.specs.Tests.{leb_iff}
use Rattle.lists.specs.Below.{count_below, count_below-cong, count_below-run}
use Rattle.ranges.specs.Ranges.{range, holds, passes, last_of, span, passes-false}

module _ (s n : ℕ) where
  pub last_of-fits : passes s n ≡ false → last_of s n ≡ s + (n - 1)
  unfolding last_of
  last_of-fits e = omega (arith, passes-false s n e)

  pub span_last : passes s n ≡ false → span s n ≡ range s (s + (n - 1))
  unfolding span
  span_last e = ap (range s) (last_of-fits e)

  -- from start on and below start + length
  pub holds-span : (a : ℕ) → 0 < n → passes s n ≡ false → holds (span s n) a ≡ (leb s a && ltb a (s + n))
  unfolding holds
  holds-span a h e = rw (span_last e) (ap (λ (b : Bool). leb s a && b) (leb_iff a (s + (n - 1)) (suc a) (s + n) (λ k. omega arith) (λ k. omega arith)))

  -- so it holds length addresses
  pub span-count : 0 < n → passes s n ≡ false → count_below (2 ^ 64) (holds (span s n)) ≡ n
  span-count h e =
      count_below-cong (2 ^ 64) (holds (span s n)) (λ a. leb s a && ltb a (s + n)) (λ a k. holds-span a h e)
      ∙ count_below-run (2 ^ 64) s (s + n) (omega (arith, passes-false s n e))
      ∙ (let z : s + n - s ≡ n = omega arith in z)
