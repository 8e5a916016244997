-- The places of a list of four with zero beyond its count.
use Prim.Native.Nat.{ℕ, zero, suc}
use mathlib.Core.Path.{◌≡◌, refl}
use mathlib.Core.List.{List, [], ◌∷◌}
use native.Mathlib.Omega.{arith}
use lib.Dec.{ltb}
use lib.ListN.{length, get_or}
use borrow.Author.Tests.{lt-ltb}
use Rattle.lists.specs.Tests.{only_if}
use Rattle.rules_calls.specs.Bind.{only_first}

pub only_four : (n : ℕ) (xs : List ℕ) → length xs ≡ 4
    → only_first n xs ≡ only_if (ltb 0 n) (get_or xs 0 0) ∷ only_if (ltb 1 n) (get_or xs 1 0) ∷ only_if (ltb 2 n) (get_or xs 2 0) ∷ only_if (ltb 3 n) (get_or xs 3 0) ∷ []
unfolding only_first
only_four n [] h = absurd (omega (arith, h))
only_four n (a ∷ []) h = absurd (omega (arith, h))
only_four n (a ∷ b ∷ []) h = absurd (omega (arith, h))
only_four n (a ∷ b ∷ c ∷ []) h = absurd (omega (arith, h))
only_four n (a ∷ b ∷ c ∷ d ∷ e ∷ xs) h = absurd (omega (arith, h))
only_four zero (a ∷ b ∷ c ∷ d ∷ []) h = refl
only_four (suc zero) (a ∷ b ∷ c ∷ d ∷ []) h = refl
only_four (suc (suc zero)) (a ∷ b ∷ c ∷ d ∷ []) h = refl
only_four (suc (suc (suc zero))) (a ∷ b ∷ c ∷ d ∷ []) h = refl
only_four (suc (suc (suc (suc n)))) (a ∷ b ∷ c ∷ d ∷ []) h = let m = suc (suc (suc (suc n))) in rw (lt-ltb 0 m (omega arith), lt-ltb 1 m (omega arith), lt-ltb 2 m (omega arith), lt-ltb 3 m (omega arith))
