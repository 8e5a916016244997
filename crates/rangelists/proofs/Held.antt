-- The places of an array of starts and an array of lasts.
use Prim.Native.Nat.{ℕ, zero, suc, ◌<◌}
use mathlib.Core.Path.{◌≡◌, refl, sym, ap}
use mathlib.Core.List.{List, [], ◌∷◌}
use native.Mathlib.Omega.{arith}
use lib.ListN.{length, get_or, take}
use Rattle.ranges.specs.declared.Range.{Range}
use Rattle.ranges.specs.Ranges.{range}
use Rattle.rangelists.specs.Listed.{places, listed, zero_range}

pub length_places : (ss ls : List ℕ) → length ss ≡ length ls → length (places ss ls) ≡ length ss
unfolding places
length_places [] ls e = refl
length_places (s ∷ ss) [] e = sym e
length_places (s ∷ ss) (l ∷ ls) e = ap suc (length_places ss ls (omega arith))

pub place_at : (i : ℕ) (ss ls : List ℕ) → i < length (places ss ls) → get_or (places ss ls) i zero_range ≡ range (get_or ss i 0) (get_or ls i 0)
unfolding places
place_at i [] ls h = absurd (omega arith)
place_at i (s ∷ ss) [] h = absurd (omega arith)
place_at zero (s ∷ ss) (l ∷ ls) h = refl
place_at (suc i) (s ∷ ss) (l ∷ ls) h = place_at i ss ls (omega arith)

-- the first n of both
pub places_first : (n : ℕ) (ss ls : List ℕ) → places (take n ss) (take n ls) ≡ listed n ss ls
unfolding places listed
places_first zero ss ls = refl
places_first (suc n) [] ls = refl
places_first (suc n) (s ∷ ss) [] = refl
places_first (suc n) (s ∷ ss) (l ∷ ls) = ap (λ (rs : List Range). range s l ∷ rs) (places_first n ss ls)
