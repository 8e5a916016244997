-- Candidates (document 01, MAP): a multiple of the alignment from which the whole length ends by U64MAX, touches no blocked range (reserved or mapped), and lies inside
-- one single range of the allow list, where that list is not empty. The lowest is taken. `place-lowest` says that `place_of`, which computes, gives it.
use Rattle.std.specs.Prelude.{ℕ, ◌+◌, ◌≤◌, min, ◌≡◌, Bool, true, false, not, ◌&&◌, cond, List, [], ◌∷◌, ◌++◌, map, leb, Option, None, Some}
use Rattle.lists.specs.Search.{any}
use Rattle.ranges.specs.declared.Range.{Range}
use Rattle.ranges.specs.Ranges.{share, inside, passes, span}
use Rattle.alignment.specs.Multiples.{multiple, round_up}

-- r lies inside one single range of the allow list, where that list is not empty
unfoldable pub permits : List Range → Range → Bool
permits [] r = true
permits (q ∷ qs) r = any (inside r) (q ∷ qs)

-- x may be the address of n bytes, for the alignment a and from low on
pub record Candidate (a n low : ℕ) (blocked allow : List Range) (x : ℕ) : Type 0 where
  pub exact : multiple a x ≡ true
  pub from : low ≤ x
  pub ends : passes x n ≡ false
  pub clear : any (share (span x n)) blocked ≡ false
  pub permitted : permits allow (span x n) ≡ true

-- the same as a test
unfoldable pub is_candidate : ℕ → ℕ → ℕ → List Range → List Range → ℕ → Bool
is_candidate a n low blocked allow x =
    multiple a x && (leb low x && (not (passes x n) && (not (any (share (span x n)) blocked) && permits allow (span x n))))

-- where the lowest can start, rounded up: the lowest address to try, the start of an allowed range, the address after a blocked one
unfoldable pub starts : ℕ → ℕ → List Range → List Range → List ℕ
starts a low blocked allow = round_up a low ∷ (map (λ (q : Range). round_up a q.start) allow ++ map (λ (r : Range). round_up a (r.last + 1)) blocked)

abbrev pub lower : ℕ → Option ℕ → Option ℕ
lower x None = Some x
lower x (Some y) = Some (min x y)

-- the lowest number of a list that passes a test
unfoldable pub lowest_of : (ℕ → Bool) → List ℕ → Option ℕ
lowest_of p [] = None
lowest_of p (x ∷ xs) = cond (p x) (lower x (lowest_of p xs)) (lowest_of p xs)

-- the lowest start that is a candidate. `place-lowest`: no candidate is lower
unfoldable pub place_of : ℕ → ℕ → ℕ → List Range → List Range → Option ℕ
place_of a n low blocked allow = lowest_of (is_candidate a n low blocked allow) (starts a low blocked allow)
