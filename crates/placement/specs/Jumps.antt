-- The search as the code makes it: it stands at a place, jumps past every range that it touches there, and so never passes a place that is free.
-- Each jump leaves the range that caused it behind for good, which bounds their number.
use Rattle.std.specs.Prelude.{ℕ, ◌+◌, ◌≤◌, ◌<◌, min, ◌≡◌, Bool, true, false, not, ◌&&◌, cond, List, [], ◌∷◌, leb, eqb, length, Option, None, Some}
use Rattle.lists.specs.Search.{any}
use Rattle.lists.specs.Sums.{count_of}
use Rattle.ranges.specs.declared.Range.{Range}
use Rattle.ranges.specs.Ranges.{share, inside, passes, span}
use Rattle.alignment.specs.Multiples.{multiple, lowest_multiple}
use Rattle.placement.specs.Candidates.{place_of}

-- the next place from x on at which q is not touched: x itself, or the lowest multiple past q
unfoldable pub past_of : ℕ → ℕ → ℕ → Range → Option ℕ
past_of a n x q = cond (share (span x n) q) (lowest_multiple a (q.last + 1)) (Some x)

-- the jumps from x to the next place y
unfoldable pub jumps_to : ℕ → ℕ → ℕ
jumps_to x y = cond (eqb x y) 0 1

-- how many ranges end at x or above it: those that can still cause a jump
unfoldable pub ending : ℕ → List Range → ℕ
ending x rs = count_of (λ (r : Range). leb x r.last) rs

-- n bytes from z on end by U64MAX and touch no range, and z is a multiple of a
pub record Free (a n : ℕ) (rs : List Range) (z : ℕ) : Type 0 where
  pub exact : multiple a z ≡ true
  pub ends : passes z n ≡ false
  pub clear : any (share (span z n)) rs ≡ false

-- from x to y by so many jumps: no free place lies between, and each jump left a range behind
pub record Onward (a n : ℕ) (rs : List Range) (x y jumps : ℕ) : Type 0 where
  pub from : x ≤ y
  pub below : y < 0x1_0000_0000_0000_0000
  pub exact : multiple a x ≡ true → multiple a y ≡ true
  pub least : (z : ℕ) → Free a n rs z → x ≤ z → y ≤ z
  pub fewer : jumps + ending y rs ≤ ending x rs

-- after so many jumps from x on: there is no free place
pub record Never (a n : ℕ) (rs : List Range) (x jumps : ℕ) : Type 0 where
  pub none : (z : ℕ) → Free a n rs z → x ≤ z → ⊥
  pub fewer : jumps ≤ ending x rs

-- one pass over all ranges from x on. Where it did not move, x touches none of them
abbrev pub Swept : ℕ → ℕ → List Range → ℕ → Option ℕ → ℕ → Type 0
Swept a n rs x None jumps = Never a n rs x jumps
Swept a n rs x (Some y) jumps = Onward a n rs x y jumps × (y ≡ x → any (share (span x n)) rs ≡ false)

-- n bytes from x on end by U64MAX and inside the window
unfoldable pub room_at : ℕ → ℕ → Range → Bool
room_at n x window = not (passes x n) && inside (span x n) window

-- the lower of two places
abbrev pub lower_of : Option ℕ → Option ℕ → Option ℕ
lower_of None s = s
lower_of (Some x) None = Some x
lower_of (Some x) (Some y) = Some (min x y)

-- the lowest place in one of the windows
unfoldable pub in_windows : ℕ → ℕ → ℕ → List Range → List Range → Option ℕ
in_windows a n low rs [] = None
in_windows a n low rs (w ∷ ws) = lower_of (place_of a n low rs (w ∷ [])) (in_windows a n low rs ws)

-- in how many windows is searched: without an allow list in one. In each there are at most as many jumps as blocked ranges
unfoldable pub windows_of : List Range → ℕ
windows_of [] = 1
windows_of (q ∷ qs) = length (q ∷ qs)
