-- The longest run of addresses (L1): it starts at a multiple of the alignment, touches no blocked range (reserved or mapped), and lies inside one allowed range where a list
-- exists; the lowest of equals, or that there is none. A run of n addresses from x on is what a candidate for n bytes is. `longest-is` says that `longestOf`, which computes, gives it.
use Rattle.std.specs.Prelude.{ℕ, ◌+◌, ◌-◌, ◌≤◌, ◌<◌, min, Bool, ◌&&◌, ◌||◌, cond, List, [], ◌∷◌, leb, ltb, eqb, Option, None, Some}
use Rattle.ranges.specs.declared.Range.{Range}
use Rattle.ranges.specs.Ranges.{U64MAX, range, share}
use Rattle.alignment.specs.Multiples.{lowest_multiple}
use Rattle.placement.specs.Candidates.{Candidate}
use Rattle.runs.specs.declared.Run.{Run}

-- a run of k + 1 addresses from x on
abbrev pub run : ℕ → ℕ → Run
run x k = record { start = x; more = k }

-- ---- what it is

-- n addresses from x on, at least one: x is a multiple of a at or above low, they end by U64MAX, touch no blocked range, and lie inside one allowed range, where there is a list
pub record Free (a low : ℕ) (blocked allow : List Range) (x n : ℕ) : Type 0 where
  pub some : 0 < n
  pub free : Candidate a n low blocked allow x

-- a run of k + 1 addresses from x on: none is longer, and none as long starts lower
pub record Top (a low : ℕ) (blocked allow : List Range) (x k : ℕ) : Type 0 where
  pub run : Free a low blocked allow x (k + 1)
  pub most : (y n : ℕ) → Free a low blocked allow y n → n ≤ k + 1
  pub least : (y : ℕ) → Free a low blocked allow y (k + 1) → x ≤ y

-- the longest run, or that there is none
abbrev pub Longest : ℕ → ℕ → List Range → List Range → Option Run → Type 0
Longest a low blocked allow None = (y n : ℕ) → Free a low blocked allow y n → ⊥
Longest a low blocked allow (Some x) = Top a low blocked allow x.start x.more

-- ---- how it is computed

-- the first is longer, or as long and starts no higher
unfoldable pub ahead : ℕ → ℕ → ℕ → ℕ → Bool
ahead x k y l = ltb l k || (eqb l k && leb x y)

-- the better of two
abbrev pub better : Option Run → Option Run → Option Run
better None s = s
better (Some x) None = Some x
better (Some x) (Some y) = cond (ahead x.start x.more y.start y.more) (Some x) (Some y)

-- what ends at e at the latest ends before q too, where q lies above x
unfoldable pub cut_at : ℕ → ℕ → Range → ℕ
cut_at e x q = cond (ltb x q.start && leb q.start q.last) (min e (q.start - 1)) e

-- the last address up to e such that all from x on are in none of the ranges; nowhere, where x is in one
unfoldable pub free_to : ℕ → ℕ → List Range → Option ℕ
free_to e x [] = Some e
free_to e x (q ∷ qs) = cond (share (range x x) q) None (free_to (cut_at e x q) x qs)

abbrev pub up_to : ℕ → Range → Option ℕ → Option Run
up_to x w None = None
up_to x w (Some z) = Some (run x (min z w.last - x))

-- the longest run in window w that starts at x
abbrev pub run_at : ℕ → List Range → Range → Option ℕ → Option Run
run_at low blocked w None = None
run_at low blocked w (Some x) = cond (leb low x && (leb w.start x && leb x w.last)) (up_to x w (free_to U64MAX x blocked)) None

-- that starts at the lowest multiple from u on
unfoldable pub run_from : ℕ → ℕ → List Range → Range → ℕ → Option Run
run_from a low blocked w u = run_at low blocked w (lowest_multiple a u)

-- one after another
unfoldable pub over : {A : Type 0} → (Option Run → A → Option Run) → Option Run → List A → Option Run
over g r [] = r
over g r (x ∷ xs) = over g (g r x) xs

-- past a blocked range
unfoldable pub past_range : ℕ → ℕ → List Range → Range → Option Run → Range → Option Run
past_range a low blocked w r q = better r (run_from a low blocked w (q.last + 1))

-- the best in one window: a run that no other holds starts at the lowest multiple from low on, from the window's start on, or past a blocked range
unfoldable pub in_window : ℕ → ℕ → List Range → Option Run → Range → Option Run
in_window a low blocked r w = over (past_range a low blocked w) (better (better r (run_from a low blocked w low)) (run_from a low blocked w w.start)) blocked

-- without an allow list the window is every address
unfoldable pub windows : List Range → List Range
windows [] = range 0 U64MAX ∷ []
windows (q ∷ qs) = q ∷ qs

unfoldable pub longest_of : ℕ → ℕ → List Range → List Range → Option Run
longest_of a low blocked allow = over (in_window a low blocked) None (windows allow)
