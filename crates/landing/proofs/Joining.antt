-- Several windows: the lowest place in any of them is the lowest of the lowest places of each.
use Rattle.std.specs.Prelude.{Option, None, Some}
use Prim.Native.Nat.{ℕ, ◌+◌, ◌*◌, ◌≤◌, ◌<◌, min}
use mathlib.Core.Path.{◌≡◌, refl, sym, ap, subst, ◌∙◌}
use mathlib.Core.Bool.{true}
use mathlib.Core.List.{List, [], ◌∷◌}
use mathlib.Core.Logic.{⊎_elim, ◌⊎◌, inl, inr}
use native.Mathlib.Nat.{add-mul, one-mul, mul-le-mul_right}
use native.Mathlib.Omega.{arith}
use lib.Dec.{leb}
use lib.ListN.{length, get_or, drop, drop_of_length-le}
use borrow.Author.Tests.{leb-true, leb-false, le-leb}
use Rattle.lists.specs.Tests.{by-test, or_left, or_right, or_other, and_both}
use Rattle.lists.specs.Search.{any, drop_turn}
use Rattle.lists.specs.Sums.{count_of-length}
use Rattle.ranges.specs.declared.Range.{Range}
use Rattle.ranges.specs.Ranges.{U64MAX, range, inside, last_of, last_of-max, span}
use Rattle.alignment.specs.Multiples.{Lowest, lowest-unique}
use Rattle.rangelists.specs.Listed.{Allowed, listed, allowed, length-listed, zero_range, ranges_in}
use Rattle.placement.specs.Candidates.{permits, Candidate, place_of}
use Rattle.placement.specs.Lowest.{place-lowest}
use Rattle.placement.specs.Jumps.{lower_of, in_windows, windows_of}
use Rattle.rules_table.specs.declared.Object.{Object}
use Rattle.rules_table.specs.declared.Mapping.{Mapping}
use Rattle.rules_table.specs.Records.{of_space}
use Rattle.rules_calls.specs.Landing.{blocked_in}
use Rattle.reserved_ranges.specs.Gathered.{reserved_of-most}
use Rattle.gaps.specs.Blocked.{blocked_length, permits-one, permits-only, lowest-same}

-- ---- the lower of two places

lower-nowhere : (s : Option ℕ) → lower_of s None ≡ s
lower-nowhere None = refl
lower-nowhere (Some x) = refl

lower-assoc : (r s t : Option ℕ) → lower_of (lower_of r s) t ≡ lower_of r (lower_of s t)
lower-assoc None s t = refl
lower-assoc (Some x) None t = refl
lower-assoc (Some x) (Some y) None = refl
lower-assoc (Some x) (Some y) (Some z) = let e : min (min x y) z ≡ min x (min y z) = omega arith in ap Some e

lowest-either : (P Q : ℕ → Type 0) (r s : Option ℕ) → Lowest P r → Lowest Q s → Lowest (λ (x : ℕ). P x ⊎ Q x) (lower_of r s)
lowest-either P Q None None h k = λ y c. ⊎_elim (λ p. h y p) (λ q. k y q) c
lowest-either P Q None (Some y) h k = (inr k.0, λ z c. ⊎_elim (λ p. absurd (h z p)) (λ q. k.1 z q) c)
lowest-either P Q (Some x) None h k = (inl h.0, λ z c. ⊎_elim (λ p. h.1 z p) (λ q. absurd (k z q)) c)
lowest-either P Q (Some x) (Some y) h k =
    by-test (leb x y)
    (λ e. let l = leb-true x y e in let m : min x y ≡ x = omega arith in rw m (inl h.0, λ z c. ⊎_elim (λ p. h.1 z p) (λ q. omega (arith, k.1 z q)) c))
    (λ e. let l = leb-false x y e in let m : min x y ≡ y = omega arith in rw m (inr k.0, λ z c. ⊎_elim (λ p. omega (arith, h.1 z p)) (λ q. k.1 z q) c))

-- ---- the windows one after another are the allow list

module _ (w u : Range) (us : List Range) (r : Range) where
  permits-head : permits (w ∷ []) r ≡ true → permits (w ∷ u ∷ us) r ≡ true
  unfolding permits any
  permits-head e = or_left (inside r w) (any (inside r) (u ∷ us)) (permits-only w r e)

  permits-tail : permits (u ∷ us) r ≡ true → permits (w ∷ u ∷ us) r ≡ true
  unfolding permits any
  permits-tail e = or_right (inside r w) (any (inside r) (u ∷ us)) e

  permits-either : permits (w ∷ u ∷ us) r ≡ true → (permits (w ∷ []) r ≡ true) ⊎ (permits (u ∷ us) r ≡ true)
  unfolding permits any
  permits-either e = by-test (inside r w) (λ t. inl (permits-one w r t)) (λ t. inr (or_other (inside r w) (any (inside r) (u ∷ us)) e t))

module _ (a n low : ℕ) (rs : List Range) where
  -- the same place under another allow list
  under : (ps qs : List Range) (x : ℕ) → Candidate a n low rs ps x → permits qs (span x n) ≡ true → Candidate a n low rs qs x
  under ps qs x c e = record { exact = c.exact; from = c.from; ends = c.ends; clear = c.clear; permitted = e }

  lowest-joined : (w u : Range) (us : List Range)
      → lower_of (place_of a n low rs (w ∷ [])) (place_of a n low rs (u ∷ us)) ≡ place_of a n low rs (w ∷ u ∷ us)
  lowest-joined w u us =
      lowest-unique (Candidate a n low rs (w ∷ u ∷ us)) _ _
      (lowest-same
      (λ (x : ℕ). Candidate a n low rs (w ∷ []) x ⊎ Candidate a n low rs (u ∷ us) x)
      (Candidate a n low rs (w ∷ u ∷ us))
      (λ x p. ⊎_elim (λ c. under (w ∷ []) (w ∷ u ∷ us) x c (permits-head w u us (span x n) c.permitted)) (λ c. under (u ∷ us) (w ∷ u ∷ us) x c (permits-tail w u us (span x n) c.permitted)) p)
      (λ x c. ⊎_elim (λ e. inl (under (w ∷ u ∷ us) (w ∷ []) x c e)) (λ e. inr (under (w ∷ u ∷ us) (u ∷ us) x c e)) (permits-either w u us (span x n) c.permitted))
      (lower_of (place_of a n low rs (w ∷ [])) (place_of a n low rs (u ∷ us)))
      (lowest-either (Candidate a n low rs (w ∷ [])) (Candidate a n low rs (u ∷ us)) (place_of a n low rs (w ∷ [])) (place_of a n low rs (u ∷ us)) (place-lowest a n low rs (w ∷ [])) (place-lowest a n low rs (u ∷ us))))
      (place-lowest a n low rs (w ∷ u ∷ us))

  windows-listed : (w : Range) (ws : List Range) → in_windows a n low rs (w ∷ ws) ≡ place_of a n low rs (w ∷ ws)
  unfolding in_windows
  windows-listed w [] = lower-nowhere (place_of a n low rs (w ∷ []))
  windows-listed w (u ∷ us) = ap (lower_of (place_of a n low rs (w ∷ []))) (windows-listed u us) ∙ lowest-joined w u us

  -- without an allow list the window holds every address
  permits-all : (x : ℕ) → permits (range 0 U64MAX ∷ []) (span x n) ≡ true
  unfolding span inside
  permits-all x =
      permits-one (range 0 U64MAX) (span x n)
      (and_both (leb 0 x) (leb (last_of x n) U64MAX) (le-leb 0 x (omega arith)) (le-leb (last_of x n) U64MAX (last_of-max x n)))

  permits-free : (r : Range) → permits [] r ≡ true
  unfolding permits
  permits-free r = refl

  windows-open : (place_of a n low rs (range 0 U64MAX ∷ [])) ≡ place_of a n low rs []
  windows-open =
      lowest-unique (Candidate a n low rs []) _ _
      (lowest-same (Candidate a n low rs (range 0 U64MAX ∷ [])) (Candidate a n low rs [])
      (λ x c. under (range 0 U64MAX ∷ []) [] x c (permits-free (span x n)))
      (λ x c. under [] (range 0 U64MAX ∷ []) x c (permits-all x))
      (place_of a n low rs (range 0 U64MAX ∷ []))
      (place-lowest a n low rs (range 0 U64MAX ∷ [])))
      (place-lowest a n low rs [])

  windows-nil : in_windows a n low rs [] ≡ None
  unfolding in_windows
  windows-nil = refl

  windows-cons : (w : Range) (ws : List Range) → in_windows a n low rs (w ∷ ws) ≡ lower_of (place_of a n low rs (w ∷ [])) (in_windows a n low rs ws)
  unfolding in_windows
  windows-cons w ws = refl

-- ---- the loop over the windows, at window i

pub blocked_most : (os : List Object) (ms : List Mapping) (s : ℕ) → length (blocked_in os ms s) ≤ 4 * length os + length ms
blocked_most os ms s = omega (arith, blocked_length os ms s, reserved_of-most os s, count_of-length (of_space s) ms)

-- given G, the best so far and what is left give the answer; and in each window there were at most n jumps
pub record Joined (G : Type 0) (a size low : ℕ) (rs ws : List Range) (n m : ℕ) (best : Option ℕ) (jumps i : ℕ) : Type 0 where
  pub same : G → lower_of best (in_windows a size low rs (drop i ws)) ≡ in_windows a size low rs ws
  pub upto : i ≤ m
  pub few : jumps ≤ i * n

pub join_start : (G : Type 0) (a size low : ℕ) (rs ws : List Range) (n m : ℕ) → Joined G a size low rs ws n m None 0 0
join_start G a size low rs ws n m = record { same = λ g. refl; upto = omega arith; few = omega arith }

module _
    (G : Type 0)
    (a size low : ℕ)
    (rs ws : List Range)
    (n : ℕ)
    (best : Option ℕ)
    (jumps i : ℕ)
    (v : Joined G a size low rs ws n (length ws) best jumps i) where
  pub join_small : n ≤ 256 → length ws ≤ 8 → jumps ≤ 2048
  join_small h k = omega (arith, v.few, mul-le-mul_right {m = i} {n = 8} n (omega (arith, v.upto)))

  pub join_on : (w : Range) (s t : Option ℕ) (j : ℕ) → i < length ws → w ≡ get_or ws i zero_range → (G → s ≡ place_of a size low rs (w ∷ [])) × (j ≤ n)
      → t ≡ lower_of best s → Joined G a size low rs ws n (length ws) t (jumps + j) (i + 1)
  join_on w s t j h ew e f = record {
    same = λ g.
        rw (f, e.0 g) (lower-assoc best (place_of a size low rs (w ∷ [])) (in_windows a size low rs (drop (i + 1) ws)) ∙ ap (lower_of best) (sym left) ∙ v.same g);
    upto = omega arith;
    few = omega (arith, v.few, e.1, add-mul i 1 n, one-mul n);
  }
    where
      left : in_windows a size low rs (drop i ws) ≡ lower_of (place_of a size low rs (w ∷ [])) (in_windows a size low rs (drop (i + 1) ws))
      left =
          ap (in_windows a size low rs) (drop_turn ws zero_range i h)
          ∙ windows-cons a size low rs (get_or ws i zero_range) (drop (i + 1) ws)
          ∙ ap (λ (q : Range). lower_of (place_of a size low rs (q ∷ [])) (in_windows a size low rs (drop (i + 1) ws))) (sym ew)

  pub join_end : length ws ≤ i → (G → best ≡ in_windows a size low rs ws) × (jumps ≤ length ws * n)
  join_end h = (λ g. sym (rw (drop_of_length-le ws h, windows-nil a size low rs) (lower-nowhere best)) ∙ v.same g, let e : i ≡ length ws = omega (arith, v.upto) in rw (← e) v.few)

-- ---- the whole

none-listed : (qs : List Range) → length qs ≡ 0 → qs ≡ []
none-listed [] e = refl
none-listed (q ∷ qs) e = absurd (omega arith)

-- an answer as the contract of `place` has it
abbrev pub Placed : Type 0 → ℕ → ℕ → ℕ → List Range → List Range → Option ℕ → ℕ → Type 0
Placed G a size low rs qs s jumps = (G → s ≡ place_of a size low rs qs) × (jumps ≤ windows_of qs * length rs)

module _ (G : Type 0) (a size low : ℕ) (rs : List Range) (s : Option ℕ) (jumps : ℕ) where
  open_placed : (qs : List Range) → length qs ≡ 0 → (G → s ≡ place_of a size low rs (range 0 U64MAX ∷ [])) × (jumps ≤ length rs)
      → Placed G a size low rs qs s jumps
  unfolding windows_of
  open_placed qs z e = rw (none-listed qs z) (λ g. e.0 g ∙ windows-open a size low rs, omega (arith, e.1, one-mul (length rs)))

  listed-placed : (qs : List Range) → (length qs ≡ 0 → ⊥) → (G → s ≡ in_windows a size low rs qs) × (jumps ≤ length qs * length rs) → Placed G a size low rs qs s jumps
  unfolding windows_of
  listed-placed [] z e = absurd (z refl)
  listed-placed (q ∷ qs) z e = (λ g. e.0 g ∙ windows-listed a size low rs q qs, e.1)

-- without an allow list in one window, else in each of its ranges
module _ (G : Type 0) (a size low : ℕ) (rs : List Range) (q : Allowed) (s : Option ℕ) (jumps : ℕ) where
  pub place-open : q.count ≡ 0 → (G → s ≡ place_of a size low rs (range 0 U64MAX ∷ [])) × (jumps ≤ length rs) → Placed G a size low rs (allowed q) s jumps
  unfolding ranges_in listed
  place-open z e = open_placed G a size low rs s jumps (allowed q) (rw z) e

  -- the windows in use are the list
  pub each-listed : (ws : List Range) → ws ≡ allowed q → (G → s ≡ in_windows a size low rs ws) × (jumps ≤ length ws * length rs)
      → (G → s ≡ in_windows a size low rs (allowed q)) × (jumps ≤ length (allowed q) * length rs)
  each-listed ws e h = let P : List Range → Type 0 = λ qs. (G → s ≡ in_windows a size low rs qs) × (jumps ≤ length qs * length rs) in subst P e h

  pub place-listed : length q.starts ≡ 8 → length q.lasts ≡ 8 → (q.count ≡ 0 → ⊥)
      → (G → s ≡ in_windows a size low rs (allowed q)) × (jumps ≤ length (allowed q) * length rs) → Placed G a size low rs (allowed q) s jumps
  unfolding ranges_in
  place-listed qs ql z e =
      listed-placed G a size low rs s jumps (allowed q)
      (λ f. z (omega (arith, f, length-listed (min q.count 8) q.starts q.lasts (omega arith) (omega arith)))) e
