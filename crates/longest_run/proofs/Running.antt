-- The run from a start, the starts past the ranges of one slot, and the windows.
use Rattle.std.specs.Prelude.{Option, None, Some}
use Prim.Native.Nat.{ℕ, ◌+◌, ◌-◌, ◌≤◌, ◌<◌, zero-le, min}
use mathlib.Core.Path.{◌≡◌, refl, sym, ap, ◌∙◌}
use mathlib.Core.Bool.{false}
use mathlib.Core.List.{List, [], ◌∷◌}
use native.Mathlib.Omega.{arith}
use lib.Dec.{leb, ltb}
use lib.ListN.{length, get_or, drop, drop_of_length-le}
use borrow.Author.Tests.{le-leb, lt-leb, le-ltb}
use Rattle.lists.specs.Tests.{and_not_right}
use Rattle.lists.specs.Search.{drop_turn}
use Rattle.ranges.specs.declared.Range.{Range}
use Rattle.ranges.specs.Ranges.{U64MAX, range}
use Rattle.alignment.specs.Multiples.{multiple, round_up, lowest_multiple}
use Rattle.rangelists.specs.Listed.{Allowed, allowed, length-listed, zero_range, ranges_in}
use Rattle.runs.specs.declared.Run.{Run}
use Rattle.runs.specs.Runs.{run, better, free_to, run_from, over, past_range, in_window, windows, longest_of}
use Rattle.runs.specs.Longest.{free-sound, multiple-at, over-append}
use Rattle.rules_table.specs.declared.Object.{Object}
use Rattle.rules_table.specs.declared.Mapping.{Mapping}
use Rattle.rules_table.specs.Records.{object_at}
use Rattle.rules_table.specs.Spaces.{alignment, reserved_of}
use Rattle.rules_calls.specs.Landing.{blocked_in, lowest_tried}
use Rattle.rules_reasons.specs.Reasons.{longest_in}
use Rattle.longest_run.specs.Parts.{extents_of, blocked_parts}

-- ---- the run from a start

module _ (a u : ℕ) (blocked : List Range) (w : Range) (s : Option ℕ) (e : s ≡ lowest_multiple a u) where
  pub from-none : s ≡ None → None ≡ run_from a lowest_tried blocked w u
  unfolding run_from
  from-none f = rw (← e, f)

  module _ (x : ℕ) (f : s ≡ Some x) where
    pub from-before : x < w.start → None ≡ run_from a lowest_tried blocked w u
    unfolding run_from
    from-before h = rw (← e, f, lt-leb w.start x h, and_not_right (leb lowest_tried x) false refl)

    pub from_past : w.last < x → None ≡ run_from a lowest_tried blocked w u
    unfolding run_from
    from_past h = rw (← e, f, lt-leb x w.last h, and_not_right (leb w.start x) false refl, and_not_right (leb lowest_tried x) false refl)

    module _ (i : w.start ≤ x) (j : x ≤ w.last) (t : Option ℕ) (g : t ≡ free_to U64MAX x blocked) where
      pub from-taken : t ≡ None → None ≡ run_from a lowest_tried blocked w u
      unfolding run_from
      from-taken k = rw (← e, f, le-leb lowest_tried x zero-le, le-leb w.start x i, le-leb x w.last j, ← g, k)

      pub from_last : (z : ℕ) → t ≡ Some z → x ≤ z
      from_last z k = (free-sound x U64MAX blocked z (multiple-at a u x (sym e ∙ f)).1 (sym g ∙ k)).from

      pub from-run : (z m : ℕ) → t ≡ Some z → m ≡ min z w.last - x → Some (run x m) ≡ run_from a lowest_tried blocked w u
      unfolding run_from
      from-run z m k q = rw (← e, f, le-leb lowest_tried x zero-le, le-leb w.start x i, le-leb x w.last j, ← g, k, q)

-- past the last address nothing starts
pub from_end : (a low : ℕ) (blocked : List Range) (w : Range) (last : ℕ) → last ≡ U64MAX → None ≡ run_from a low blocked w (last + 1)
unfolding run_from lowest_multiple round_up
from_end a low blocked w last e =
    rw (and_not_right (multiple a (round_up a (last + 1))) (ltb (round_up a (last + 1)) 0x1_0000_0000_0000_0000) (le-ltb (round_up a (last + 1)) 0x1_0000_0000_0000_0000 (omega arith)))

-- ---- the ranges of a list, one after another

abbrev pub Trying : (Option Run → Range → Option Run) → List Range → Option Run → Option Run → ℕ → Type 0
Trying g qs before r i = over g r (drop i qs) ≡ over g before qs

module _ (g : Option Run → Range → Option Run) (qs : List Range) (before r : Option Run) (i : ℕ) (inv : Trying g qs before r i) where
  pub try_on : i < length qs → (q : Option Run) → q ≡ g r (get_or qs i zero_range) → Trying g qs before q (i + 1)
  unfolding over
  try_on h q e = ap (λ (t : Option Run). over g t (drop (i + 1) qs)) e ∙ sym (ap (over g r) (drop_turn qs zero_range i h)) ∙ inv

  pub try_end : length qs ≤ i → r ≡ over g before qs
  unfolding over
  try_end h = sym (ap (over g r) (drop_of_length-le qs h)) ∙ inv

-- past a blocked range, of which the last address is enough
pub past_is : (a low : ℕ) (blocked : List Range) (w : Range) (r : Option Run) (x y : Range) (p q : Option Run) → p ≡ run_from a low blocked w (x.last + 1) → q ≡ better r p → x ≡ y
    → q ≡ past_range a low blocked w r y
unfolding past_range
past_is a low blocked w r x y p q e f z = f ∙ ap (better r) e ∙ ap (λ (t : Range). better r (run_from a low blocked w (t.last + 1))) z

-- ---- the windows

module _ (os : List Object) (ms : List Mapping) (s a : ℕ) (w : Range) where
  pub window_is : (before lowest first both best past r : Option Run)
      → lowest ≡ run_from a lowest_tried (blocked_in os ms s) w lowest_tried
      → first ≡ run_from a lowest_tried (blocked_in os ms s) w w.start
      → both ≡ better before lowest
      → best ≡ better both first
      → past ≡ over (past_range a lowest_tried (blocked_in os ms s) w) best (reserved_of os s)
      → r ≡ over (past_range a lowest_tried (blocked_in os ms s) w) past (extents_of ms s)
      → r ≡ in_window a lowest_tried (blocked_in os ms s) before w
  unfolding in_window
  window_is before lowest first both best past r e1 e2 e3 e4 e5 e6 =
      e6
      ∙ ap (λ (t : Option Run). over (past_range a lowest_tried (blocked_in os ms s) w) t (extents_of ms s)) e5
      ∙ sym (over-append (past_range a lowest_tried (blocked_in os ms s) w) best (reserved_of os s) (extents_of ms s))
      ∙ ap (over (past_range a lowest_tried (blocked_in os ms s) w) best) (sym (blocked_parts os ms s))
      ∙ ap (λ (t : Option Run). over (past_range a lowest_tried (blocked_in os ms s) w) t (blocked_in os ms s)) begun
    where
      begun : best ≡ better (better before (run_from a lowest_tried (blocked_in os ms s) w lowest_tried)) (run_from a lowest_tried (blocked_in os ms s) w w.start)
      begun = e4 ∙ ap (λ (t : Option Run). better t first) (e3 ∙ ap (better before) e1) ∙ ap (better (better before (run_from a lowest_tried (blocked_in os ms s) w lowest_tried))) e2

none-listed : (qs : List Range) → length qs ≡ 0 → windows qs ≡ (range 0 U64MAX ∷ [])
unfolding windows
none-listed [] h = refl
none-listed (q ∷ qs) h = absurd (omega arith)

some-listed : (qs : List Range) → 0 < length qs → windows qs ≡ qs
unfolding windows
some-listed [] h = absurd (omega arith)
some-listed (q ∷ qs) h = refl

-- the allow list of the space, or none
module _ (os : List Object) (ms : List Mapping) (s a : ℕ) (q : Allowed) (ss : length q.starts ≡ 8) (ls : length q.lasts ≡ 8) where
  many : length (allowed q) ≡ min q.count 8
  unfolding ranges_in
  many = length-listed (min q.count 8) q.starts q.lasts (omega arith) (omega arith)

  module _ (r : Option Run) (ea : a ≡ alignment os s) (eq : q ≡ (object_at os s).allow) where
    told : r ≡ longest_of a lowest_tried (blocked_in os ms s) (allowed q) → r ≡ longest_in os ms s
    unfolding longest_in
    told e = e ∙ ap (λ (b : ℕ). longest_of b lowest_tried (blocked_in os ms s) (allowed q)) ea ∙ ap (λ (l : Allowed). longest_of (alignment os s) lowest_tried (blocked_in os ms s) (allowed l)) eq

    pub longest_open : q.count ≡ 0 → (none : Option Run) (w : Range) → none ≡ None → w ≡ range 0 U64MAX → r ≡ in_window a lowest_tried (blocked_in os ms s) none w → r ≡ longest_in os ms s
    unfolding longest_of over
    longest_open z none w e1 e2 e3 = told (rw (none-listed (allowed q) (omega (arith, many))) (e3 ∙ rw (e1, e2)))

    pub longest_listed : (q.count ≡ 0 → ⊥) → r ≡ over (in_window a lowest_tried (blocked_in os ms s)) None (allowed q) → r ≡ longest_in os ms s
    unfolding longest_of
    longest_listed z e = told (rw (some-listed (allowed q) (omega (arith, many, z))) e)
