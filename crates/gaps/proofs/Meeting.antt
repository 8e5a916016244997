-- What one step reads: the words of a record, and whether the mapping at a place is met.
use Rattle.std.specs.Prelude.{Option, None, Some}
use Prim.Native.Nat.{ℕ, ◌+◌, ◌-◌, ◌≤◌, ◌<◌}
use mathlib.Core.Path.{◌≡◌, refl, sym, ap, subst, ◌∙◌}
use mathlib.Core.Bool.{Bool, true, false, ◌&&◌}
use mathlib.Core.List.{List, []}
use native.Mathlib.Omega.{arith}
use lib.Dec.{leb, ltb}
use lib.ListN.{length, get_or}
use borrow.Author.Tests.{leb-true, le-leb, lt-leb, lt-ltb, le-ltb, ltb-true}
use Rattle.lists.specs.Tests.{and_left, and_right, and_not_left}
use Rattle.ranges.specs.declared.Range.{Range}
use Rattle.ranges.specs.Ranges.{U64MAX, share, shared_start, shared_last, span, last_of, span-some}
use Rattle.alignment.specs.Multiples.{lowest_multiple}
use Rattle.placement.specs.Jumps.{past_of, Swept}
use Rattle.placement.specs.Sweeping.{past-here, past_end, past-on}
use Rattle.rules_table.specs.declared.Mapping.{Mapping}
use Rattle.rules_table.specs.Records.{zero_mapping, of_space, extent}
use Rattle.layout_mappings.specs.Words.{record_at, records-at}
use Rattle.gaps.specs.Steps.{begins_by, meets, Stepped, StepBy}

-- ---- the words of a record

module _ (ws : List (List ℕ)) (i : ℕ) where
  pub extent-is : (r : Range) (a n : ℕ) → r ≡ span a n → a ≡ (record_at ws i).address → n ≡ get_or (get_or ws i []) 3 0 → r ≡ extent (record_at ws i)
  unfolding extent
  extent-is r a n e f g = e ∙ rw (f, g) (ap (λ (m : Mapping). span (record_at ws i).address m.length) (sym (records-at ws i)))

-- ---- the mapping at a place

module _ (ls : List Mapping) (n k s x : ℕ) (l : length ls ≡ n) where
  pub met-out : n ≤ k → false ≡ meets ls k s x
  unfolding meets
  met-out h = sym (and_not_left (ltb k (length ls)) (begins_by s x (get_or ls k zero_mapping)) (le-ltb k (length ls) (omega (arith, h, l))))

  pub met-in : (m : Mapping) (b : Bool) → k < n → m ≡ get_or ls k zero_mapping → b ≡ begins_by s x m → b ≡ meets ls k s x
  unfolding meets
  met-in m b h e f = f ∙ ap (begins_by s x) e ∙ sym (rw (lt-ltb k (length ls) (omega (arith, h, l))) refl)

  pub met-lt : (b : Bool) → b ≡ meets ls k s x → b ≡ true → k < n
  unfolding meets
  met-lt b e f = omega (arith, l, ltb-true k (length ls) (and_left (ltb k (length ls)) (begins_by s x (get_or ls k zero_mapping)) (sym e ∙ f)))

  -- it begins by x
  pub met-begins : (b : Bool) → b ≡ meets ls k s x → b ≡ true → (q : Range) (m : Mapping) → m ≡ get_or ls k zero_mapping → q ≡ extent m → q.start ≤ x
  unfolding meets begins_by extent span
  met-begins b e f q m g h =
      let v = and_right (ltb k (length ls)) (of_space s (get_or ls k zero_mapping) && leb (get_or ls k zero_mapping).address x) (sym e ∙ f) in
      let w = leb-true (get_or ls k zero_mapping).address x (and_right (of_space s (get_or ls k zero_mapping)) (leb (get_or ls k zero_mapping).address x) v) in
      omega (arith, w, ap (λ (r : Range). r.start) h, ap (λ (y : Mapping). y.address) g)

-- ---- past a mapping that is met

-- a range that begins by the last of the bytes is touched exactly if it ends at their start or above
module _ (a n x : ℕ) (q : Range) where
  ends-before : q.last < x → share (span x n) q ≡ false
  unfolding share shared_start shared_last span
  ends-before h = lt-leb (shared_start (span x n) q) (shared_last (span x n) q) (omega arith)

  pub past-behind : q.last < x → Some x ≡ past_of a n x q
  past-behind h = past-here a n x q (span x n) refl (share (span x n) q) refl (rw (ends-before h))

  module _ (some : q.start ≤ q.last) (begins : q.start ≤ last_of x n) (u : x ≤ U64MAX) (h : x ≤ q.last) where
    reaches : share (span x n) q ≡ true
    unfolding share shared_start shared_last span
    reaches = le-leb (shared_start (span x n) q) (shared_last (span x n) q) (omega (arith, span-some x n u))

    pub past-last : q.last ≡ U64MAX → None ≡ past_of a n x q
    past-last = past_end a n x q (span x n) refl (share (span x n) q) refl (rw reaches)

    pub past-touched : (s : Option ℕ) → s ≡ lowest_multiple a (q.last + 1) → s ≡ past_of a n x q
    past-touched s = past-on a n x q (span x n) refl (share (span x n) q) refl s (rw reaches)

-- the range of a mapping holds its first address
pub extent-some : (q : Range) (m : Mapping) → q ≡ extent m → q.start ≤ U64MAX → q.start ≤ q.last
unfolding extent span
extent-some q m e h =
    let f : q.start ≡ m.address = ap (λ (r : Range). r.start) e in
    let g : q.last ≡ last_of m.address m.length = ap (λ (r : Range). r.last) e in
    omega (arith, f, g, span-some m.address m.length (omega (arith, f, h)))

-- ---- one step

-- the last of the bytes, where there is room for them
pub last-is : (x n m : ℕ) → m ≡ n - 1 → x + (n - 1) ≤ U64MAX → x + m ≡ last_of x n
unfolding last_of
last-is x n m e h = omega (arith, e, h)

module _ (a size s : ℕ) (ls : List Mapping) (rs : List Range) (x k last : ℕ) (b : Bool) (e : last ≡ last_of x size) (f : b ≡ meets ls k s last) where
  by : (c : Bool) → b ≡ c → c ≡ meets ls k s (last_of x size)
  by c t = sym t ∙ f ∙ ap (meets ls k s) e

  pub step-met : b ≡ true → (q : Range) (y : Option ℕ) (m : Mapping) → m ≡ get_or ls k zero_mapping → q ≡ extent m → y ≡ past_of a size x q → Stepped a size s ls rs x k y (k + 1) 1
  step-met t q y m g h i = subst (λ (c : Bool). StepBy c a size ls rs x k y (k + 1) 1) (by true t) (i ∙ ap (past_of a size x) (h ∙ ap extent g), refl, refl)

  pub step-swept : b ≡ false → (y : Option ℕ) (j : ℕ) → Swept a size rs x y j → Stepped a size s ls rs x k y k j
  step-swept t y j g = subst (λ (c : Bool). StepBy c a size ls rs x k y k j) (by false t) (g, refl)
