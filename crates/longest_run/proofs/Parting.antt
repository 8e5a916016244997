-- The loops over slots and over records: what is left answers for the whole.
use Rattle.std.specs.Prelude.{Option, None, Some}
use Prim.Native.Nat.{ℕ, ◌+◌, ◌≤◌, ◌<◌}
use mathlib.Core.Path.{◌≡◌, refl, sym, ap, ◌∙◌}
use mathlib.Core.Bool.{Bool, true, false}
use mathlib.Core.List.{List, [], ◌∷◌, ◌++◌}
use lib.ListN.{length, get_or, drop, drop_of_length-le}
use borrow.Author.Tests.{eq-eqb, ne_eqb}
use Rattle.lists.specs.Search.{drop_turn}
use Rattle.ranges.specs.declared.Range.{Range}
use Rattle.ranges.specs.Ranges.{U64MAX, range, share, span}
use Rattle.runs.specs.declared.Run.{Run}
use Rattle.runs.specs.Runs.{better, cut_at, free_to, run_from, over, past_range}
use Rattle.runs.specs.Longest.{onward, free-append, over-append}
use Rattle.rules_table.specs.declared.Object.{Object}
use Rattle.rules_table.specs.declared.Mapping.{Mapping}
use Rattle.rules_table.specs.Records.{of_space, extent}
use Rattle.rules_table.specs.Spaces.{reserved_for, reserved_of}
use Rattle.rules_calls.specs.Landing.{blocked_in}
use Rattle.longest_run.specs.Parts.{of_each, extent_for, extents_of, reserved-each, blocked_parts}

-- ---- the ranges of each element: those of one, and what is left

module _ {A : Type 0} (f : A → List Range) where
  each_nil : of_each f [] ≡ []
  unfolding of_each
  each_nil = refl

  each-cons : (x : A) (xs : List A) → of_each f (x ∷ xs) ≡ f x ++ of_each f xs
  unfolding of_each
  each-cons x xs = refl

  each_left : (xs : List A) (d : A) (i : ℕ) → i < length xs → of_each f (drop i xs) ≡ f (get_or xs i d) ++ of_each f (drop (i + 1) xs)
  each_left xs d i h = ap (of_each f) (drop_turn xs d i h) ∙ each-cons (get_or xs i d) (drop (i + 1) xs)

  each-done : (xs : List A) (i : ℕ) → length xs ≤ i → of_each f (drop i xs) ≡ []
  each-done xs i h = ap (of_each f) (drop_of_length-le xs h) ∙ each_nil

-- ---- where the free addresses end

abbrev pub Freeing : {A : Type 0} → (A → List Range) → List A → ℕ → ℕ → ℕ → ℕ → Type 0
Freeing f xs upto x e i = free_to e x (of_each f (drop i xs)) ≡ free_to upto x (of_each f xs)

module _ {A : Type 0} (f : A → List Range) (xs : List A) (d : A) (upto x e i : ℕ) (inv : Freeing f xs upto x e i) where
  module _ (h : i < length xs) (t : Option ℕ) (g : t ≡ free_to e x (f (get_or xs i d))) where
    turn : onward x (of_each f (drop (i + 1) xs)) t ≡ free_to upto x (of_each f xs)
    turn =
        ap (onward x (of_each f (drop (i + 1) xs))) g
        ∙ sym (ap (free_to e x) (each_left f xs d i h) ∙ free-append e x (f (get_or xs i d)) (of_each f (drop (i + 1) xs)))
        ∙ inv

    pub free-nowhere : t ≡ None → None ≡ free_to upto x (of_each f xs)
    free-nowhere k = sym (ap (onward x (of_each f (drop (i + 1) xs))) k) ∙ turn

    pub free_on : (z : ℕ) → t ≡ Some z → Freeing f xs upto x z (i + 1)
    free_on z k = sym (ap (onward x (of_each f (drop (i + 1) xs))) k) ∙ turn

  pub free-end : length xs ≤ i → Some e ≡ free_to upto x (of_each f xs)
  unfolding free_to
  free-end h = sym (ap (free_to e x) (each-done f xs i h)) ∙ inv

-- ---- the starts past what is blocked

abbrev pub Passing : {A : Type 0} → (Option Run → Range → Option Run) → (A → List Range) → List A → Option Run → Option Run → ℕ → Type 0
Passing g f xs before r i = over g r (of_each f (drop i xs)) ≡ over g before (of_each f xs)

module _ {A : Type 0} (g : Option Run → Range → Option Run) (f : A → List Range) (xs : List A) (d : A) (before r : Option Run) (i : ℕ) (inv : Passing g f xs before r i) where
  pub pass_on : i < length xs → (q : Option Run) → q ≡ over g r (f (get_or xs i d)) → Passing g f xs before q (i + 1)
  pass_on h q e =
      ap (λ (t : Option Run). over g t (of_each f (drop (i + 1) xs))) e
      ∙ sym (ap (over g r) (each_left f xs d i h) ∙ over-append g r (f (get_or xs i d)) (of_each f (drop (i + 1) xs)))
      ∙ inv

  pub pass_end : length xs ≤ i → r ≡ over g before (of_each f xs)
  unfolding over
  pass_end h = sym (ap (over g r) (each-done f xs i h)) ∙ inv

-- ---- one record

-- m is what was read of the record k
module _ (s : ℕ) (k m : Mapping) (read : m ≡ k) where
  other : (m.space ≡ s → ⊥) → extent_for s k ≡ []
  unfolding extent_for of_space
  other h = rw (← read, ne_eqb m.space s h)

  here : m.space ≡ s → (q : Range) → q ≡ span m.address m.length → extent_for s k ≡ (q ∷ [])
  unfolding extent_for of_space extent
  here h q g = rw (← read, eq-eqb m.space s h, g)

  module _ (e x : ℕ) where
    pub record_other : (m.space ≡ s → ⊥) → Some e ≡ free_to e x (extent_for s k)
    unfolding free_to
    record_other h = sym (ap (free_to e x) (other h))

    -- from u to v is the address x alone
    module _ (h : m.space ≡ s) (q : Range) (g : q ≡ span m.address m.length) (b : Bool) (u v : ℕ) (f : b ≡ share (range u v) q) (hu : u ≡ x) (hv : v ≡ x) where
      tested : (t : Bool) → b ≡ t → share (range x x) q ≡ t
      tested t c = sym (ap (λ (y : ℕ). share (range y v) q) hu ∙ ap (λ (y : ℕ). share (range x y) q) hv) ∙ sym f ∙ c

      pub record_taken : b ≡ true → None ≡ free_to e x (extent_for s k)
      unfolding free_to
      record_taken t = sym (ap (free_to e x) (here h q g) ∙ rw (tested true t))

      pub record_cut : b ≡ false → (z : ℕ) → z ≡ cut_at e x q → Some z ≡ free_to e x (extent_for s k)
      unfolding free_to
      record_cut t z c = ap Some c ∙ sym (ap (free_to e x) (here h q g) ∙ rw (tested false t))

  module _ (a low : ℕ) (blocked : List Range) (w : Range) (before : Option Run) where
    pub past-other : (m.space ≡ s → ⊥) → before ≡ over (past_range a low blocked w) before (extent_for s k)
    unfolding over
    past-other h = sym (ap (over (past_range a low blocked w) before) (other h))

    pub past-here : m.space ≡ s → (q : Range) → q ≡ span m.address m.length → (p r : Option Run) → p ≡ run_from a low blocked w (q.last + 1) → r ≡ better before p
        → r ≡ over (past_range a low blocked w) before (extent_for s k)
    unfolding over past_range
    past-here h q g p r e f = f ∙ ap (better before) e ∙ sym (ap (over (past_range a low blocked w) before) (here h q g))

-- ---- both parts

pub extents_each : (upto x : ℕ) (ms : List Mapping) (s : ℕ) (r : Option ℕ) → r ≡ free_to upto x (of_each (extent_for s) ms) → r ≡ free_to upto x (extents_of ms s)
unfolding extents_of
extents_each upto x ms s r e = e

pub pass_extents : (g : Option Run → Range → Option Run) (ms : List Mapping) (s : ℕ) (before r : Option Run) → r ≡ over g before (of_each (extent_for s) ms) → r ≡ over g before (extents_of ms s)
unfolding extents_of
pass_extents g ms s before r e = e

pub pass_reserved : (g : Option Run → Range → Option Run) (os : List Object) (s : ℕ) (before r : Option Run) → r ≡ over g before (of_each (reserved_for s) os) → r ≡ over g before (reserved_of os s)
pass_reserved g os s before r e = e ∙ ap (over g before) (sym (reserved-each os s))

module _ (os : List Object) (ms : List Mapping) (s x : ℕ) (t : Option ℕ) (g : t ≡ free_to U64MAX x (reserved_of os s)) where
  joined : free_to U64MAX x (blocked_in os ms s) ≡ onward x (extents_of ms s) t
  joined = ap (free_to U64MAX x) (blocked_parts os ms s) ∙ free-append U64MAX x (reserved_of os s) (extents_of ms s) ∙ ap (onward x (extents_of ms s)) (sym g)

  pub both-nowhere : t ≡ None → None ≡ free_to U64MAX x (blocked_in os ms s)
  both-nowhere k = sym (joined ∙ ap (onward x (extents_of ms s)) k)

  pub both-free : (z : ℕ) → t ≡ Some z → (r : Option ℕ) → r ≡ free_to z x (extents_of ms s) → r ≡ free_to U64MAX x (blocked_in os ms s)
  both-free z k r e = e ∙ sym (joined ∙ ap (onward x (extents_of ms s)) k)
