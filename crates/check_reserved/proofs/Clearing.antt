-- One reserved range against all records; one slot after another.
use Prim.Native.Nat.{ℕ, ◌+◌, ◌≤◌, ◌<◌}
use mathlib.Core.Path.{◌≡◌, refl, sym, ap, ◌∙◌}
use mathlib.Core.Bool.{Bool, true, false, not, ◌&&◌, ◌||◌, cond}
use mathlib.Core.List.{List, [], ◌∷◌, ◌++◌}
use lib.Dec.{eqb}
use lib.ListN.{length, get_or, drop}
use borrow.Author.Tests.{eqb-true, eqb-false, eq-eqb, ne_eqb, not-true, not-false}
use Rattle.lists.specs.Tests.{by-test, or_right, and_not_right}
use Rattle.lists.specs.Search.{any, all, any-cons, any-nil, any_append, any_found, any-on, any-cong, all-cong, all-and, all-not}
use Rattle.lists.specs.Each.{Each-of, all-Each}
use Rattle.ranges.specs.declared.Range.{Range}
use Rattle.ranges.specs.Ranges.{share, share-comm}
use Rattle.rangelists.specs.Listed.{reserved, zero_range}
use Rattle.rules_table.specs.declared.Kind.{Kind}
use Rattle.rules_table.specs.declared.Object.{Object}
use Rattle.rules_table.specs.declared.Mapping.{Mapping}
use Rattle.rules_table.specs.Records.{zero_object, used, of_space, extent, touches, is_attached, home_of}
use Rattle.rules_table.specs.Spaces.{reserved_for, reserved_of}
use Rattle.rules_table.specs.Good.{when_used, clear_of}
use Rattle.reserved_ranges.specs.Gathered.{reserved_of-left, reserved_of-done}
use Rattle.check_reserved.specs.Clear.{strikes, clear_by}

-- ---- one range against all records

none-struck : (p : Mapping → Bool) (ms : List Mapping) → ((m : Mapping) → p m ≡ false) → any p ms ≡ false
unfolding any
none-struck p [] h = refl
none-struck p (m ∷ ms) h = rw (h m) (none-struck p ms h)

module _ (s : ℕ) (r : Range) (ms : List Mapping) where
  -- no record in use is of space 0
  pub struck_nowhere : s ≡ 0 → false ≡ any (strikes s r) ms
  unfolding strikes used touches of_space
  struck_nowhere e = sym (none-struck (strikes s r) ms (λ m. rw e (by-test (eqb m.space 0) (λ u. rw u) (λ u. rw u))))

  -- a record of any other space is in use
  pub struck_touched : (b : Bool) (q : ℕ) → (s ≡ 0 → ⊥) → b ≡ any (touches q r) ms → q ≡ s → b ≡ any (strikes s r) ms
  unfolding strikes used touches of_space
  struck_touched b q n e same =
      e ∙ ap (λ (k : ℕ). any (touches k r) ms) same ∙ any-cong (touches s r) (strikes s r) ms
      (λ m. by-test (eqb m.space s)
      (λ t. rw (t, ne_eqb m.space 0 (λ z. n (sym (eqb-true m.space s t) ∙ z))))
      (λ t. rw t (sym (and_not_right (not (eqb m.space 0)) false refl))))

-- ---- a list of ranges, at place i

module _ (p : Range → Bool) (rs : List Range) (i : ℕ) {k : Bool} (v : any p (drop i rs) ≡ k) (q : Range) (eq : q ≡ get_or rs i zero_range) (h : i < length rs) where
  pub list_found : p q ≡ true → true ≡ k
  list_found e = any_found p rs i v zero_range h (ap p (sym eq) ∙ e)

  pub list_on : p q ≡ false → any p (drop (i + 1) rs) ≡ k
  list_on e = any-on p rs i v zero_range h (ap p (sym eq) ∙ e)

-- ---- all records

-- nothing is reserved
clear_none : (f : ℕ → List Range) (ms : List Mapping) → ((s : ℕ) → f s ≡ []) → clear_by f ms ≡ true
unfolding clear_by when_used clear_of
clear_none f ms e =
    all-Each (λ m. when_used (clear_of (f m.space)) m) ms
    (Each-of (λ m. when_used (clear_of (f m.space)) m ≡ true) ms (λ m. rw (e m.space, any-nil (share (extent m))) (or_right (not (used m)) true refl)))

-- the same ranges
clear-cong : (f g : ℕ → List Range) (ms : List Mapping) → ((s : ℕ) → f s ≡ g s) → clear_by f ms ≡ clear_by g ms
unfolding clear_by
clear-cong f g ms e =
    all-cong (λ m. when_used (clear_of (f m.space)) m) (λ m. when_used (clear_of (g m.space)) m) ms
    (λ m. ap (λ (rs : List Range). when_used (clear_of rs) m) (e m.space))

neither : (a b : Bool) → not (a || b) ≡ (not a && not b)
neither true b = refl
neither false b = refl

-- ranges and then others
clear-append : (f g : ℕ → List Range) (ms : List Mapping) → clear_by (λ s. f s ++ g s) ms ≡ (clear_by f ms && clear_by g ms)
unfolding clear_by when_used clear_of
clear-append f g ms =
    all-cong (λ m. when_used (clear_of (f m.space ++ g m.space)) m) (λ m. when_used (clear_of (f m.space)) m && when_used (clear_of (g m.space)) m) ms
    (λ m.
    by-test (used m)
    (λ u. rw (u, any_append (share (extent m)) (f m.space) (g m.space))
    (neither (any (share (extent m)) (f m.space)) (any (share (extent m)) (g m.space))))
    (λ u. rw u))
    ∙ all-and (λ m. when_used (clear_of (f m.space)) m) (λ m. when_used (clear_of (g m.space)) m) ms

-- ---- the list of a device of space s

abbrev at : ℕ → List Range → ℕ → List Range
at s rs t = cond (eqb s t) rs []

-- one of its ranges
clear-one : (s : ℕ) (r : Range) (ms : List Mapping) → clear_by (at s (r ∷ [])) ms ≡ not (any (strikes s r) ms)
unfolding clear_by when_used clear_of strikes touches of_space
clear-one s r ms =
    all-cong (λ m. when_used (clear_of (at s (r ∷ []) m.space)) m) (λ m. not (strikes s r m)) ms
    (λ m.
    by-test (used m)
    (λ u.
    by-test (eqb m.space s)
    (λ e.
    let f : eqb s m.space ≡ true = eq-eqb s m.space (sym (eqb-true m.space s e)) in
    rw (u, e, f, any-cons (share (extent m)) r [], any-nil (share (extent m)), share-comm r (extent m)) (only (share (extent m) r)))
    (λ e.
    let f : eqb s m.space ≡ false = ne_eqb s m.space (λ z. eqb-false m.space s e (sym z)) in
    rw (u, e, f, any-nil (share (extent m)))))
    (λ u. rw u))
    ∙ all-not (strikes s r) ms
  where
    only : (b : Bool) → not (b || false) ≡ not b
    only true = refl
    only false = refl

clear-list : (s : ℕ) (rs : List Range) (ms : List Mapping) → clear_by (at s rs) ms ≡ not (any (λ r. any (strikes s r) ms) rs)
unfolding any
clear-list s [] ms = clear_none (at s []) ms (λ t. by-test (eqb s t) (λ e. rw e) (λ e. rw e))
clear-list s (r ∷ rs) ms =
    clear-cong (at s (r ∷ rs)) (λ t. at s (r ∷ []) t ++ at s rs t) ms (λ t. by-test (eqb s t) (λ e. rw e) (λ e. rw e))
    ∙ clear-append (at s (r ∷ [])) (at s rs) ms
    ∙ rw (clear-one s r ms, clear-list s rs ms)
    (sym (neither (any (strikes s r) ms) (any (λ q. any (strikes s q) ms) rs)))

-- ---- one slot

module _ (o : Object) (ms : List Mapping) (k : Kind) (b : Bool) (ek : k ≡ o.kind) (eb : b ≡ is_attached k) where
  attached-is : (c : Bool) → b ≡ c → is_attached o.kind ≡ c
  attached-is c e = ap (λ (j : Kind). is_attached j) (sym ek) ∙ sym eb ∙ e

  pub slot_loose : not b ≡ true → true ≡ clear_by (λ s. reserved_for s o) ms
  unfolding reserved_for
  slot_loose h = sym (clear_none (λ s. reserved_for s o) ms (λ s. rw (attached-is false (not-true b h))))

  pub slot-attached : (s : ℕ) (rs : List Range) (c : Bool) → not b ≡ false → s ≡ home_of k → rs ≡ reserved o.reserved
      → c ≡ any (λ r. any (strikes s r) ms) rs → not c ≡ clear_by (λ s. reserved_for s o) ms
  unfolding reserved_for
  slot-attached s rs c h es el ec =
      ap (λ (d : Bool). not d) ec
      ∙ sym (clear-list s rs ms)
      ∙ clear-cong (at s rs) (λ t. reserved_for t o) ms
      (λ t. rw (attached-is true (not-false b h), el, es, ek) refl)

-- ---- all slots, at slot i: what is left answers for the whole

pub all_start : (os : List Object) (ms : List Mapping) → clear_by (λ s. reserved_of os s) ms ≡ all (λ m. when_used (clear_of (reserved_of os m.space)) m) ms
unfolding clear_by
all_start os ms = refl

module _ (os : List Object) (ms : List Mapping) (i : ℕ) {k : Bool} (v : clear_by (λ s. reserved_of (drop i os) s) ms ≡ k) where
  turn : i < length os → (clear_by (λ s. reserved_for s (get_or os i zero_object)) ms && clear_by (λ s. reserved_of (drop (i + 1) os) s) ms) ≡ k
  turn h =
      sym (clear-cong (λ s. reserved_of (drop i os) s) (λ s. reserved_for s (get_or os i zero_object) ++ reserved_of (drop (i + 1) os) s) ms
      (λ s. reserved_of-left os i s h)
      ∙ clear-append (λ s. reserved_for s (get_or os i zero_object)) (λ s. reserved_of (drop (i + 1) os) s) ms)
      ∙ v

  pub slot-struck : i < length os → false ≡ clear_by (λ s. reserved_for s (get_or os i zero_object)) ms → false ≡ k
  slot-struck h e = sym (rw (← e)) ∙ turn h

  pub slot-on : i < length os → true ≡ clear_by (λ s. reserved_for s (get_or os i zero_object)) ms → clear_by (λ s. reserved_of (drop (i + 1) os) s) ms ≡ k
  slot-on h e = sym (rw (← e)) ∙ turn h

  pub slot-end : length os ≤ i → true ≡ k
  slot-end h = sym (clear_none (λ s. reserved_of (drop i os) s) ms (λ s. reserved_of-done os i s h)) ∙ v
