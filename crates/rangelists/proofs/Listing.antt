-- A list of ranges asked place by place.
use Prim.Native.Nat.{ℕ, suc, ◌+◌, ◌≤◌, ◌<◌}
use mathlib.Core.Path.{◌≡◌, refl, sym, ◌∙◌}
use mathlib.Core.Bool.{Bool, true, false}
use mathlib.Core.List.{List, [], ◌∷◌}
use lib.ListN.{length, get_or, drop, drop_of_length-le}
use native.Mathlib.Omega.{arith}
use borrow.Author.Tests.{le-leb, leb-true}
use Rattle.std.specs.Prelude.{IsTrue, ◌↔◌, ◌||◌, None, Some, is_some}
use Rattle.lists.specs.Tests.{same_test, and_both}
use Rattle.lists.specs.Search.{any, all, all-at, any_at, any-slot, drop_turn, seek_found, seek-on, seek-end}
use Rattle.lists.specs.Pairs.{clashes}
use Rattle.ranges.specs.declared.Range.{Range}
use Rattle.ranges.specs.Ranges.{share}
use Rattle.rangelists.specs.Listed.{places, zero_range, touched_from, touched_from-any, ordered, valid}
use Rattle.rangelists.proofs.Held.{length_places, place_at}

-- a test of a whole list, told place by place
module _ {A : Type 0} (p : A → Bool) where
  all-each : (xs : List A) (d : A) → ((i : ℕ) → i < length xs → p (get_or xs i d) ≡ true) → all p xs ≡ true
  unfolding all
  all-each [] d f = refl
  all-each (x ∷ xs) d f = and_both (p x) (all p xs) (f 0 (omega arith)) (all-each xs d (λ i h. f (suc i) (omega arith)))

  pub all-told : (xs : List A) (d : A) (b : Bool) → (IsTrue b ↔ ((i : ℕ) → i < length xs → p (get_or xs i d) ≡ true)) → b ≡ all p xs
  all-told xs d b h = same_test b (all p xs) (λ t. all-each xs d (h.0 t)) (λ t. h.1 (all-at p xs d t))

  pub any-told : (xs : List A) (d : A) (b : Bool) → (IsTrue b ↔ ((i : ℕ) × (i < length xs) × (p (get_or xs i d) ≡ true))) → b ≡ any p xs
  any-told xs d b h = same_test b (any p xs) (λ t. let w = h.0 t in any_at p xs d w.0 w.1 w.2) (λ t. h.1 (any-slot p xs d t))

module _ (ss ls : List ℕ) (even : length ss ≡ length ls) where
  pub valid-told : (b : Bool) → (IsTrue b ↔ ((i : ℕ) → i < length ss → get_or ss i 0 ≤ get_or ls i 0)) → b ≡ valid (places ss ls)
  unfolding valid ordered
  valid-told b h =
      all-told ordered (places ss ls) zero_range b (
        (λ t i k. rw (place_at i ss ls k) (le-leb (get_or ss i 0) (get_or ls i 0) (h.0 t i (rw (← length_places ss ls even) k)))),
        (λ f. h.1 (λ i g. let k : i < length (places ss ls) = rw (length_places ss ls even) g in leb-true (get_or ss i 0) (get_or ls i 0) (rw (place_at i ss ls k) at (f i k)))),
      )

-- a search for what r touches, at place i
module _ (r : Range) (i : ℕ) (rs : List Range) where
  pub touched_here : i < length rs → share r (get_or rs i zero_range) ≡ true → touched_from r i rs ≡ Some i
  unfolding touched_from
  touched_here h e = sym (seek_found (share r) rs i refl zero_range h e)

  pub touched_on : i < length rs → share r (get_or rs i zero_range) ≡ false → touched_from r i rs ≡ touched_from r (i + 1) rs
  unfolding touched_from
  touched_on h e = sym (seek-on (share r) rs i refl zero_range h e)

  pub touched_none : length rs ≤ i → touched_from r i rs ≡ None
  unfolding touched_from
  touched_none h = sym (seek-end (share r) rs i refl h)

-- a search for two that overlap, at place i
module _ (i : ℕ) (rs : List Range) where
  turn : i < length rs → clashes share (drop i rs) ≡ (is_some (touched_from (get_or rs i zero_range) (i + 1) rs) || clashes share (drop (i + 1) rs))
  unfolding clashes
  turn h = rw (drop_turn rs zero_range i h, clashes, touched_from-any (get_or rs i zero_range) (i + 1) rs)

  pub overlap_here : i < length rs → is_some (touched_from (get_or rs i zero_range) (i + 1) rs) ≡ true → clashes share (drop i rs) ≡ true
  overlap_here h e = turn h ∙ rw e

  pub overlap_on : i < length rs → is_some (touched_from (get_or rs i zero_range) (i + 1) rs) ≡ false → clashes share (drop i rs) ≡ clashes share (drop (i + 1) rs)
  overlap_on h e = turn h ∙ rw e

  pub overlap_none : length rs ≤ i → clashes share (drop i rs) ≡ false
  unfolding clashes
  overlap_none h = rw (drop_of_length-le rs h)
