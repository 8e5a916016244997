-- What one slot reserves, and a pass that stands at a slot.
use Rattle.std.specs.Prelude.{Option, None, Some, is_some}
use Prim.Native.Nat.{ℕ, ◌+◌, ◌*◌, ◌≤◌, ◌<◌}
use mathlib.Core.Path.{◌≡◌, refl, sym, ap, ◌∙◌, subst}
use mathlib.Core.Bool.{Bool, true, false}
use mathlib.Core.List.{List, [], ◌∷◌}
use native.Mathlib.Omega.{arith}
use lib.ListN.{length, get_or, take, drop, length-take}
use Rattle.lists.specs.Search.{any}
use Rattle.ranges.specs.declared.Range.{Range}
use Rattle.ranges.specs.Ranges.{share}
use Rattle.rangelists.specs.Listed.{reserved, places, touched_from, first_touched, first_touched-any}
use Rattle.placement.specs.Jumps.{Swept, Never}
use Rattle.placement.specs.Passes.{swept-nil, swept-then, never-left, swept-most}
use Rattle.rules_table.specs.declared.Object.{Object}
use Rattle.rules_table.specs.Records.{zero_object, attached_to}
use Rattle.rules_table.specs.Spaces.{reserved_for, reserved_of}
use Rattle.reserved_ranges.specs.Gathered.{reserved_of-next, reserved_of-all, reserved_of-split, reserved_for-most, reserved_of-most}

-- ---- one slot

-- no places, no ranges
nowhere : (ss ls : List ℕ) → length ss ≡ 0 → places ss ls ≡ []
unfolding places
nowhere [] ls e = refl
nowhere (x ∷ ss) ls e = absurd (omega (arith, e))

module _ (s : ℕ) (o : Object) (b : Bool) (eb : b ≡ attached_to s o.kind) where
  silent : b ≡ false → reserved_for s o ≡ []
  unfolding reserved_for
  silent h = rw (sym eb ∙ h)

  pub reserving_none : b ≡ false → (ss ls : List ℕ) → length ss ≡ 0 → places ss ls ≡ reserved_for s o
  reserving_none h ss ls e = nowhere ss ls e ∙ sym (silent h)

  pub reserving_made : b ≡ true → (rs : List Range) → rs ≡ reserved o.reserved → rs ≡ reserved_for s o
  unfolding reserved_for
  reserving_made h rs e = rw (sym eb ∙ h, e)

-- whether one of them shares an address with r
pub slot-touches : (r : Range) (qs rs : List Range) → qs ≡ rs → is_some (touched_from r 0 qs) ≡ any (share r) rs
unfolding first_touched
slot-touches r qs rs e = first_touched-any r qs ∙ ap (any (share r)) e

-- ---- a pass over all slots, at slot i

pub record Standing (a n : ℕ) (os : List Object) (s from x jumps i : ℕ) : Type 0 where
  pub swept : Swept a n (reserved_of (take i os) s) from (Some x) jumps
  pub upto : i ≤ length os

pub standing_start : (a n : ℕ) (os : List Object) (s from : ℕ) → from < 0x1_0000_0000_0000_0000 → Standing a n os s from from 0 0
unfolding reserved_of
standing_start a n os s from h = record { swept = swept-nil a n from h; upto = omega arith }

module _ (a n : ℕ) (os : List Object) (s from x jumps i : ℕ) (v : Standing a n os s from x jumps i) where
  module _ (h : i < length os) (sp : Option ℕ) (j : ℕ) (p : Swept a n (reserved_for s (get_or os i zero_object)) x sp j) where
    next : Swept a n (reserved_of (take (i + 1) os) s) from sp (jumps + j)
    next =
        subst (λ (qs : List Range). Swept a n qs from sp (jumps + j)) (sym (reserved_of-next os i s h))
        (swept-then a n (reserved_of (take i os) s) (reserved_for s (get_or os i zero_object)) from x sp jumps j v.swept p)

    pub standing_sum : jumps + j ≤ 4 * length os
    standing_sum =
        omega (
          arith,
          swept-most a n (reserved_of (take i os) s) from (Some x) jumps v.swept,
          reserved_of-most (take i os) s,
          length-take i os,
          swept-most a n (reserved_for s (get_or os i zero_object)) x sp j p,
          reserved_for-most s (get_or os i zero_object),
          h,
        )

    pub standing_never : sp ≡ None → Swept a n (reserved_of os s) from None (jumps + j)
    standing_never e =
        subst (λ (qs : List Range). Never a n qs from (jumps + j)) (sym (reserved_of-split os (i + 1) s))
        (never-left a n (reserved_of (take (i + 1) os) s) (reserved_of (drop (i + 1) os) s) from (jumps + j)
        (subst (λ (r : Option ℕ). Swept a n (reserved_of (take (i + 1) os) s) from r (jumps + j)) e next))

    pub standing_on : (y : ℕ) → sp ≡ Some y → Standing a n os s from y (jumps + j) (i + 1)
    standing_on y e = record { swept = subst (λ (r : Option ℕ). Swept a n (reserved_of (take (i + 1) os) s) from r (jumps + j)) e next; upto = omega (arith, h) }

  pub standing_end : length os ≤ i → Swept a n (reserved_of os s) from (Some x) jumps
  standing_end h = subst (λ (qs : List Range). Swept a n qs from (Some x) jumps) (reserved_of-all os i s h) v.swept
