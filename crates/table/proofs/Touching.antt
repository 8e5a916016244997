-- A touch between two lists of ranges, told by the places of the first: what is left of it from place i on.
use Prim.Native.Nat.{ℕ, ◌+◌, ◌≤◌, ◌<◌}
use mathlib.Core.Path.{◌≡◌, refl, sym, ◌∙◌}
use mathlib.Core.Bool.{Bool, true, false}
use mathlib.Core.List.{List}
use lib.ListN.{length, get_or, drop}
use Rattle.std.specs.Prelude.{is_some}
use Rattle.lists.specs.Search.{any, any_found, any-on, any-end}
use Rattle.ranges.specs.declared.Range.{Range}
use Rattle.ranges.specs.Ranges.{share}
use Rattle.rangelists.specs.Listed.{zero_range, touched_from, touched_from-any}
use Rattle.rules_table.specs.Good.{lists_touch}

module _ (i : ℕ) (rs qs : List Range) where
  -- the range at place i, searched for in the other list
  tells : (b : Bool) → is_some (touched_from (get_or rs i zero_range) 0 qs) ≡ b → any (share (get_or rs i zero_range)) qs ≡ b
  tells b e = sym (touched_from-any (get_or rs i zero_range) 0 qs) ∙ e

  pub touch_here : i < length rs → is_some (touched_from (get_or rs i zero_range) 0 qs) ≡ true → lists_touch (drop i rs) qs ≡ true
  unfolding lists_touch
  touch_here h e = sym (any_found (λ r. any (share r) qs) rs i refl zero_range h (tells true e))

  pub touch_on : i < length rs → is_some (touched_from (get_or rs i zero_range) 0 qs) ≡ false → lists_touch (drop i rs) qs ≡ lists_touch (drop (i + 1) rs) qs
  unfolding lists_touch
  touch_on h e = sym (any-on (λ r. any (share r) qs) rs i refl zero_range h (tells false e))

  pub touch_none : length rs ≤ i → lists_touch (drop i rs) qs ≡ false
  unfolding lists_touch
  touch_none h = sym (any-end (λ r. any (share r) qs) rs i refl h)
