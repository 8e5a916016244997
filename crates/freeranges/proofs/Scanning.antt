-- A list of ranges asked at place i: what is left of it from there on.
use Rattle.std.specs.Prelude.{None, Some}
use Prim.Native.Nat.{ℕ, ◌+◌, ◌≤◌, ◌<◌, min}
use mathlib.Core.Path.{◌≡◌, refl, sym, ap, ◌∙◌}
use mathlib.Core.Bool.{true, false}
use mathlib.Core.List.{List}
use lib.ListN.{length, get_or, drop, drop_of_length-le}
use Rattle.lists.specs.Search.{find-found, find-on, find-end, drop_turn}
use Rattle.ranges.specs.declared.Range.{Range}
use Rattle.ranges.specs.Ranges.{U64MAX, holds}
use Rattle.rangelists.specs.Listed.{zero_range}
use Rattle.freeranges.specs.Scan.{upto, cover_of, end_for, run_end, run_end-nil, run_end-cons, run_end-most}

module _ (i x : ℕ) (rs : List Range) where
  pub cover_here : i < length rs → holds (get_or rs i zero_range) x ≡ true → cover_of (drop i rs) x ≡ Some (get_or rs i zero_range).last
  unfolding cover_of
  cover_here h e = sym (ap upto (find-found (λ r. holds r x) rs i refl zero_range h e))

  pub cover_on : i < length rs → holds (get_or rs i zero_range) x ≡ false → cover_of (drop i rs) x ≡ cover_of (drop (i + 1) rs) x
  unfolding cover_of
  cover_on h e = sym (ap upto (find-on (λ r. holds r x) rs i refl zero_range h e))

  pub cover_none : length rs ≤ i → cover_of (drop i rs) x ≡ None
  unfolding cover_of
  cover_none h = sym (ap upto (find-end (λ r. holds r x) rs i refl h))

  pub end_turn : i < length rs → run_end (drop i rs) x ≡ min (end_for x (get_or rs i zero_range)) (run_end (drop (i + 1) rs) x)
  end_turn h = ap (λ (qs : List Range). run_end qs x) (drop_turn rs zero_range i h) ∙ run_end-cons x (get_or rs i zero_range) (drop (i + 1) rs)

  pub end_none : length rs ≤ i → run_end (drop i rs) x ≡ U64MAX
  end_none h = ap (λ (qs : List Range). run_end qs x) (drop_of_length-le rs h) ∙ run_end-nil x

pub end_most : (rs : List Range) (x : ℕ) → run_end rs x ≤ U64MAX
end_most rs x = run_end-most x rs
