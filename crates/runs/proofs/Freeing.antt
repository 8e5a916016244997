-- A list of ranges asked at place i: what is left of it from there on.
use Rattle.std.specs.Prelude.{None, Some}
use Prim.Native.Nat.{ℕ, ◌+◌, ◌≤◌, ◌<◌}
use mathlib.Core.Path.{◌≡◌, ap, ◌∙◌}
use mathlib.Core.Bool.{true, false}
use mathlib.Core.List.{List}
use lib.ListN.{length, get_or, drop, drop_of_length-le}
use Rattle.lists.specs.Search.{drop_turn}
use Rattle.ranges.specs.declared.Range.{Range}
use Rattle.ranges.specs.Ranges.{range, share}
use Rattle.rangelists.specs.Listed.{zero_range}
use Rattle.runs.specs.Runs.{cut_at, free_to}

module _ (e x i : ℕ) (rs : List Range) where
  pub free_in : i < length rs → share (range x x) (get_or rs i zero_range) ≡ true → free_to e x (drop i rs) ≡ None
  unfolding free_to
  free_in h t = ap (free_to e x) (drop_turn rs zero_range i h) ∙ rw t

  pub free_on : i < length rs → share (range x x) (get_or rs i zero_range) ≡ false → free_to e x (drop i rs) ≡ free_to (cut_at e x (get_or rs i zero_range)) x (drop (i + 1) rs)
  unfolding free_to
  free_on h t = ap (free_to e x) (drop_turn rs zero_range i h) ∙ rw t

  pub free_none : length rs ≤ i → free_to e x (drop i rs) ≡ Some e
  unfolding free_to
  free_none h = ap (free_to e x) (drop_of_length-le rs h)
