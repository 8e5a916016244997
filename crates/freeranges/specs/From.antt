-- The first free range from x on.
use Rattle.std.specs.Prelude.{ℕ, ◌+◌, ◌≤◌, ◌<◌, ◌≡◌, List, ◌∷◌}
use Rattle.ranges.specs.declared.Range.{Range}
use Rattle.ranges.specs.Ranges.{range}
use Rattle.freeranges.specs.Free.{U64END, free_from}

-- start to last is the first free range from x on
pub record First (rs : List Range) (x start last : ℕ) : Type 0 where
  pub from : x ≤ start
  pub some : start ≤ last
  pub fits : last < U64END
  pub first : free_from x rs ≡ range start last ∷ free_from (last + 1) rs
