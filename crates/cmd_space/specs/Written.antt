-- What the reply of IOVA_RANGES has.
use Rattle.std.specs.Prelude.{ℕ, ◌≤◌, ◌≡◌, not, ◌&&◌, List, ltb, length}
use Rattle.std.proofs.Common.{◌∙◌}
use Rattle.lists.specs.Search.{any}
use Rattle.ranges.specs.declared.Range.{Range}
use Rattle.ranges.specs.Ranges.{holds}
use Rattle.freeranges.specs.Free.{U64END, Spaced}
use Rattle.freeranges.proofs.Free.{free-has, free-spaced}
use Rattle.freeranges.proofs.Fewest.{free-fewest}
use Rattle.rules_table.specs.declared.Object.{Object}
use Rattle.rules_table.specs.Spaces.{reserved_of}
use Rattle.rules_calls.specs.Ranges.{free_of}

module _ (os : List Object) (s : ℕ) where
  -- an address lies in one of the ranges exactly if no attached device reserves it
  pub free_of-has : (a : ℕ) → any (λ g. holds g a) (free_of os s) ≡ (ltb a U64END && not (any (λ r. holds r a) (reserved_of os s)))
  unfolding free_of
  free_of-has = free-has (reserved_of os s)

  -- ascending, none empty, no two adjacent
  pub free_of-spaced : Spaced 0 (free_of os s)
  unfolding free_of
  free_of-spaced = free-spaced (reserved_of os s)

  -- no list of ranges that holds exactly these addresses is shorter
  pub free_of-fewest : (gs : List Range) → ((a : ℕ) → any (λ g. holds g a) gs ≡ any (λ g. holds g a) (free_of os s)) → length (free_of os s) ≤ length gs
  unfolding free_of
  free_of-fewest gs h = free-fewest (reserved_of os s) gs (λ a. h a ∙ free-has (reserved_of os s) a)
