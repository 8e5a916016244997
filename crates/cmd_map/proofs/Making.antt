-- The number that a survey found fits; when the charge passes the limit.
use Rattle.std.specs.Prelude.{None, Some, Option}
use Prim.Native.Nat.{ℕ, ◌+◌, ◌≤◌, ◌<◌}
use mathlib.Core.Path.{◌≡◌, refl, sym}
use mathlib.Core.Bool.{true, false, not}
use mathlib.Core.List.{List}
use native.Mathlib.Omega.{arith}
use borrow.Author.Tests.{lt-ltb, le-ltb}
use Rattle.lists.specs.Search.{any}
use Rattle.lists.specs.Below.{lowest-some}
use Rattle.rules_table.specs.declared.Mapping.{Mapping}
use Rattle.rules_table.specs.Charge.{backs, free_backing}
use Rattle.rules_calls.specs.Edits.{number_in}
use Rattle.rules_calls.specs.Map.{over_limit}
use Rattle.scan.specs.declared.Survey.{Survey}
use Rattle.scan.specs.Surveyed.{survey_of}

backing-upto : (ms : List Mapping) (o : Option ℕ) → free_backing ms ≡ o → number_in o ≤ 128
unfolding free_backing
backing-upto ms None e = omega arith
backing-upto ms (Some n) e = omega (arith, (lowest-some (λ b. not (any (backs b) ms)) 128 1 n e).upto)

pub backing-fits : (ms : List Mapping) (v : Survey) → v ≡ survey_of ms → number_in v.backing ≤ 128
unfolding survey_of
backing-fits ms v e = rw e (backing-upto ms (free_backing ms) refl)

module _ (limit charge pages : ℕ) where
  pub over : limit < charge + pages → true ≡ over_limit limit charge pages
  unfolding over_limit
  over h = sym (lt-ltb limit (charge + pages) h)

  -- equal to the limit is allowed
  pub not_over : charge + pages ≤ limit → false ≡ over_limit limit charge pages
  unfolding over_limit
  not_over h = sym (le-ltb limit (charge + pages) h)
