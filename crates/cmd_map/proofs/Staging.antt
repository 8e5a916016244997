-- Checks in stages: a stage that refused decides, one that passed leaves the answer to the stages after it. Those of MAP and of COPY nest so.
use Prim.Native.Nat.{ℕ}
use mathlib.Core.Path.{◌≡◌, sym, ◌∙◌}
use mathlib.Core.Bool.{Bool, true, false}
use mathlib.Core.List.{List, ◌++◌}
use native.Mathlib.Omega.{arith}
use Rattle.lists.specs.Search.{any}
use Rattle.lists.specs.Checks.{Check, first, first-append, first-stays, first_goes, Refusals}
use Rattle.ranges.specs.declared.Range.{Range}
use Rattle.ranges.specs.Ranges.{span}
use Rattle.rules_table.specs.declared.Object.{Object}
use Rattle.rules_table.specs.declared.Mapping.{Mapping}
use Rattle.rules_table.specs.Records.{touches}
use Rattle.rules_calls.specs.Landing.{taken, fixed_checks, automatic_checks, place_checks}

pub stage_refused : (cs ds : List (Check ℕ)) (n : ℕ) → n ≡ first cs 0 → (n ≡ 0 → ⊥) → n ≡ first (cs ++ ds) 0
stage_refused cs ds n e h = first-stays cs 0 n (first ds 0) e h ∙ sym (first-append cs ds 0)

pub stage_passed : (cs ds : List (Check ℕ)) (n k : ℕ) → Refusals cs 0 → n ≡ first cs 0 → n ≡ 0 → k ≡ first ds 0 → k ≡ first (cs ++ ds) 0
stage_passed cs ds n k r e z f = f ∙ first_goes cs 0 (first ds 0) r (sym z ∙ e) ∙ sym (first-append cs ds 0)

-- no check of a place answers 0
pub place-refuse : (os : List Object) (ms : List Mapping) (s : ℕ) (fixed : Bool) (n x : ℕ) → Refusals (place_checks os ms s fixed n x) 0
unfolding place_checks fixed_checks automatic_checks
place-refuse os ms s true n x = (λ y. omega (arith, y), (λ y. omega (arith, y), (λ y. omega (arith, y), tt)))
place-refuse os ms s false n x = (λ y. omega (arith, y), (λ y. omega (arith, y), tt))

-- whether the range asked is taken
pub touched-is : (ms : List Mapping) (s n x : ℕ) (r : Range) (b : Bool) → r ≡ span x n → b ≡ any (touches s r) ms → b ≡ taken ms s n x
unfolding taken
touched-is ms s n x r b er eb = eb ∙ rw er
