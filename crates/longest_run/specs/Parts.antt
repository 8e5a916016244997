-- What is blocked in a space, part by part: what each slot reserves, then what each record maps. So no list of it need be made.
use Rattle.std.specs.Prelude.{ℕ, ◌≡◌, refl, cond, List, [], ◌∷◌, ◌++◌, map}
use Rattle.std.proofs.Common.{ap}
use Rattle.lists.specs.Tests.{by-test}
use Rattle.lists.specs.Sums.{keep}
use Rattle.ranges.specs.declared.Range.{Range}
use Rattle.rules_table.specs.declared.Object.{Object}
use Rattle.rules_table.specs.declared.Mapping.{Mapping}
use Rattle.rules_table.specs.Records.{of_space, extent}
use Rattle.rules_table.specs.Spaces.{reserved_for, reserved_of}
use Rattle.rules_calls.specs.Landing.{blocked_in}

-- the ranges of each element, one after the other
unfoldable pub of_each : {A : Type 0} → (A → List Range) → List A → List Range
of_each f [] = []
of_each f (x ∷ xs) = f x ++ of_each f xs

-- what a record maps in space s
unfoldable pub extent_for : ℕ → Mapping → List Range
extent_for s m = cond (of_space s m) (extent m ∷ []) []

-- what all records map
unfoldable pub extents_of : List Mapping → ℕ → List Range
extents_of ms s = of_each (extent_for s) ms

pub reserved-each : (os : List Object) (s : ℕ) → reserved_of os s ≡ of_each (reserved_for s) os
unfolding reserved_of of_each
reserved-each [] s = refl
reserved-each (o ∷ os) s = ap (λ (rs : List Range). reserved_for s o ++ rs) (reserved-each os s)

extents_kept : (ms : List Mapping) (s : ℕ) → map extent (keep (of_space s) ms) ≡ extents_of ms s
unfolding extents_of of_each extent_for keep
extents_kept [] s = refl
extents_kept (m ∷ ms) s =
    by-test (of_space s m)
    (λ t. rw t (ap (λ (rs : List Range). extent m ∷ rs) (extents_kept ms s)))
    (λ t. rw t (extents_kept ms s))

pub blocked_parts : (os : List Object) (ms : List Mapping) (s : ℕ) → blocked_in os ms s ≡ reserved_of os s ++ extents_of ms s
unfolding blocked_in
blocked_parts os ms s = ap (λ (rs : List Range). reserved_of os s ++ rs) (extents_kept ms s)
