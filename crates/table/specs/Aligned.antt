-- Laws of a space's alignment and of its reserved ranges.
use Rattle.std.specs.Prelude.{ℕ, ◌≤◌, ◌≡◌, refl, Bool, ◌||◌, List, [], ◌∷◌}
use Rattle.std.proofs.Common.{ap, ◌∙◌}
use Rattle.lists.specs.Tests.{by-test}
use Rattle.lists.specs.Search.{any, any_append}
use Rattle.ranges.specs.declared.Range.{Range}
use Rattle.alignment.specs.Pages.{Power, page-power}
use Rattle.alignment.specs.Highest.{highest-power, highest-pos}
use Rattle.rules_table.specs.declared.Object.{Object}
use Rattle.rules_table.specs.Records.{attached_to}
use Rattle.rules_table.specs.Spaces.{alignment, page_for, reserved_for, reserved_of}

pub page_for-power : (s : ℕ) (o : Object) → Power (page_for s o)
unfolding page_for
page_for-power s o = by-test (attached_to s o.kind) (λ e. rw e (page-power o.bitmap)) (λ e. rw e (0, refl))

pub alignment-power : (os : List Object) (s : ℕ) → Power (alignment os s)
unfolding alignment
alignment-power os s = highest-power (page_for s) (page_for-power s) os

pub alignment-pos : (os : List Object) (s : ℕ) → 1 ≤ alignment os s
unfolding alignment
alignment-pos os s = highest-pos (page_for s) os

-- a test of some reserved range is one of some object's
pub any-reserved_of : (p : Range → Bool) (os : List Object) (s : ℕ) → any p (reserved_of os s) ≡ any (λ o. any p (reserved_for s o)) os
unfolding reserved_of any
any-reserved_of p [] s = refl
any-reserved_of p (o ∷ os) s = any_append p (reserved_for s o) (reserved_of os s) ∙ ap (λ (b : Bool). any p (reserved_for s o) || b) (any-reserved_of p os s)
