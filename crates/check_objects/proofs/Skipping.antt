-- The search for the next slot that holds something.
use Prim.Native.Nat.{ℕ, ◌+◌, ◌≤◌, ◌<◌}
use mathlib.Core.Path.{◌≡◌}
use mathlib.Core.List.{List}
use native.Mathlib.Omega.{arith}
use lib.Dec.{ltb}
use lib.ListN.{get_or}
use borrow.Author.Tests.{ltb-true, ltb-false}
use Rattle.lists.specs.Tests.{by-test}
use Rattle.rules_table.specs.declared.Object.{Object}
use Rattle.rules_table.specs.Records.{zero_object, free_object}
use Rattle.check_objects.specs.Passed.{Next}

pub next_start : (os : List Object) (n : ℕ) → n ≤ 32 → Next os n n
next_start os n h = record { from = omega arith; upto = h; released = λ k a b. absurd (omega arith) }

pub next-on : (os : List Object) (n i : ℕ) → Next os n i → i < 32 → get_or os i zero_object ≡ free_object → Next os n (i + 1)
next-on os n i s h e = record {
  from = omega (arith, s.from);
  upto = omega arith;
  released = λ k a l.
      by-test (ltb k i)
      (λ t. s.released k a (ltb-true k i t))
      (λ t. let z : k ≡ i = omega (arith, l, ltb-false k i t) in rw z e);
}
