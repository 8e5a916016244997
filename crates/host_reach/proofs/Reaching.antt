-- What each return of reach and next gives, in the words of the definitions.
use Rattle.std.specs.Prelude.{None, Some, Option}
use Prim.Native.Nat.{ℕ, zero, suc, ◌+◌, ◌-◌, ◌≤◌, ◌<◌}
use mathlib.Core.Path.{◌≡◌, refl, sym, ap, ◌∙◌}
use mathlib.Core.Bool.{Bool, true, false, not, ◌&&◌}
use mathlib.Core.List.{List}
use native.Mathlib.Omega.{arith}
use borrow.Author.Tests.{not-true, not-false}
use Rattle.lists.specs.Tests.{by-test, and_right}
use Rattle.lists.specs.Search.{find-some, find-some_all}
use Rattle.lists.specs.Each.{Each, all-Each}
use Rattle.lists.specs.Checks.{when, first, passed}
use Rattle.ranges.specs.declared.Range.{Range}
use Rattle.ranges.specs.Ranges.{U64MAX, inside, inside-from, inside-upto, span, last_of, span-some, passes-false}
use Rattle.rules_table.specs.declared.Kind.{Kind}
use Rattle.rules_table.specs.declared.Object.{Object}
use Rattle.rules_table.specs.declared.Mapping.{Mapping}
use Rattle.rules_table.specs.Records.{object_at, space_at, is_space, is_attached, home_of, of_space, extent, used}
use Rattle.table.specs.Checked.{record_ok}
use Rattle.table.specs.Facts.{record_used, record_free}
use Rattle.rules_calls.specs.declared.Edit.{Edit}
use Rattle.rules_calls.specs.Edits.{refuse, tells, settle}
use Rattle.rules_calls.specs.Reach.{around, reach_checks, reach_of}
use Rattle.rules_calls.specs.Next.{next_number, next_checks, next_edit}
use Rattle.host_reach.specs.Held.{reach_in, reach_split}

-- ---- what was found

-- what is asked in order is asked of an attached device, whose home is an id
pub home-pos : (k : Kind) (a n x s : ℕ) → x ≡ first (reach_checks k a n) 0 → x ≡ 0 → s ≡ home_of k → (is_attached k ≡ true → 0 < home_of k) → 0 < s
unfolding reach_checks
home-pos k a n x s e z h f =
    let p = passed (reach_checks k a n) 0 (when false 0) (λ y. omega (arith, y), (λ y. omega (arith, y), (λ y. omega (arith, y), (λ y. omega (arith, y), tt)))) (sym e ∙ z) 1 (omega arith) in
    omega (arith, h, f (not-false (is_attached k) p))

-- a record of a good table ends in memory by U64MAX, also a released one
memory-last : (os : List Object) (m : Mapping) → record_ok os m ≡ true → m.memory + (m.length - 1) ≤ U64MAX
memory-last os m e =
    by-test (used m)
    (λ u. passes-false m.memory m.length (record_used os m u e).memory-ends)
    (λ u. let z = record_free os m u e in omega (arith, ap (λ (x : Mapping). x.memory) z, ap (λ (x : Mapping). x.length) z))

inside-place : (a n : ℕ) (m : Mapping) → a ≤ U64MAX → inside (span a n) (extent m) ≡ true → (m.address ≤ a) × (a ≤ m.address + (m.length - 1))
unfolding span extent last_of
inside-place a n m h e = (inside-from (span a n) (extent m) e, omega (arith, inside-upto (span a n) (extent m) e, span-some a n h))

module _ (os : List Object) (ms : List Mapping) (s a n : ℕ) (f : Option Mapping) (e : f ≡ around ms s (span a n)) where
  -- the address lies in the mapping found, and what stands for it in memory is below 2^64
  pub around-fits : (m : Mapping) → f ≡ Some m → a ≤ U64MAX → Each (λ m. record_ok os m ≡ true) ms → (m.address ≤ a) × (m.memory + (a - m.address) ≤ U64MAX)
  unfolding around
  around-fits m g h good =
      let found = sym e ∙ g in
      let test = find-some (λ m. of_space s m && inside (span a n) (extent m)) ms m found in
      let place = inside-place a n m h (and_right (of_space s m) (inside (span a n) (extent m)) test) in
      let last = memory-last os m (find-some_all (λ m. of_space s m && inside (span a n) (extent m)) (record_ok os) ms m found (all-Each (record_ok os) ms good)) in
      (place.0, omega (arith, place, last))

-- ---- the answer

module _ (os : List Object) (ms : List Mapping) (d a n : ℕ) (write : Bool) (o : Object) (p : o ≡ object_at os d) (x : ℕ) (q : x ≡ first (reach_checks o.kind a n) 0) where
  -- by the errno
  settled : (y z : ℕ) (r : Edit) → y ≡ z → (y ≡ 0 → ⊥) → refuse y ≡ settle z r
  settled y zero r e h = absurd (h e)
  settled y (suc z) r e h = ap refuse e

  taken : (y z : ℕ) (r : Edit) → y ≡ z → y ≡ 0 → r ≡ settle z r
  taken y zero r e h = refl
  taken y (suc z) r e h = absurd (omega arith)

  errno : x ≡ first (reach_checks (object_at os d).kind a n) 0
  errno = q ∙ ap (λ (o : Object). first (reach_checks o.kind a n) 0) p

  pub reach-refused : (x ≡ 0 → ⊥) → refuse x ≡ reach_of os ms d a n write
  reach-refused h = settled x (first (reach_checks (object_at os d).kind a n) 0) (reach_in a write (around ms (home_of (object_at os d).kind) (span a n))) errno h ∙ sym (reach_split os ms d a n write)

  module _ (s : ℕ) (i : Range) (f : Option Mapping) (z : x ≡ 0) (hs : s ≡ home_of o.kind) (hi : i ≡ span a n) (hf : f ≡ around ms s i) where
    same : (k : Option Mapping) → around ms s i ≡ k → reach_in a write k ≡ reach_of os ms d a n write
    same k g =
        ap (reach_in a write) (sym g ∙ ap (λ (j : Range). around ms s j) hi ∙ ap (λ (h : ℕ). around ms h (span a n)) (hs ∙ ap (λ (o : Object). home_of o.kind) p))
        ∙ taken x (first (reach_checks (object_at os d).kind a n) 0) (reach_in a write (around ms (home_of (object_at os d).kind) (span a n))) errno z
        ∙ sym (reach_split os ms d a n write)

    pub reach-nowhere : f ≡ None → refuse 14 ≡ reach_of os ms d a n write
    reach-nowhere g = same None (sym hf ∙ g)

    pub reach-found : (m : Mapping) (r : Edit) → f ≡ Some m → r ≡ reach_in a write (Some m) → r ≡ reach_of os ms d a n write
    reach-found m r g k = k ∙ same (Some m) (sym hf ∙ g)

-- ---- next

module _ (os : List Object) (ms : List Mapping) (s a : ℕ) (o : Object) (e : o ≡ object_at os s) (b : Bool) (eb : b ≡ is_space o.kind) where
  known : b ≡ space_at os s
  unfolding space_at
  known = eb ∙ ap (λ (x : Object). is_space x.kind) e

  pub next-refused : (r : Edit) → not b ≡ true → r ≡ refuse 2 → r ≡ next_edit os ms s a
  unfolding next_edit next_checks first
  next-refused r z q = q ∙ rw (← known, not-true b z)

  pub next-told : (r : Edit) (n : ℕ) → not b ≡ false → n ≡ next_number ms s a → r ≡ tells n → r ≡ next_edit os ms s a
  unfolding next_edit next_checks first
  next-told r n z h q = q ∙ rw (h, ← known, not-false b z)
