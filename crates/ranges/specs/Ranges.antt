-- Intervals with an inclusive last address (document 01, "Commands and their bytes"), said once for mappings, reserved ranges and allow lists.
-- A range whose start is above its last holds no address. The laws after each definition, and in proofs/Spans, pin it to the addresses that a range holds.
use Rattle.std.specs.Prelude.{ℕ, suc, ◌+◌, ◌-◌, ◌≤◌, min, max, ◌≡◌, Bool, true, false, ◌&&◌, ltb}
use native.Mathlib.Omega.{arith}
use Rattle.std.proofs.Math.Dec.{leb}
use borrow.Author.Tests.{leb-true, ltb-false, le-leb, lt-leb}
use Rattle.lists.specs.Tests.{contrary, same_test, leb_iff, and_left, and_right, and_both}
use Rattle.ranges.specs.declared.Range.{Range}

abbrev pub U64MAX : ℕ
U64MAX = 0xFFFF_FFFF_FFFF_FFFF

abbrev pub range : ℕ → ℕ → Range
range s l = record { start = s; last = l }

-- the address a lies in r
unfoldable pub holds : Range → ℕ → Bool
holds r a = leb r.start a && leb a r.last

module _ (r : Range) (a : ℕ) where
  pub holds-from : holds r a ≡ true → r.start ≤ a
  unfolding holds
  holds-from e = leb-true r.start a (and_left (leb r.start a) (leb a r.last) e)

  pub holds-upto : holds r a ≡ true → a ≤ r.last
  unfolding holds
  holds-upto e = leb-true a r.last (and_right (leb r.start a) (leb a r.last) e)

  pub holds_of : r.start ≤ a → a ≤ r.last → holds r a ≡ true
  unfolding holds
  holds_of h k = and_both (leb r.start a) (leb a r.last) (le-leb r.start a h) (le-leb a r.last k)

-- ---- two ranges share an address

-- what both hold starts at the higher start and ends at the lower last
unfoldable pub shared_start : Range → Range → ℕ
shared_start r q = max r.start q.start

unfoldable pub shared_last : Range → Range → ℕ
shared_last r q = min r.last q.last

unfoldable pub share : Range → Range → Bool
share r q = leb (shared_start r q) (shared_last r q)

module _ (r q : Range) where
  -- an address in both, from the test
  pub share-address : share r q ≡ true → (a : ℕ) × (holds r a ≡ true) × (holds q a ≡ true)
  unfolding share shared_start shared_last
  share-address e =
      let h = leb-true (shared_start r q) (shared_last r q) e in
      (shared_start r q, holds_of r (shared_start r q) (omega arith) (omega arith), holds_of q (shared_start r q) (omega arith) (omega arith))

  -- and the test, from an address in both
  pub share-of : (a : ℕ) → holds r a ≡ true → holds q a ≡ true → share r q ≡ true
  unfolding share shared_start shared_last
  share-of a h k = le-leb (shared_start r q) (shared_last r q) (omega (arith, holds-from r a h, holds-upto r a h, holds-from q a k, holds-upto q a k))

  pub share-false : (a : ℕ) → share r q ≡ false → holds r a ≡ true → holds q a ≡ true → ⊥
  share-false a e h k = contrary (share r q) (share-of a h k) e

  pub share-comm : share r q ≡ share q r
  unfolding share shared_start shared_last
  share-comm = leb_iff (shared_start r q) (shared_last r q) (shared_start q r) (shared_last q r) (λ h. omega arith) (λ h. omega arith)

  -- between two ranges that each hold an address, the test is that neither ends before the other starts
  pub share-ends : r.start ≤ r.last → q.start ≤ q.last → share r q ≡ (leb r.start q.last && leb q.start r.last)
  unfolding share shared_start shared_last
  share-ends h k =
      same_test (share r q) (leb r.start q.last && leb q.start r.last)
      (λ e. let m = leb-true (shared_start r q) (shared_last r q) e in and_both (leb r.start q.last) (leb q.start r.last) (le-leb r.start q.last (omega arith)) (le-leb q.start r.last (omega arith)))
      (λ e.
      let m = leb-true r.start q.last (and_left (leb r.start q.last) (leb q.start r.last) e) in
      let n = leb-true q.start r.last (and_right (leb r.start q.last) (leb q.start r.last) e) in
      le-leb (shared_start r q) (shared_last r q) (omega arith))

-- two neighbours share none
pub neighbours_apart : (s a l : ℕ) → share (range s a) (range (suc a) l) ≡ false
unfolding share shared_start shared_last
neighbours_apart s a l = lt-leb (shared_start (range s a) (range (suc a) l)) (shared_last (range s a) (range (suc a) l)) (omega arith)

-- ---- r lies wholly inside q

unfoldable pub inside : Range → Range → Bool
inside r q = leb q.start r.start && leb r.last q.last

module _ (r q : Range) where
  pub inside-from : inside r q ≡ true → q.start ≤ r.start
  unfolding inside
  inside-from e = leb-true q.start r.start (and_left (leb q.start r.start) (leb r.last q.last) e)

  pub inside-upto : inside r q ≡ true → r.last ≤ q.last
  unfolding inside
  inside-upto e = leb-true r.last q.last (and_right (leb q.start r.start) (leb r.last q.last) e)

  -- every address of r is in q
  pub inside-holds : (a : ℕ) → inside r q ≡ true → holds r a ≡ true → holds q a ≡ true
  inside-holds a e h = holds_of q a (omega (arith, inside-from e, holds-from r a h)) (omega (arith, inside-upto e, holds-upto r a h))

  -- and where r holds an address, that makes the test
  pub inside_of : r.start ≤ r.last → ((a : ℕ) → holds r a ≡ true → holds q a ≡ true) → inside r q ≡ true
  unfolding inside
  inside_of h f =
      and_both (leb q.start r.start) (leb r.last q.last)
      (le-leb q.start r.start (holds-from q r.start (f r.start (holds_of r r.start (omega arith) h))))
      (le-leb r.last q.last (holds-upto q r.last (f r.last (holds_of r r.last h (omega arith)))))

-- ---- a start and a length

-- start + length - 1 is past U64MAX
unfoldable pub passes : ℕ → ℕ → Bool
passes start length = ltb U64MAX (start + (length - 1))

-- start + length - 1, held to U64MAX. A length of 0 counts as 1: every rule refuses it before it asks for a last address
unfoldable pub last_of : ℕ → ℕ → ℕ
last_of start length = min (start + (length - 1)) U64MAX

-- the addresses of length bytes from start on
unfoldable pub span : ℕ → ℕ → Range
span start length = range start (last_of start length)

module _ (s n : ℕ) where
  pub passes-false : passes s n ≡ false → s + (n - 1) ≤ U64MAX
  unfolding passes
  passes-false e = ltb-false U64MAX (s + (n - 1)) e

  pub last_of-max : last_of s n ≤ U64MAX
  unfolding last_of
  last_of-max = omega arith

  pub span-some : s ≤ U64MAX → s ≤ last_of s n
  unfolding last_of
  span-some h = omega arith
