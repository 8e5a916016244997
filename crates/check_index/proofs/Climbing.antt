-- The records of an index as the pass reads them: each is in use and begins past the space and the last address of the one before.
use Prim.Native.Nat.{ℕ, suc, ◌+◌, ◌-◌, ◌≤◌, ◌<◌}
use mathlib.Core.Path.{◌≡◌, refl, sym, ◌∙◌}
use mathlib.Core.Bool.{Bool, true, false, ◌&&◌}
use mathlib.Core.List.{List, [], ◌∷◌}
use native.Mathlib.Omega.{arith}
use lib.Dec.{eqb}
use borrow.Author.Tests.{ltb-true, eqb-false, ne_eqb, not-true}
use Rattle.lists.specs.Tests.{by-test, and_left, and_right}
use Rattle.lists.specs.Search.{all}
use Rattle.ranges.specs.Ranges.{U64MAX, last_of, passes, passes-false}
use Rattle.sorted.specs.Sorted.{linked, follows}
use Rattle.rules_table.specs.declared.Mapping.{Mapping}
use Rattle.rules_table.specs.Records.{used}
use Rattle.rules_table.specs.Good.{when_used, length_fits, ends_fit}
use Rattle.rules_index.specs.Index.{lex}
use Rattle.index.specs.Listing.{lex-less}
use Rattle.index.specs.Touched.{before, end_of}
use Rattle.index.specs.Verdict.{ascending}
use Rattle.check_index.specs.Placed.{placed}

-- ---- a record by itself

-- by numbers
pub named-used : (m : Mapping) → 0 < m.space → used m ≡ true
unfolding used
named-used m h = rw (ne_eqb m.space 0 (λ e. omega (arith, e)))

pub used-named : (m : Mapping) → used m ≡ true → 0 < m.space
unfolding used
used-named m e = let n = eqb-false m.space 0 (not-true (eqb m.space 0) e) in omega (arith, n)

placed-fits : (m : Mapping) → placed m ≡ true → used m ≡ true → (length_fits m && ends_fit m) ≡ true
unfolding placed when_used
placed-fits m e u = sym (rw u) ∙ e

module _ (m : Mapping) (e : placed m ≡ true) (h : 0 < m.space) where
  pub placed-some : 0 < m.length
  unfolding length_fits
  placed-some = let f = placed-fits m e (named-used m h) in ltb-true 0 m.length (search (and_left, and_right))

  pub placed-ends : m.address + (m.length - 1) ≤ U64MAX
  unfolding ends_fit
  placed-ends = let f = placed-fits m e (named-used m h) in passes-false m.address m.length (not-true (passes m.address m.length) (search (and_left, and_right)))

  pub end_is : (r : ℕ) → r ≡ m.address + (m.length - 1) → r ≡ end_of m
  unfolding end_of last_of
  end_is r f = omega (arith, f, placed-ends)

-- ---- a list of records

unfoldable pub climbing : ℕ → ℕ → List Mapping → Bool
climbing s e [] = true
climbing s e (m ∷ ms) = used m && (lex s (suc e) m.space m.address && climbing m.space (end_of m) ms)

swap : (a b c d : Bool) → (a && (b && (c && d))) ≡ ((a && c) && (b && d))
swap true true c d = refl
swap true false true d = refl
swap true false false d = refl
swap false b c d = refl

-- behind a record
climbing-after : (x : Mapping) (ms : List Mapping) → climbing x.space (end_of x) ms ≡ (all used ms && linked before (x ∷ ms))
unfolding climbing all linked follows before
climbing-after x [] = refl
climbing-after x (m ∷ ms) =
    rw (climbing-after m ms) (swap (used m) (before x m) (all used ms) (linked before (m ∷ ms)))

-- from the end of space 0 on
pub climbing-is : (e : ℕ) (ms : List Mapping) → climbing 0 e ms ≡ ascending ms
unfolding climbing ascending all linked
climbing-is e [] = refl
climbing-is e (m ∷ ms) =
    by-test (used m)
    (λ u. rw (u, lex-less 0 (suc e) m.space m.address (used-named m u)) (climbing-after m ms))
    (λ u. rw u)
