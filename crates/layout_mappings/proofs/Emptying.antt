-- The words of a record are zero exactly where it is released and holds nothing.
use Prim.Native.Nat.{ℕ, ◌<◌, ◌^◌}
use mathlib.Core.Path.{◌≡◌, refl}
use mathlib.Core.Bool.{Bool, true, false, not, ◌&&◌}
use mathlib.Core.List.{List}
use native.Mathlib.Omega.{arith}
use lib.Dec.{eqb}
use lib.ListN.{get_or}
use borrow.Author.Tests.{eqb-true, eq-eqb}
use Rattle.lists.specs.Tests.{same_test, and_left, and_right}
use Rattle.rules_table.specs.Records.{used}
use Rattle.rules_table.specs.Words.{low, high}
use Rattle.records.specs.Alone.{zero_fields}
use Rattle.layout_mappings.specs.Words.{record_of, is_empty}

-- both halves of a word are zero
halves : (w : ℕ) → w < 2 ^ 64 → low w ≡ 0 → high w ≡ 0 → w ≡ 0
halves w h a b = omega (arith, h, a, b)

-- the test of the code
abbrev pub all_zero : List ℕ → Bool
all_zero w = eqb (get_or w 0 0) 0 && (eqb (get_or w 1 0) 0 && (eqb (get_or w 2 0) 0 && (eqb (get_or w 3 0) 0 && eqb (get_or w 4 0) 0)))

module _ (w : List ℕ) where
  -- what an empty record tells of its words
  parts : is_empty (record_of w) ≡ true
      → (low (get_or w 0 0) ≡ 0) × (high (get_or w 0 0) ≡ 0) × (low (get_or w 1 0) ≡ 0) × (high (get_or w 1 0) ≡ 0) × (get_or w 2 0 ≡ 0) × (get_or w 3 0 ≡ 0) × (get_or w 4 0 ≡ 0)
  unfolding is_empty used zero_fields
  parts e = (
    eqb-true (low (get_or w 0 0)) 0 (double (eqb (low (get_or w 0 0)) 0) (search and_left)),
    eqb-true (high (get_or w 0 0)) 0 (search (and_left, and_right) depth 8),
    eqb-true (low (get_or w 1 0)) 0 (search (and_left, and_right) depth 8),
    eqb-true (high (get_or w 1 0)) 0 (search (and_left, and_right) depth 8),
    eqb-true (get_or w 2 0) 0 (search (and_left, and_right) depth 8),
    eqb-true (get_or w 3 0) 0 (search (and_left, and_right) depth 8),
    eqb-true (get_or w 4 0) 0 (search (and_left, and_right) depth 8),
  )
    where
      double : (b : Bool) → not (not b) ≡ true → b ≡ true
      double true e = refl
      double false e = e

  rest-empty : all_zero w ≡ true → is_empty (record_of w) ≡ true
  unfolding is_empty used zero_fields
  rest-empty e =
      let z : get_or w 0 0 ≡ 0 = eqb-true (get_or w 0 0) 0 (search and_left) in
      let a : get_or w 1 0 ≡ 0 = eqb-true (get_or w 1 0) 0 (search (and_left, and_right)) in
      let b : get_or w 2 0 ≡ 0 = eqb-true (get_or w 2 0) 0 (search (and_left, and_right)) in
      let c : get_or w 3 0 ≡ 0 = eqb-true (get_or w 3 0) 0 (search (and_left, and_right) depth 8) in
      let d : get_or w 4 0 ≡ 0 = eqb-true (get_or w 4 0) 0 (search (and_left, and_right) depth 8) in
      rw (z, a, b, c, d)

  empty-rest : get_or w 0 0 < 2 ^ 64 → get_or w 1 0 < 2 ^ 64 → is_empty (record_of w) ≡ true → all_zero w ≡ true
  empty-rest g h e =
      let p = parts e in
      rw (eq-eqb (get_or w 0 0) 0 (halves (get_or w 0 0) g p.0 p.1), eq-eqb (get_or w 1 0) 0 (halves (get_or w 1 0) h p.2 p.3), eq-eqb (get_or w 2 0) 0 p.4, eq-eqb (get_or w 3 0) 0 p.5, eq-eqb (get_or w 4 0) 0 p.6)

  pub empty-words : get_or w 0 0 < 2 ^ 64 → get_or w 1 0 < 2 ^ 64 → all_zero w ≡ is_empty (record_of w)
  empty-words g h = same_test (all_zero w) (is_empty (record_of w)) rest-empty (empty-rest g h)
