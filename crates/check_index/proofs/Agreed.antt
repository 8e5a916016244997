-- The verdict on an index by its parts, in the order in which the code asks for them.
use Prim.Native.Nat.{ℕ, ◌≤◌}
use mathlib.Core.Path.{◌≡◌, sym, ap, ◌∙◌}
use mathlib.Core.Bool.{Bool, true, false, ◌&&◌}
use mathlib.Core.List.{List}
use native.Mathlib.Omega.{arith}
use lib.Dec.{leb, eqb}
use lib.ListN.{length, drop, length-take}
use lib.ListN as ListN
use borrow.Author.Tests.{le-leb, eq-eqb, ne_eqb}
use Rattle.lists.specs.Tests.{and_both, and_not_left, and_not_right}
use Rattle.lists.specs.Search.{all}
use Rattle.lists.specs.Each.{Each-imp, Each-all, all-Each}
use Rattle.lists.specs.Sums.{count_of, count_of-length}
use Rattle.ranges.specs.Ranges.{U64MAX}
use Rattle.wire.specs.Fields.{zeros}
use Rattle.rules_table.specs.declared.Mapping.{Mapping}
use Rattle.rules_table.specs.Records.{used}
use Rattle.rules_index.specs.Index.{view, numbers_in, padded}
use Rattle.index.specs.Listing.{Lists, lists-each}
use Rattle.index.specs.Agreeing.{agrees-length, agrees-padded, lists_length, numbers-take}
use Rattle.index.specs.Touched.{sits}
use Rattle.index.specs.Verdict.{ascending, index_ok, ok-lists, ok-before, ok-agrees}
use Rattle.index_search.specs.Indexed.{Indexed}
use Rattle.check_index.specs.Placed.{placed}
use Rattle.check_index.specs.Listed.{zeros_from, Listed}
use Rattle.check_index.proofs.Climbing.{used-named, placed-ends}

-- records in use that keep their rules sit at an address
placed-sits : (xs : List ℕ) (ms : List Mapping) → Lists xs ms → all placed ms ≡ true → all sits (view xs ms) ≡ true
unfolding sits
placed-sits xs ms l e =
    all-Each sits (view xs ms)
    (lists-each xs ms l (λ m. sits m ≡ true)
    (Each-imp (λ m. placed m ≡ true) (λ m. used m ≡ true → sits m ≡ true) ms
    (λ m p u. and_both (used m) (leb m.address U64MAX) u (le-leb m.address U64MAX (omega (arith, placed-ends m p (used-named m u)))))
    (Each-all placed ms e)))

-- what the check asks is what a search asks
ok-indexed : (ix : List ℕ) (ms : List Mapping) → ListN.length ms ≡ 128 → all placed ms ≡ true → index_ok ix ms ≡ true → Indexed (ListN.length (numbers_in ix)) ix ms
ok-indexed ix ms n p e =
    let l = ok-lists ix ms e in
    record {
      counted = n;
      most = omega (arith, lists_length (numbers_in ix) ms l, count_of-length used ms, n);
      long = agrees-length ix ms (ok-agrees ix ms e);
      whole = agrees-padded ix ms (ok-agrees ix ms e) ∙ ap padded (sym (numbers-take ix));
      lists = rw (numbers-take ix) l;
      sit = rw (numbers-take ix) (placed-sits (numbers_in ix) ms l p);
      apart = rw (numbers-take ix) (ok-before ix ms e);
    }

pub numbers_fit : (ix : List ℕ) → length (numbers_in ix) ≤ length ix
numbers_fit ix = omega (arith, ap (λ (l : List ℕ). length l) (numbers-take ix), length-take (length (numbers_in ix)) ix)

module _ (ix : List ℕ) (ms : List Mapping) where
  abbrev Climb : Bool
  Climb = ascending (view (numbers_in ix) ms)

  abbrev Count : Bool
  Count = eqb (length (numbers_in ix)) (count_of used ms)

  abbrev Rest : Bool
  Rest = zeros (drop (length (numbers_in ix)) ix)

  pub listed-short : (length ix ≡ 128 → ⊥) → index_ok ix ms ≡ false
  unfolding index_ok
  listed-short h = and_not_left (eqb (length ix) 128) (Climb && (Count && Rest)) (ne_eqb (length ix) 128 h)

  pub listed-fallen : Climb ≡ false → index_ok ix ms ≡ false
  unfolding index_ok
  listed-fallen f = and_not_right (eqb (length ix) 128) (Climb && (Count && Rest)) (and_not_left Climb (Count && Rest) f)

  -- as many numbers as the pass told
  module _ (n : ℕ) (en : n ≡ length (numbers_in ix)) where
    pub listed-few : (k : ℕ) → k ≡ count_of used ms → (n ≡ k → ⊥) → index_ok ix ms ≡ false
    unfolding index_ok
    listed-few k ek h =
        and_not_right (eqb (length ix) 128) (Climb && (Count && Rest)) (and_not_right Climb (Count && Rest) (and_not_left Count Rest
        (ne_eqb (length (numbers_in ix)) (count_of used ms) (λ e. h (en ∙ e ∙ sym ek)))))

    -- the words behind
    module _ (from : ℕ) (b : Bool) (eb : b ≡ zeros_from from ix) (same : from ≡ n) where
      rest-is : (c : Bool) → b ≡ c → Rest ≡ c
      unfolding zeros_from
      rest-is c e = sym (eb ∙ ap (λ (k : ℕ). zeros (drop k ix)) (same ∙ en)) ∙ e

      pub listed-behind : b ≡ false → index_ok ix ms ≡ false
      unfolding index_ok
      listed-behind f = and_not_right (eqb (length ix) 128) (Climb && (Count && Rest)) (and_not_right Climb (Count && Rest) (and_not_right Count Rest (rest-is false f)))

      pub listed-good : Climb ≡ true → ListN.length ms ≡ 128 → all placed ms ≡ true → length ix ≡ 128 → n ≡ count_of used ms → b ≡ true → Listed ix ms n
      unfolding index_ok
      listed-good t many p long k f =
          let ok : index_ok ix ms ≡ true = rw (eq-eqb (length ix) 128 long, t, eq-eqb (length (numbers_in ix)) (count_of used ms) (sym en ∙ k)) (rest-is true f) in
          record { verdict = ok; indexed = rw en (ok-indexed ix ms many p ok) }
