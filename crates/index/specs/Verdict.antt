-- The verdict of the door: a good table and an agreeing index. `verdict-linear`: it is asked without comparing all pairs. The numbers name records in use, as many as are in use, neighbours end
-- one before the other, and that each is named once and no two mappings share an address follows.
use Rattle.std.specs.Prelude.{ℕ, ◌≡◌, refl, Bool, true, ◌&&◌, List, [], ◌∷◌, eqb, length, drop}
use Rattle.std.proofs.Common.{sym, ◌∙◌}
use borrow.Author.Tests.{eqb-true, eq-eqb}
use Rattle.lists.specs.Tests.{same_test, and_left, and_right, and_both}
use Rattle.lists.specs.Search.{all}
use Rattle.lists.specs.Each.{Each, Each-of, all-Each}
use Rattle.lists.specs.Sums.{count_of}
use Rattle.sorted.specs.Sorted.{ordered, linked, ordered-mono, all_true}
use Rattle.wire.specs.Fields.{zeros}
use Rattle.rules_table.specs.declared.Mapping.{Mapping}
use Rattle.rules_table.specs.declared.Table.{Table}
use Rattle.rules_table.specs.Records.{used}
use Rattle.rules_table.specs.Good.{good, apart, backings_agree, records_counted, limit_holds}
use Rattle.rules_index.specs.Index.{mapping_at, view, ahead, numbers_in, agrees}
use Rattle.table.specs.Checked.{objects_ok, records_ok, good-grouped}
use Rattle.index.specs.Listing.{Lists, lists-each}
use Rattle.index.specs.Agreeing.{agrees-length, agrees-rest, agrees-lists, lists_length, lists-bounded, lists-once}
use Rattle.index.specs.Touched.{before, before-ahead, before-linked, before-apart}
use Rattle.index.specs.Following.{good-before}
use Rattle.index.specs.Counted.{counted-lists}

-- the records are in use, and each ends before the next of its space begins
unfoldable pub ascending : List Mapping → Bool
ascending ls = all used ls && linked before ls

-- what the check asks of the index
unfoldable pub index_ok : List ℕ → List Mapping → Bool
index_ok ix ms =
    eqb (length ix) 128
    && (ascending (view (numbers_in ix) ms)
    && (eqb (length (numbers_in ix)) (count_of used ms)
    && zeros (drop (length (numbers_in ix)) ix)))

-- and of the table, but for pairs of mappings
unfoldable pub table_ok : Table → Bool
table_ok t = objects_ok t.objects && (records_ok t.objects t.mappings && (backings_agree t.mappings && (records_counted t && limit_holds t)))

-- ---- what the check asks gives an agreeing index, and no two share an address

module _ (ix : List ℕ) (ms : List Mapping) (e : index_ok ix ms ≡ true) where
  abbrev xs : List ℕ
  xs = numbers_in ix

  parts : (length ix ≡ 128) × (all used (view xs ms) ≡ true) × (linked before (view xs ms) ≡ true) × (length xs ≡ count_of used ms) × (zeros (drop (length xs) ix) ≡ true)
  unfolding index_ok ascending
  parts = (
    eqb-true (length ix) 128 (search and_left),
    search (and_left, and_right) depth 6,
    search (and_left, and_right) depth 6,
    eqb-true (length xs) (count_of used ms) (search (and_left, and_right) depth 6),
    search (and_left, and_right) depth 6,
  )

  pub ok-before : ordered before (view xs ms) ≡ true
  ok-before = sym (before-linked (view xs ms)) ∙ parts.2

  pub ok-lists : Lists xs ms
  ok-lists =
      counted-lists xs ms
      (ordered-mono (λ m. true) before ahead (view xs ms) (λ x y u v b. before-ahead x y b) (all_true (view xs ms)) ok-before)
      parts.1 parts.3

  pub ok-agrees : agrees ix ms ≡ true
  unfolding agrees
  ok-agrees = rw (eq-eqb (length ix) 128 parts.0, parts.4, lists-bounded xs ms ok-lists, lists-once xs ms ok-lists) ok-lists.order

  pub ok-apart : apart ms ≡ true
  ok-apart = before-apart xs ms ok-lists ok-before

pub agrees-ok : (ix : List ℕ) (t : Table) → good t ≡ true → agrees ix t.mappings ≡ true → index_ok ix t.mappings ≡ true
unfolding index_ok ascending
agrees-ok ix t g e =
    let ms = t.mappings in
    let xs = numbers_in ix in
    let l = agrees-lists ix ms e in
    let u : all used (view xs ms) ≡ true = all-Each used (view xs ms) (lists-each xs ms l (λ m. used m ≡ true) (Each-of (λ m. used m ≡ true → used m ≡ true) ms (λ m u. u))) in
    rw (eq-eqb (length ix) 128 (agrees-length ix ms e), u, before-linked (view xs ms) ∙ good-before t xs g l, eq-eqb (length xs) (count_of used ms) (lists_length xs ms l)) (agrees-rest ix ms e)

drop_apart : (o r b a c l : Bool) → (o && (r && (b && (a && (c && l))))) ≡ true → (o && (r && (b && (c && l)))) ≡ true
drop_apart o r b a c l e = search (and_left, and_right, and_both) depth 14

add_apart : (o r b a c l : Bool) → (o && (r && (b && (c && l)))) ≡ true → a ≡ true → (o && (r && (b && (a && (c && l))))) ≡ true
add_apart o r b a c l e f = search (and_left, and_right, and_both) depth 14

-- THE LAW of the check
pub verdict-linear : (t : Table) (ix : List ℕ) → (good t && agrees ix t.mappings) ≡ (table_ok t && index_ok ix t.mappings)
unfolding table_ok
verdict-linear t ix = same_test (good t && agrees ix t.mappings) (table_ok t && index_ok ix t.mappings) to back
  where
    to : (good t && agrees ix t.mappings) ≡ true → (table_ok t && index_ok ix t.mappings) ≡ true
    to e =
        let g = and_left (good t) (agrees ix t.mappings) e in
        let k = sym (good-grouped t) ∙ g in
        and_both (table_ok t) (index_ok ix t.mappings) (drop_apart (objects_ok t.objects) (records_ok t.objects t.mappings) (backings_agree t.mappings) (apart t.mappings) (records_counted t) (limit_holds t) k)
        (agrees-ok ix t g (and_right (good t) (agrees ix t.mappings) e))

    back : (table_ok t && index_ok ix t.mappings) ≡ true → (good t && agrees ix t.mappings) ≡ true
    back e =
        let k = and_left (table_ok t) (index_ok ix t.mappings) e in
        let i = and_right (table_ok t) (index_ok ix t.mappings) e in
        and_both (good t) (agrees ix t.mappings)
        (good-grouped t ∙ add_apart (objects_ok t.objects) (records_ok t.objects t.mappings) (backings_agree t.mappings) (apart t.mappings) (records_counted t) (limit_holds t) k (ok-apart ix t.mappings i))
        (ok-agrees ix t.mappings i)

-- ---- records that are not listed play no part

pub unlisted : (xs : List ℕ) (ms ns : List Mapping) → Each (λ r. mapping_at ms r ≡ mapping_at ns r) xs → view xs ms ≡ view xs ns
unfolding view
unlisted [] ms ns h = refl
unlisted (x ∷ xs) ms ns h = rw (h.0, unlisted xs ms ns h.1)
