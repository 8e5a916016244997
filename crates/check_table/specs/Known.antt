-- What the check has found of a good table: everything that a call asks of the table as a whole.
use Rattle.std.specs.Prelude.{ℕ, zero, suc, ◌<◌, max, ◌≡◌, refl, true, false, cond, ◌&&◌, List, [], ◌∷◌, eqb, length, Option, is_some, IfSome}
use Rattle.std.proofs.Common.{sym, ap, ◌∙◌, arith, eqb-true}
use Rattle.std.proofs.Math.ListN.{get_or}
use Rattle.std.proofs.Props.{props}
use Rattle.std.specs.Coded.{×_prop, Unit-prop}
use Rattle.lists.specs.Tests.{by-test, contrary, and_left}
use Rattle.lists.specs.Search.{all-at}
use Rattle.lists.specs.Each.{Each}
use Rattle.rules_table.specs.declared.Object.{Object}
use Rattle.rules_table.specs.declared.Mapping.{Mapping}
use Rattle.alignment.specs.Pages.{smallest_page}
use Rattle.alignment.specs.Highest.{highest}
use Rattle.rules_table.specs.declared.Kind.{Kind}
use Rattle.rules_table.specs.declared.Attachment.TheVariants.{Loose, Attached}
use Rattle.rules_table.specs.declared.Kind.TheVariants.{Free, Space, Device}
use Rattle.rules_table.specs.Records.{object_at, space_at, attached_to, zero_object}
use Rattle.rules_table.specs.Spaces.{page_for, alignment}
use Rattle.rules_table.specs.Charge.{free_record}
use Rattle.rules_table.specs.Good.{device_names, device_valid, list_valid, list_clear, object_zero, good}
use Rattle.rules_table.specs.declared.Table.{Table}
use Rattle.rules_table.specs.Layout.{table_of}
use Rattle.rules_table.specs.Words.{head_in, objects_in}
use Rattle.rules_calls.specs.Gate.{table_with}
use Rattle.table.specs.Aligned.{alignment-pos}
use Rattle.table.specs.Checked.{object_ok, objects_ok, record_ok, kind_names, page_at}
use Rattle.rules_index.specs.Index.{agrees}
use Rattle.index_search.specs.Indexed.{Indexed}
use Rattle.check_objects.specs.Pages.{Pages}
use Rattle.check_mappings.specs.declared.Pass.{Pass}
use Rattle.check_mappings.specs.Told.{Told, page_of}
use Rattle.check_table.specs.declared.Findings.{Findings}

-- what the passes over good objects and over good mapping records told
pub record Passes (os : List Object) (ms : List Mapping) (p : Pass) : Type 0 where
  pub pages : List ℕ
  pub marks : List ℕ
  pub objects : objects_ok os ≡ true
  pub aligned : Pages os pages
  pub mappings : Told pages ms p marks

-- the verdict, and of a good one all that a search of the index asks
pub record Judged (limit : ℕ) (os : List Object) (ms : List Mapping) (ix : List ℕ) (o : Option ℕ) : Type 0 where
  pub verdict : is_some o ≡ (good (table_with limit os ms) && agrees ix ms)
  pub indexed : IfSome o (λ n. Indexed n ix ms)

-- good objects and 128 records that keep their rules; the lowest free object record, the alignments of the spaces, the pass over the records with the marks of the backings, the index
pub record Known (os : List Object) (ms : List Mapping) (ix pages marks : List ℕ) (f : Findings) : Type 0 where
  pub objects : objects_ok os ≡ true
  pub records : Each (λ m. record_ok os m ≡ true) ms
  pub many : length ms ≡ 128
  pub object : f.object ≡ free_record os
  pub aligned : Pages os pages
  pub marked : length marks ≡ 129
  pub told : Told pages ms f.mappings marks
  pub indexed : Indexed f.listed ix ms

-- no two proofs of it differ
pub kept-prop : (os : List Object) (ms : List Mapping) → IsProp (Each (λ m. record_ok os m ≡ true) ms)
kept-prop os [] = Unit-prop
kept-prop os (m ∷ ms) = ×_prop (Prim.hlevel props) (kept-prop os ms)

pub record Checked (limit : ℕ) (os : List Object) (ms : List Mapping) (ix pages marks : List ℕ) (o : Option Findings) : Type 0 where
  pub verdict : is_some o ≡ (good (table_with limit os ms) && agrees ix ms)
  pub known : IfSome o (λ f. Known os ms ix pages marks f)

no-page : (os : List Object) → 0 ≡ page_at os 0
unfolding page_at space_at object_at
no-page os = refl

-- the alignment of a space, as it is read
pub page-is : (os : List Object) (pages : List ℕ) → Pages os pages → (s : ℕ) → page_of pages s ≡ page_at os s
unfolding page_of
page-is os pages h s = by-test (eqb s 0) (λ e. rw e (no-page os ∙ ap (page_at os) (sym (eqb-true s 0 e)))) (λ e. rw e (h.page s))

-- an id with an alignment is that of a space: 0 is none
pub page-some : (os : List Object) (s t r : ℕ) → r ≡ page_at os s → s ≡ t → 0 < r → 0 < t
page-some os zero t r e q h = absurd (omega (arith, e ∙ sym (no-page os), h))
page-some os (suc s) t r e q h = omega (arith, q)

-- ---- the alignment of an id that is no space is 1: no device of a good table is attached to it

one-for : (os : List Object) (s : ℕ) (k : Kind) (bitmap : ℕ) → space_at os s ≡ false → kind_names os k ≡ true → cond (attached_to s k) (smallest_page bitmap) 1 ≡ 1
one-for os s Free bitmap f n = refl
one-for os s Space bitmap f n = refl
one-for os s (Device Loose) bitmap f n = refl
one-for os s (Device (Attached h)) bitmap f n =
    by-test (eqb h s) (λ e. contrary (space_at os s) (ap (space_at os) (sym (eqb-true h s e)) ∙ n) f) (λ e. rw e)

highest-one : (p : Object → ℕ) (os : List Object) → ((i : ℕ) → i < length os → p (get_or os i zero_object) ≡ 1) → highest p os ≡ 1
unfolding highest
highest-one p [] h = refl
highest-one p (o ∷ os) h = omega (arith, h 0 (omega arith), highest-one p os (λ i l. h (suc i) (omega (arith, l))))

module _ (os : List Object) (good : objects_ok os ≡ true) (s : ℕ) where
  names : (i : ℕ) → i < length os → kind_names os (get_or os i zero_object).kind ≡ true
  unfolding objects_ok object_ok device_names
  names i l =
      let o = get_or os i zero_object in
      and_left (device_names os o) (device_valid o && (list_valid o && (list_clear os o && object_zero o))) (all-at (object_ok os) os zero_object good i l)

  alone : space_at os s ≡ false → alignment os s ≡ 1
  unfolding alignment page_for
  alone f = highest-one (page_for s) os (λ i l. one-for os s (get_or os i zero_object).kind (get_or os i zero_object).bitmap f (names i l))

  -- THE LAW: the alignment of any id, from what is read of a space
  pub page-higher : max (page_at os s) 1 ≡ alignment os s
  unfolding page_at
  page-higher =
      by-test (space_at os s)
      (λ e. rw e (omega (arith, alignment-pos os s)))
      (λ e. rw e (sym (alone e)))

-- ---- the table in words

-- the table that the words are
pub table_is : (h : List ℕ) (ms : List Mapping) → table_with (head_in h).limit (objects_in h) ms ≡ table_of (head_in h) ms
unfolding table_of
table_is h ms = refl

-- and one by value that was made words
pub table-back : (t : Table) (h : List ℕ) (ms : List Mapping) → objects_in h ≡ t.objects → (head_in h).limit ≡ t.limit → ms ≡ t.mappings → table_of (head_in h) ms ≡ t
table-back t h ms eo el em = sym (table_is h ms) ∙ rw (eo, el, em)
