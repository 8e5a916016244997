-- The verdict as facts, so that the code may ask them one after the other.
use Rattle.std.specs.Prelude.{Option, None, Some}
use Prim.Native.Nat.{ℕ, ◌≤◌, ◌<◌, ◌^◌}
use mathlib.Core.Path.{◌≡◌, sym, ap, ◌∙◌}
use mathlib.Core.Bool.{Bool, true, false, not, ◌&&◌, ◌||◌}
use mathlib.Core.List.{List}
use native.Mathlib.Omega.{arith}
use lib.Dec.{leb, eqb}
use lib.ListN.{get_or}
use lib.ListN as ListN
use borrow.Author.Tests.{leb-true, le-leb, eqb-true, eq-eqb}
use Rattle.lists.specs.Tests.{by-test, contrary, and_left, and_right, and_both}
use Rattle.lists.specs.Search.{all, all-and, all-cong, all-mono}
use Rattle.rules_table.specs.declared.Object.{Object}
use Rattle.rules_table.specs.declared.Mapping.{Mapping}
use Rattle.rules_table.specs.Records.{used, can_write}
use Rattle.rules_table.specs.Spaces.{reserved_of}
use Rattle.rules_table.specs.Charge.{charge, free_record}
use Rattle.rules_table.specs.Good.{when_used, clear_of, length_fits, rights_fit, ends_fit, aligned_to, mapping_zero, backings_agree, records_counted, limit_holds, good}
use Rattle.table.specs.Checked.{objects_ok, record_ok, records_ok, page_at, record_alone, record_split}
use Rattle.table.specs.Sound.{good-sound}
use Rattle.rules_calls.specs.Gate.{table_with}
use Rattle.rules_index.specs.Index.{agrees}
use Rattle.index.specs.Verdict.{table_ok, index_ok, verdict-linear}
use Rattle.check_objects.specs.Pages.{Pages}
use Rattle.check_index.specs.Placed.{placed}
use Rattle.check_index.specs.Listed.{Listed}
use Rattle.check_mappings.specs.declared.Pass.{Pass}
use Rattle.check_mappings.specs.Told.{alone_by, agreed}
use Rattle.check_table.specs.Known.{Passes, Judged, Checked}

-- each record by itself, and clear of what is reserved
abbrev Alone : List Object → List Mapping → Bool
Alone os ms = all (λ m. record_alone (page_at os m.space) m) ms

abbrev Clear : List Object → List Mapping → Bool
Clear os ms = all (λ m. when_used (clear_of (reserved_of os m.space)) m) ms

records-two : (os : List Object) (ms : List Mapping) → records_ok os ms ≡ (Alone os ms && Clear os ms)
unfolding records_ok
records-two os ms =
    all-cong (record_ok os) (λ m. record_alone (page_at os m.space) m && when_used (clear_of (reserved_of os m.space)) m) ms (record_split os)
    ∙ all-and (λ m. record_alone (page_at os m.space) m) (λ m. when_used (clear_of (reserved_of os m.space)) m) ms

-- ---- the verdict as facts

record Facts (limit : ℕ) (os : List Object) (ms : List Mapping) (ix : List ℕ) : Type 0 where
  objects : objects_ok os ≡ true
  alone : Alone os ms ≡ true
  clear : Clear os ms ≡ true
  agree : backings_agree ms ≡ true
  many : ListN.length ms ≡ 128
  places : ListN.length os ≡ 32
  most : limit ≤ 2 ^ 36
  charged : charge ms ≤ limit
  index : index_ok ix ms ≡ true

module _ (limit : ℕ) (os : List Object) (ms : List Mapping) (ix : List ℕ) where
  parts : (good (table_with limit os ms) && agrees ix ms)
      ≡ ((objects_ok os && ((Alone os ms && Clear os ms) && (backings_agree ms && (records_counted (table_with limit os ms) && limit_holds (table_with limit os ms))))) && index_ok ix ms)
  unfolding table_ok
  parts = verdict-linear (table_with limit os ms) ix ∙ rw (records-two os ms)

  facts_of : (good (table_with limit os ms) && agrees ix ms) ≡ true → Facts limit os ms ix
  unfolding records_counted limit_holds
  facts_of v =
      let e = sym parts ∙ v in
      record {
        objects = search (and_left, and_right) depth 9;
        alone = search (and_left, and_right) depth 9;
        clear = search (and_left, and_right) depth 9;
        agree = search (and_left, and_right) depth 9;
        many = eqb-true (ListN.length ms) 128 (search (and_left, and_right) depth 9);
        places = eqb-true (ListN.length os) 32 (search (and_left, and_right) depth 9);
        most = leb-true limit (2 ^ 36) (search (and_left, and_right) depth 9);
        charged = leb-true (charge ms) limit (search (and_left, and_right) depth 9);
        index = search (and_left, and_right) depth 9;
      }

  of_facts : Facts limit os ms ix → (good (table_with limit os ms) && agrees ix ms) ≡ true
  unfolding records_counted limit_holds
  of_facts f =
      parts
      ∙ rw (
        f.objects,
        f.alone,
        f.clear,
        f.agree,
        eq-eqb (ListN.length ms) 128 f.many,
        eq-eqb (ListN.length os) 32 f.places,
        le-leb limit (2 ^ 36) f.most,
        le-leb (charge ms) limit f.charged,
        f.index,
      )

-- a record that keeps its rules has an address and ends by U64MAX
alone-placed : (page : ℕ) (m : Mapping) → record_alone page m ≡ true → placed m ≡ true
unfolding record_alone placed when_used
alone-placed page m e = by-test (used m) (λ u. rw u (fits (rw u at e))) (λ u. rw u)
  where
    fits : (mapping_zero m && (not (eqb page 0) && (length_fits m && (rights_fit m && (ends_fit m && (aligned_to page m
        && (leb m.founder 1 && (not (can_write m) || eqb m.founder 1) && (leb 1 m.backing && leb m.backing 128)))))))) ≡ true
        → (length_fits m && ends_fit m) ≡ true
    fits e = and_both (length_fits m) (ends_fit m) (search (and_left, and_right) depth 9) (search (and_left, and_right) depth 9)

-- ---- what the passes told, and each test after them

module _ (limit : ℕ) (os : List Object) (ms : List Mapping) (ix : List ℕ) where
  failed : (Facts limit os ms ix → ⊥) → false ≡ (good (table_with limit os ms) && agrees ix ms)
  failed h = by-test (good (table_with limit os ms) && agrees ix ms) (λ t. absurd (h (facts_of limit os ms ix t))) (λ t. sym t)

  unchecked : (Facts limit os ms ix → ⊥) → (pages marks : List ℕ) → Checked limit os ms ix pages marks None
  unchecked h pages marks = record { verdict = failed h; known = tt }

  refused : (Facts limit os ms ix → ⊥) → Judged limit os ms ix None
  refused h = record { verdict = failed h; indexed = tt }

  pub objects-bad : objects_ok os ≡ false → (pages marks : List ℕ) → Checked limit os ms ix pages marks None
  objects-bad e = unchecked (λ f. contrary (objects_ok os) f.objects e)

  -- the alignments of the spaces, looked up
  alone-by : (pages : List ℕ) → Pages os pages → all (alone_by pages) ms ≡ Alone os ms
  alone-by pages a = all-cong (alone_by pages) (λ m. record_alone (page_at os m.space) m) ms (λ m. ap (λ (n : ℕ). record_alone n m) (a.page m.space))

  pub records-bad : (pages : List ℕ) → Pages os pages → agreed pages ms ≡ false → (marks : List ℕ) → Checked limit os ms ix pages marks None
  records-bad pages a e = unchecked (λ f. contrary (agreed pages ms) (rw (alone-by pages a, f.alone, f.agree)) e) pages

  pub judged-bad : Judged limit os ms ix None → (pages marks : List ℕ) → Checked limit os ms ix pages marks None
  judged-bad j pages marks = record { verdict = j.verdict; known = tt }

  module _ (p : Pass) (w : Passes os ms p) where
    pub limit-low : limit < p.charge → Judged limit os ms ix None
    limit-low h = refused (λ f. omega (arith, f.charged, w.mappings.charge, h))

    pub limit-high : 2 ^ 36 < limit → Judged limit os ms ix None
    limit-high h = refused (λ f. omega (arith, f.most, h))

    -- what the check of the index asks first
    pub records-placed : all placed ms ≡ true
    records-placed =
        all-mono (alone_by w.pages) placed ms (λ m. alone-placed (get_or w.pages m.space 0) m)
        (and_left (all (alone_by w.pages) ms) (backings_agree ms) w.mappings.good)

    pub index-bad : index_ok ix ms ≡ false → Judged limit os ms ix None
    index-bad b = refused (λ f. contrary (index_ok ix ms) f.index b)

    module _ (r : Bool) (cleared : r ≡ Clear os ms) where
      pub reserved-bad : r ≡ false → Judged limit os ms ix None
      reserved-bad b = refused (λ f. contrary r (cleared ∙ f.clear) b)

      -- every test was passed
      pub all-good : (n : ℕ) → Listed ix ms n → r ≡ true → ListN.length ms ≡ 128 → ListN.length os ≡ 32 → limit ≤ 2 ^ 36 → p.charge ≤ limit
          → Judged limit os ms ix (Some n)
      all-good n e k many o m c = record {
        verdict = sym (of_facts limit os ms ix record {
          objects = w.objects;
          alone = sym (alone-by w.pages w.aligned) ∙ and_left (all (alone_by w.pages) ms) (backings_agree ms) w.mappings.good;
          clear = sym cleared ∙ k;
          agree = and_right (all (alone_by w.pages) ms) (backings_agree ms) w.mappings.good;
          many = many;
          places = o;
          most = m;
          charged = omega (arith, w.mappings.charge, c);
          index = e.verdict;
        });
        indexed = e.indexed;
      }

    -- what is handed on of a good table
    pub is-checked : ListN.length ms ≡ 128 → ListN.length w.marks ≡ 129 → (object : Option ℕ) → object ≡ free_record os → (n : ℕ) → Judged limit os ms ix (Some n)
        → Checked limit os ms ix w.pages w.marks (Some (record { object = object; mappings = p; listed = n }))
    is-checked many marked object e n j =
        record {
          verdict = j.verdict;
          known = record {
            objects = w.objects;
            records = (good-sound (table_with limit os ms) (and_left (good (table_with limit os ms)) (agrees ix ms) (sym j.verdict))).records;
            many = many;
            object = e;
            aligned = w.aligned;
            marked = marked;
            told = w.mappings;
            indexed = j.indexed;
          };
        }
