-- What an accepted MAP, COPY or UNMAP did, spelled out: which record, which mapping, which bytes.
use Rattle.std.specs.Prelude.{ℕ, ◌≡◌, refl, true, Option, None, Some}
use Rattle.std.proofs.Common.{sym, ap, ◌∙◌}
use Rattle.lists.specs.Tests.{contrary}
use Rattle.lists.specs.Checks.{first}
use Rattle.rules_table.specs.Flags.{bit}
use Rattle.rules_table.specs.declared.Mapping.{Mapping}
use Rattle.rules_table.specs.declared.Table.{Table}
use Rattle.rules_table.specs.Records.{free_object}
use Rattle.rules_table.specs.Charge.{free_mapping, free_backing}
use Rattle.table.specs.Sound.{Sound}
use Rattle.table.specs.Charged.{free-backing}
use Rattle.rules_calls.specs.declared.Change.TheVariants.{Map, Clear}
use Rattle.rules_calls.specs.declared.Edit.{Edit}
use Rattle.rules_calls.specs.Edits.{accept, is_none}
use Rattle.rules_calls.specs.Copy.{source_of, source_mapping, copy_of, copying, copy_edit}
use Rattle.rules_calls.specs.Unmap.{removed_bytes, range_asked, unmap_edit}
use Rattle.rules_calls.specs.Landing.{place_at}
use Rattle.rules_calls.specs.Map.{mapped, found_of, founding, map_edit}
use Rattle.laws_mapping.specs.Passed.{settled-zero, MapPassed, map_passed, CopyPassed, copy_passed, UnmapPassed, unmap_passed}
use Rattle.edits.specs.Numbers.{map_checks_at, map_edit_at, copy_checks_at, copy_edit_at, unmap_checks_at, unmap_edit_at}

-- ---- MAP

pub record MapDone (t : Table) (flags s memory n x : ℕ) (e : Edit) : Type 0 where
  pub slot : ℕ
  pub number : ℕ
  pub address : ℕ
  pub free : free_mapping t.mappings ≡ Some slot
  pub unused : free_backing t.mappings ≡ Some number
  pub passed : MapPassed t.limit t.objects t.mappings flags s memory n x
  pub is : e ≡ accept address (Map slot (found_of number flags s memory n address)) free_object

pub map_done : (t : Table) (flags s z memory n x : ℕ) → Sound t → (map_edit_at t.limit t.objects t.mappings flags s z memory n x).errno ≡ 0
    → MapDone t flags s memory n x (map_edit_at t.limit t.objects t.mappings flags s z memory n x)
unfolding map_edit founding found_of
map_done t flags s z memory n x g e =
    let checks : first (map_checks_at t.limit t.objects t.mappings flags s z memory n x) 0 ≡ 0
    = settled-zero (first (map_checks_at t.limit t.objects t.mappings flags s z memory n x) 0) (mapped (free_mapping t.mappings) (founding t.objects t.mappings flags s memory n x)) e in
    let p = map_passed t.limit t.objects t.mappings flags s z memory n x checks in
    rw checks (go p (free_mapping t.mappings) refl)
  where
    go : MapPassed t.limit t.objects t.mappings flags s memory n x → (o : Option ℕ) → free_mapping t.mappings ≡ o
        → MapDone t flags s memory n x (mapped (free_mapping t.mappings) (founding t.objects t.mappings flags s memory n x))
    go p None f = contrary true refl (sym (ap (λ (q : Option ℕ). is_none q) f) ∙ p.free)
    go p (Some i) f =
        let b = free-backing t.objects t.mappings i g.counted g.records f in
        record {
          slot = i;
          number = b.0;
          address = place_at t.objects t.mappings s (bit 0 flags) n x;
          free = f;
          unused = b.1;
          passed = p;
          is = made b.0 b.1 i f;
        }
      where
        made : (b : ℕ) → free_backing t.mappings ≡ Some b → (i : ℕ) → free_mapping t.mappings ≡ Some i
            → mapped (free_mapping t.mappings) (founding t.objects t.mappings flags s memory n x)
            ≡ accept (place_at t.objects t.mappings s (bit 0 flags) n x) (Map i (found_of b flags s memory n (place_at t.objects t.mappings s (bit 0 flags) n x))) free_object
        made b eb i ei = rw (ei, eb)

-- ---- COPY

pub record CopyDone (t : Table) (flags target source n x y : ℕ) (e : Edit) : Type 0 where
  pub slot : ℕ
  pub address : ℕ
  pub from : Mapping
  pub free : free_mapping t.mappings ≡ Some slot
  pub sought : source_of t.mappings source y n ≡ Some from
  pub passed : CopyPassed t.objects t.mappings flags target source n x y
  pub is : e ≡ accept address (Map slot (copy_of from flags target n address)) free_object

pub copy_done : (t : Table) (flags target source n x y : ℕ) → (copy_edit_at t.objects t.mappings flags target source n x y).errno ≡ 0
    → CopyDone t flags target source n x y (copy_edit_at t.objects t.mappings flags target source n x y)
unfolding copy_edit copying copy_of
copy_done t flags target source n x y e =
    let checks : first (copy_checks_at t.objects t.mappings flags target source n x y) 0 ≡ 0
    = settled-zero (first (copy_checks_at t.objects t.mappings flags target source n x y) 0) (mapped (free_mapping t.mappings) (copying t.objects t.mappings (source_mapping (source_of t.mappings source y n)) flags target n x)) e in
    let p = copy_passed t.objects t.mappings flags target source n x y checks in
    rw checks (go p (free_mapping t.mappings) refl (source_of t.mappings source y n) refl)
  where
    go : CopyPassed t.objects t.mappings flags target source n x y → (o : Option ℕ) → free_mapping t.mappings ≡ o → (r : Option Mapping) → source_of t.mappings source y n ≡ r
        → CopyDone t flags target source n x y (mapped (free_mapping t.mappings) (copying t.objects t.mappings (source_mapping (source_of t.mappings source y n)) flags target n x))
    go p None f r k = contrary true refl (sym (ap (λ (q : Option ℕ). is_none q) f) ∙ p.free)
    go p (Some i) f None k = contrary true refl (sym (ap (λ (q : Option Mapping). is_none q) k) ∙ p.found-source)
    go p (Some i) f (Some m) k = record {
      slot = i;
      address = place_at t.objects t.mappings target (bit 0 flags) n x;
      from = m;
      free = f;
      sought = k;
      passed = p;
      is = rw (f, k);
    }

-- ---- UNMAP

pub unmap_done : (t : Table) (s a n : ℕ) → (unmap_edit_at t.objects t.mappings s a n).errno ≡ 0
    → UnmapPassed t.objects t.mappings s a n × (unmap_edit_at t.objects t.mappings s a n ≡ accept (removed_bytes s (range_asked a n) t.mappings) (Clear s (range_asked a n)) free_object)
unfolding unmap_edit
unmap_done t s a n e =
    let checks : first (unmap_checks_at t.objects t.mappings s a n) 0 ≡ 0
    = settled-zero (first (unmap_checks_at t.objects t.mappings s a n) 0) (accept (removed_bytes s (range_asked a n) t.mappings) (Clear s (range_asked a n)) free_object) e in
    (unmap_passed t.objects t.mappings s a n checks, rw checks)
