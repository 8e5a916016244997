-- What is known of an empty record, and of one that is not.
use Rattle.std.proofs.Common.{◌≡◌, ℕ, true, false, not, ◌&&◌, eqb, List, get_or, sym, ◌∙◌, eq-eqb, eqb-true}
use borrow.Author.Tests.{not-true}
use Rattle.lists.specs.Tests.{by-test, contrary, and_left, and_right, and_both}
use Rattle.rules_table.specs.declared.Mapping.{Mapping}
use Rattle.rules_table.specs.Records.{used}
use Rattle.table.specs.Checked.{record_alone}
use Rattle.records.specs.Alone.{zero_fields, numbered, sound, alone-released, alone-used}
use Rattle.layout_mappings.specs.Words.{is_empty}
use Rattle.check_mappings.specs.Told.{page_of}

zero_backing : (m : Mapping) → zero_fields m ≡ true → eqb m.backing 0 ≡ true
unfolding zero_fields
zero_backing m e = search (and_left, and_right) depth 8

module _ (m : Mapping) (e : is_empty m ≡ true) where
  pub empty-released : used m ≡ false
  unfolding is_empty
  empty-released = not-true (used m) (and_left (not (used m)) (zero_fields m) e)

  empty-fields : zero_fields m ≡ true
  unfolding is_empty
  empty-fields = and_right (not (used m)) (zero_fields m) e

  pub empty-backing : m.backing ≡ 0
  empty-backing = eqb-true m.backing 0 (zero_backing m empty-fields)

  pub empty-numbered : numbered m ≡ true
  unfolding numbered
  empty-numbered = rw empty-released (eq-eqb m.backing 0 empty-backing)

  pub empty-alone : (page : ℕ) → record_alone page m ≡ true
  empty-alone page = alone-released page m empty-released ∙ empty-fields

-- a record in use is not empty
pub used-full : (m : Mapping) → used m ≡ true → is_empty m ≡ false
unfolding is_empty
used-full m u = rw u

-- a record that is not empty and keeps its rules is in use
pub full-used : (page : ℕ) (m : Mapping) → is_empty m ≡ false → record_alone page m ≡ true → used m ≡ true
unfolding is_empty
full-used page m e a =
    by-test (used m)
    (λ u. u)
    (λ u. contrary (not (used m) && zero_fields m) (and_both (not (used m)) (zero_fields m) (rw u) (sym (alone-released page m u) ∙ a)) e)

-- a record that is not empty keeps its rules where those of a record in use hold, by the alignment of the space that it names
pub full-sound : (pages : List ℕ) (m : Mapping) → is_empty m ≡ false → sound (page_of pages m.space) m ≡ record_alone (get_or pages m.space 0) m
unfolding is_empty page_of used sound
full-sound pages m e =
    by-test (eqb m.space 0)
    (λ z.
    let u : not (eqb m.space 0) ≡ false = rw z in
    rw z (sym (alone-released (get_or pages m.space 0) m u ∙ (sym (rw z) ∙ e))))
    (λ z. let u : not (eqb m.space 0) ≡ true = rw z in rw z (sym (alone-used (get_or pages m.space 0) m u)))
