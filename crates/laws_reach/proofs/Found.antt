-- In a good table reach's search finds the mapping that holds what is asked, and finds none exactly where none holds it.
use Rattle.std.specs.Prelude.{ℕ, ◌+◌, ◌-◌, ◌≤◌, ◌<◌, ◌≡◌, refl, true, false, ◌&&◌, leb, length, None, Some}
use Rattle.std.proofs.Common.{sym, ◌∙◌, arith}
use Rattle.std.proofs.Math.Path.{ap, subst}
use Rattle.std.proofs.Math.ListN.{get_or}
use borrow.Author.Tests.{eqb-true, eq-eqb, ne_eqb, le-leb, le-ltb}
use Rattle.lists.specs.Tests.{by-test, and_left, and_right, and_both}
use Rattle.lists.specs.Search.{any, any-slot, all-at, find-some, find-slot, find-any_false}
use Rattle.lists.specs.Each.{Each-at}
use Rattle.lists.specs.Sums.{find-only}
use Rattle.ranges.specs.Ranges.{U64MAX, holds, holds_of, inside, inside-from, inside-upto, passes, last_of, span}
use Rattle.ranges.proofs.Spans.{last_of-fits}
use Rattle.rules_table.specs.declared.Attachment.TheVariants.{Attached}
use Rattle.rules_table.specs.declared.Kind.{Kind}
use Rattle.rules_table.specs.declared.Kind.TheVariants.{Device}
use Rattle.rules_table.specs.declared.Mapping.{Mapping}
use Rattle.rules_table.specs.declared.Table.{Table}
use Rattle.rules_table.specs.Records.{zero_mapping, free_object, object_at, space_at, is_device, used, of_space, extent, covers}
use Rattle.rules_table.specs.Good.{device_names, device_valid, list_valid, list_clear, object_zero}
use Rattle.table.specs.Checked.{object_ok, objects_ok, record_ok}
use Rattle.table.specs.Sound.{Sound}
use Rattle.table.specs.Facts.{record_used}
use Rattle.edits.specs.Settled.{space-id}
use Rattle.laws_good.specs.DeviceKept.{device-slot}
use Rattle.rules_calls.specs.Reach.{around}
use Rattle.index.specs.Touched.{wraps}
use Rattle.laws_reach.specs.Plain.{Holding, Asked}

-- ---- the device's space

-- an attached device names a space, so its home is not 0, which is what a released record has
pub home_some : (t : Table) → Sound t → (d s : ℕ) → (object_at t.objects d).kind ≡ Device (Attached s) → 1 ≤ s
unfolding object_at objects_ok object_ok device_names space_at
home_some t g d s e =
    let os = t.objects in
    let w = device-slot os d (ap (λ (k : Kind). is_device k) e) in
    let o = get_or os w.0 free_object in
    let names = and_left (device_names os o) (device_valid o && (list_valid o && (list_clear os o && object_zero o))) (all-at (object_ok os) os free_object g.objects w.0 w.2) in
    let at : o.kind ≡ Device (Attached s) = rw w.1 at e in
    space-id os s (rw at at names)

module _ (t : Table) (g : Sound t) (d s a n : ℕ) (q : Asked t d s a n) where
  no-pass : passes a n ≡ false
  unfolding passes
  no-pass = le-ltb U64MAX (a + (n - 1)) (omega (arith, q.ends))

  -- ---- the test that the search makes of a mapping, and what it is in numbers

  record_at-is : (i : ℕ) → i < length t.mappings → record_ok t.objects (get_or t.mappings i zero_mapping) ≡ true
  record_at-is i l = Each-at (λ m. record_ok t.objects m ≡ true) t.mappings zero_mapping i l g.records

  space-used : (m : Mapping) → of_space s m ≡ true → used m ≡ true
  unfolding of_space used
  space-used m o = rw (ne_eqb m.space 0 (λ z. omega (arith, z, eqb-true m.space s o, home_some t g d s q.attached)))

  held_test : (m : Mapping) → Holding t s a n m → wraps s (span a n) m ≡ true
  unfolding wraps of_space extent inside span
  held_test m h =
      let ok = ap (record_ok t.objects) (sym h.stands) ∙ record_at-is h.slot h.there in
      let o = eq-eqb m.space s (omega (arith, h.space)) in
      let r = record_used t.objects m (space-used m o) ok in
      let x = last_of a n in
      let y = last_of m.address m.length in
      and_both (of_space s m) (inside (span a n) (extent m)) o
      (and_both (leb m.address a) (leb x y)
      (le-leb m.address a (omega (arith, h.from)))
      (le-leb x y (omega (arith, h.upto, q.some, r.some, last_of-fits a n no-pass, last_of-fits m.address m.length r.ends))))

  test_held : (i : ℕ) → i < length t.mappings → wraps s (span a n) (get_or t.mappings i zero_mapping) ≡ true → Holding t s a n (get_or t.mappings i zero_mapping)
  unfolding wraps of_space extent span
  test_held i l e =
      let m = get_or t.mappings i zero_mapping in
      let o = and_left (of_space s m) (inside (span a n) (extent m)) e in
      let j = and_right (of_space s m) (inside (span a n) (extent m)) e in
      let r = record_used t.objects m (space-used m o) (record_at-is i l) in
      let first = inside-from (span a n) (extent m) j in
      let last = inside-upto (span a n) (extent m) j in
      record {
        slot = i;
        there = l;
        stands = refl;
        space = omega (arith, eqb-true m.space s o);
        from = omega (arith, first);
        upto = omega (arith, last, q.some, r.some, last_of-fits a n no-pass, last_of-fits m.address m.length r.ends);
      }

  -- what passes covers the first address, and of the mappings of a good table at most one does
  test_covers : (m : Mapping) → wraps s (span a n) m ≡ true → covers s a m ≡ true
  unfolding wraps covers extent span
  test_covers m e =
      let o = and_left (of_space s m) (inside (span a n) (extent m)) e in
      let j = and_right (of_space s m) (inside (span a n) (extent m)) e in
      let last = inside-upto (span a n) (extent m) j in
      and_both (used m) (of_space s m && holds (extent m) a) (space-used m o)
      (and_both (of_space s m) (holds (extent m) a) o (holds_of (extent m) a (inside-from (span a n) (extent m) j) (omega (arith, last, last_of-fits a n no-pass))))

  -- ---- the search

  -- THE LAWS: the mapping that holds it is found, and what is found holds it
  pub held_found : (m : Mapping) → Holding t s a n m → around t.mappings s (span a n) ≡ Some m
  unfolding around wraps
  held_found m h =
      let e = h.stands in
      find-only (wraps s (span a n)) (covers s a) test_covers t.mappings zero_mapping (g.once s a) h.slot h.there (ap (wraps s (span a n)) e ∙ held_test m h) ∙ ap Some e

  pub found-held : (m : Mapping) → around t.mappings s (span a n) ≡ Some m → Holding t s a n m
  unfolding around wraps
  found-held m e =
      let w = find-slot (wraps s (span a n)) t.mappings zero_mapping m e in
      subst (λ (x : Mapping). Holding t s a n x) w.2 (test_held w.0 w.1 (ap (wraps s (span a n)) w.2 ∙ find-some (wraps s (span a n)) t.mappings m e))

  -- where none holds it none is found, and where none is found none holds it
  pub unheld-none : ((m : Mapping) → Holding t s a n m → ⊥) → around t.mappings s (span a n) ≡ None
  unfolding around wraps
  unheld-none f =
      find-any_false (wraps s (span a n)) t.mappings
      (by-test (any (wraps s (span a n)) t.mappings)
      (λ e. let w = any-slot (wraps s (span a n)) t.mappings zero_mapping e in absurd (f (get_or t.mappings w.0 zero_mapping) (test_held w.0 w.1 w.2)))
      (λ e. e))

  pub none-unheld : around t.mappings s (span a n) ≡ None → (m : Mapping) → Holding t s a n m → ⊥
  none-unheld e m h = let f = held_found m h in let z : ◌≡◌ {A = ℕ} 0 1 = cc in omega (arith, z)
