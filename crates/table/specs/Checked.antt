-- The same rules in the groups in which they are checked: objects one by one, records one by one, pairs of records, and the limit.
-- `good-grouped` says that nothing is lost.
use Rattle.std.specs.Prelude.{ℕ, ◌≡◌, refl, Bool, true, false, not, ◌&&◌, ◌||◌, cond, List, leb, eqb}
use Rattle.std.proofs.Common.{ap, ◌∙◌, ne_eqb, arith}
use Rattle.lists.specs.Tests.{by-test, same_test, and_left, and_right, and_both}
use Rattle.lists.specs.Search.{all, all-and}
use Rattle.rangelists.specs.Listed.{reserved, allowed}
use Rattle.rules_table.specs.declared.Kind.{Kind}
use Rattle.rules_table.specs.declared.Object.{Object}
use Rattle.rules_table.specs.declared.Mapping.{Mapping}
use Rattle.rules_table.specs.declared.Table.{Table}
use Rattle.rules_table.specs.Records.{is_space, is_device, is_attached, home_of, object_at, space_at, used, can_write}
use Rattle.rules_table.specs.Spaces.{alignment, reserved_of}
use Rattle.rules_table.specs.Fits.{device_fits, list_fits}
use Rattle.table.specs.Aligned.{alignment-pos}
use Rattle.rules_table.specs.Good.{when_used, mapping_names, device_names, apart, length_fits, rights_fit, ends_fit, clear_of, aligned_to, mapping_fits, backings_agree, writes_by_right, device_valid, list_valid, lists_touch, list_clear, mapping_zero, reserved_rest, allow_rest, no_device, no_list, object_zero, records_counted, backing_number, limit_holds, good}

-- an object against all the rules of objects: itself and the one record that it names
unfoldable pub object_ok : List Object → Object → Bool
object_ok os o = device_names os o && (device_valid o && (list_valid o && (list_clear os o && object_zero o)))

-- the same by the kind, for proofs that go by its cases
abbrev pub kind_names : List Object → Kind → Bool
kind_names os k = not (is_attached k) || space_at os (home_of k)

abbrev pub device_by : Object → Kind → Bool
device_by o k = not (is_device k) || device_fits o

abbrev pub list_by : Object → Kind → Bool
list_by o k = not (is_space k) || list_fits o

abbrev pub list_clear_by : List Object → Object → Kind → Bool
list_clear_by os o k = not (is_attached k) || not (lists_touch (reserved o.reserved) (allowed (object_at os (home_of k)).allow))

abbrev pub zero_by : Object → Kind → Bool
zero_by o k = cond (is_device k) (reserved_rest o) (no_device o) && cond (is_space k) (allow_rest o) (no_list o)

abbrev pub object_by : List Object → Object → Kind → Bool
object_by os o k = kind_names os k && (device_by o k && (list_by o k && (list_clear_by os o k && zero_by o k)))

unfoldable pub objects_ok : List Object → Bool
objects_ok os = all (object_ok os) os

-- a mapping record against all the rules of one record
unfoldable pub record_ok : List Object → Mapping → Bool
record_ok os m = mapping_names os m && (mapping_fits os m && (writes_by_right m && (mapping_zero m && backing_number m)))

unfoldable pub records_ok : List Object → List Mapping → Bool
records_ok os ms = all (record_ok os) ms

pub objects-grouped : (os : List Object)
    → objects_ok os ≡ (all (device_names os) os && (all device_valid os && (all list_valid os && (all (list_clear os) os && all object_zero os))))
unfolding objects_ok object_ok
objects-grouped os =
    all-and (device_names os) (λ o. device_valid o && (list_valid o && (list_clear os o && object_zero o))) os
    ∙ ap (λ (b : Bool). all (device_names os) os && b)
    (all-and device_valid (λ o. list_valid o && (list_clear os o && object_zero o)) os
    ∙ ap (λ (b : Bool). all device_valid os && b)
    (all-and list_valid (λ o. list_clear os o && object_zero o) os
    ∙ ap (λ (b : Bool). all list_valid os && b) (all-and (list_clear os) object_zero os)))

pub records-grouped : (os : List Object) (ms : List Mapping)
    → records_ok os ms ≡ (all (mapping_names os) ms && (all (mapping_fits os) ms && (all writes_by_right ms && (all mapping_zero ms && all backing_number ms))))
unfolding records_ok record_ok
records-grouped os ms =
    all-and (mapping_names os) (λ m. mapping_fits os m && (writes_by_right m && (mapping_zero m && backing_number m))) ms
    ∙ ap (λ (b : Bool). all (mapping_names os) ms && b)
    (all-and (mapping_fits os) (λ m. writes_by_right m && (mapping_zero m && backing_number m)) ms
    ∙ ap (λ (b : Bool). all (mapping_fits os) ms && b)
    (all-and writes_by_right (λ m. mapping_zero m && backing_number m) ms
    ∙ ap (λ (b : Bool). all writes_by_right ms && b) (all-and mapping_zero backing_number ms)))

-- the parts of `good` in another order: o objects, r records
regroup : (o1 o2 o3 o4 o5 r1 r2 r3 r4 r5 agree away counted limit : Bool)
    → (r1 && o1 && (away && (r2 && (agree && r3 && (o2 && (o3 && o4) && (r4 && o5 && (counted && (r5 && limit))))))))
    ≡ (o1 && (o2 && (o3 && (o4 && o5))) && (r1 && (r2 && (r3 && (r4 && r5))) && (agree && (away && (counted && limit)))))
regroup o1 o2 o3 o4 o5 r1 r2 r3 r4 r5 agree away counted limit =
    same_test (r1 && o1 && (away && (r2 && (agree && r3 && (o2 && (o3 && o4) && (r4 && o5 && (counted && (r5 && limit))))))))
    (o1 && (o2 && (o3 && (o4 && o5))) && (r1 && (r2 && (r3 && (r4 && r5))) && (agree && (away && (counted && limit)))))
    (λ e. search (and_left, and_right, and_both) depth 14)
    (λ e. search (and_left, and_right, and_both) depth 14)

pub good-grouped : (t : Table)
    → good t ≡ (objects_ok t.objects && (records_ok t.objects t.mappings && (backings_agree t.mappings && (apart t.mappings && (records_counted t && limit_holds t)))))
unfolding good
good-grouped t =
    regroup (all (device_names t.objects) t.objects) (all device_valid t.objects) (all list_valid t.objects) (all (list_clear t.objects) t.objects) (all object_zero t.objects)
    (all (mapping_names t.objects) t.mappings) (all (mapping_fits t.objects) t.mappings) (all writes_by_right t.mappings) (all mapping_zero t.mappings) (all backing_number t.mappings)
    (backings_agree t.mappings) (apart t.mappings) (records_counted t) (limit_holds t)
    ∙ rw (← objects-grouped t.objects, ← records-grouped t.objects t.mappings)

-- ---- one record by itself, given the alignment of its space, and against the reserved ranges of its space

-- the alignment of a space, and 0 for an id that is none
unfoldable pub page_at : List Object → ℕ → ℕ
page_at os s = cond (space_at os s) (alignment os s) 0

unfoldable pub record_alone : ℕ → Mapping → Bool
record_alone page m =
    mapping_zero m
    && when_used (λ m. not (eqb page 0) && (length_fits m && (rights_fit m && (ends_fit m && (aligned_to page m
    && (leb m.founder 1 && (not (can_write m) || eqb m.founder 1) && (leb 1 m.backing && leb m.backing 128))))))) m

alone : (nil used names len rig ends clear fit right number : Bool)
    → (not used || names) && ((not used || (len && (rig && (ends && (clear && fit))))) && ((not used || right) && (nil && (not used || number))))
    ≡ (nil && (not used || (names && (len && (rig && (ends && (fit && (right && number)))))))) && (not used || clear)
alone nil false names len rig ends clear fit right number = by-test nil (λ e. rw e) (λ e. rw e)
alone nil true names len rig ends clear fit right number =
    same_test (names && ((len && (rig && (ends && (clear && fit)))) && (right && (nil && number))))
    ((nil && (names && (len && (rig && (ends && (fit && (right && number))))))) && clear)
    (λ e. search (and_left, and_right, and_both) depth 14)
    (λ e. search (and_left, and_right, and_both) depth 14)

-- where the record names a space, its page is the alignment
record_by_page : (os : List Object) (m : Mapping) (b : Bool) → space_at os m.space ≡ b
    → record_ok os m ≡ (record_alone (page_at os m.space) m && when_used (clear_of (reserved_of os m.space)) m)
unfolding record_ok record_alone page_at mapping_names mapping_fits writes_by_right backing_number when_used
record_by_page os m true e =
    let p : not (eqb (alignment os m.space) 0) ≡ true = ap (λ (b : Bool). not b) (ne_eqb (alignment os m.space) 0 (λ z. omega (arith, alignment-pos os m.space, z))) in
    rw (e, p) (alone (mapping_zero m) (used m) true (length_fits m) (rights_fit m) (ends_fit m) (clear_of (reserved_of os m.space) m) (aligned_to (alignment os m.space) m)
    (leb m.founder 1 && (not (can_write m) || eqb m.founder 1)) (leb 1 m.backing && leb m.backing 128))
record_by_page os m false e = rw e (by-test (used m) (λ u. rw u (by-test (mapping_zero m) (λ z. rw z) (λ z. rw z))) (λ u. rw u (by-test (mapping_zero m) (λ z. rw z) (λ z. rw z))))

pub record_split : (os : List Object) (m : Mapping) → record_ok os m ≡ (record_alone (page_at os m.space) m && when_used (clear_of (reserved_of os m.space)) m)
record_split os m = record_by_page os m (space_at os m.space) refl
