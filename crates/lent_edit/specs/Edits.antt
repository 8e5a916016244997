-- What an edit writes: one object record at most, and the mapping records; and that this is the lent table after the edit.
use Rattle.std.specs.Prelude.{ℕ, ◌+◌, ◌≤◌, ◌≡◌, refl, cond, List, leb, set, length}
use Rattle.std.proofs.Common.{sym, ap, ◌∙◌, arith, leb-false}
use Rattle.std.proofs.lemmas.List.{length-map}
use Rattle.std.proofs.Math.Seq.{set_out}
use Rattle.lists.specs.Tests.{by-test}
use Rattle.ranges.specs.Ranges.{range, U64MAX}
use Rattle.rules_table.specs.declared.Object.{Object}
use Rattle.rules_table.specs.declared.Mapping.{Mapping}
use Rattle.rules_table.specs.declared.RawObject.{RawObject}
use Rattle.rules_table.specs.declared.Head.{Head}
use Rattle.rules_table.specs.Records.{free_object, of_space, within}
use Rattle.rules_table.specs.Layout.{encoded, decoded}
use Rattle.rules_table.specs.Words.{head_in}
use Rattle.table.specs.Cleared.{release-same, within_all}
use Rattle.rules_calls.specs.Results.{signed_result}
use Rattle.rules_calls.specs.declared.Change.{Change}
use Rattle.rules_calls.specs.declared.Change.TheVariants.{Nothing, Put, Drop, Map, Clear}
use Rattle.rules_calls.specs.declared.Edit.{Edit}
use Rattle.rules_calls.specs.Edits.{objects_after, mappings_after, refuse}
use Rattle.rules_lent.specs.Lent.{head_after, records_after}
use Rattle.layout_objects.specs.Writing.{with_record}
use Rattle.layout_objects.specs.Slots.{objects-long}
use Rattle.index_search.specs.declared.Slots.{Slots}
use Rattle.index_search.specs.Spans.{Spanning}
use Rattle.lent_records.specs.declared.Records.{Records}
use Rattle.lent_records.specs.declared.Records.TheVariants as record-variants
use Rattle.lent_records.specs.Records.{stored}
use Rattle.lent_records.proofs.Stored.{stored-keep, stored-put, stored-clear}
use Rattle.lent_edit.specs.declared.Served.{Served}

-- the slot of the object record that is written, 32 where none is
abbrev pub slot_of : Change → ℕ
slot_of Nothing = 32
slot_of (Put i) = i
slot_of (Drop i) = i
slot_of (Map i m) = 32
slot_of (Clear s r) = 32

-- a space that goes leaves a released record
abbrev pub object_of : Change → Object → Object
object_of Nothing o = o
object_of (Put i) o = o
object_of (Drop i) o = free_object
object_of (Map i m) o = o
object_of (Clear s r) o = o

-- what happens to the mapping records; those that go are released in the slots of v
abbrev pub records_for : Change → Slots → Records
records_for Nothing v = record-variants.Keep
records_for (Put i) v = record-variants.Keep
records_for (Drop i) v = cond (leb 32 i) record-variants.Keep (record-variants.Clear (i + 1) (range 0 U64MAX) v.first v.end)
records_for (Map i m) v = record-variants.Put i m
records_for (Clear s r) v = record-variants.Clear s r v.first v.end

unfoldable pub served_by : Edit → Slots → Served
served_by e v = record { result = signed_result e.errno; records = records_for e.change v }

-- none go
abbrev pub nowhere : Slots
nowhere = record { first = 0; end = 0 }

-- ---- laws

-- the objects of a head are 32
pub head-long : (h : List ℕ) → length (head_in h).objects ≡ 32
head-long h = sym (length-map (head_in h).objects decoded) ∙ objects-long h

-- no record is written from slot 32 on
pub no_slot : (h : List ℕ) (i : ℕ) (r : RawObject) → 32 ≤ i → head_in h ≡ with_record (head_in h) i r
unfolding with_record
no_slot h i r l = ap (λ (rs : List RawObject). record { limit = (head_in h).limit; objects = rs })
    (sym (set_out (head_in h).objects i r (omega (arith, l, head-long h))))

objects-written : (rs : List RawObject) → length rs ≡ 32 → (o : Object) (c : Change)
    → set rs (slot_of c) (encoded (object_of c o)) ≡ objects_after (encoded free_object) (encoded o) c rs
objects-written rs many o Nothing = set_out rs 32 (encoded o) (omega (arith, many))
objects-written rs many o (Put i) = refl
objects-written rs many o (Drop i) = refl
objects-written rs many o (Map i m) = set_out rs 32 (encoded o) (omega (arith, many))
objects-written rs many o (Clear s r) = set_out rs 32 (encoded o) (omega (arith, many))

-- THE LAWS: what is written is the head after the edit, and what is stored the records after it
pub head-written : (h : List ℕ) (e : Edit) → with_record (head_in h) (slot_of e.change) (encoded (object_of e.change e.object)) ≡ head_after e (head_in h)
unfolding head_after with_record
head-written h e = ap (λ (rs : List RawObject). record { limit = (head_in h).limit; objects = rs })
    (objects-written (head_in h).objects (head-long h) e.object e.change)

mappings-written : (ms : List Mapping) (c : Change) (v : Slots) → Spanning c ms v → stored (records_for c v) ms ≡ mappings_after c ms
mappings-written ms Nothing v h = stored-keep ms
mappings-written ms (Put i) v h = stored-keep ms
mappings-written ms (Drop i) v h =
    by-test (leb 32 i)
    (λ e. rw e (stored-keep ms))
    (λ e.
    let g = h (leb-false 32 i e) in
    rw e (stored-clear (i + 1) (range 0 U64MAX) v.first v.end ms g.low g.high ∙ release-same (within (i + 1) (range 0 U64MAX)) (of_space (i + 1)) ms (within_all (i + 1))))
mappings-written ms (Map i m) v h = stored-put i m ms
mappings-written ms (Clear s r) v h = stored-clear s r v.first v.end ms h.low h.high

-- where the slots are those of all records that go
pub records-written : (ms : List Mapping) (e : Edit) (v : Slots) → Spanning e.change ms v → stored (served_by e v).records ms ≡ records_after e ms
unfolding records_after served_by
records-written ms e v h = mappings-written ms e.change v h

-- a refusal writes nothing
pub refused-head : (n : ℕ) (h : Head) → h ≡ head_after (refuse n) h
unfolding head_after
refused-head n h = refl

pub refused-records : (n : ℕ) (ms : List Mapping) → stored (served_by (refuse n) nowhere).records ms ≡ ms
unfolding served_by
refused-records n ms = stored-keep ms

pub refused-result : (n : ℕ) → (served_by (refuse n) nowhere).result ≡ signed_result n
unfolding served_by
refused-result n = refl
