-- An edit keeps a sound table sound, given what the checks of its call have shown of the new object.
use Rattle.std.specs.Prelude.{ℕ, zero, suc, ◌+◌, ◌≤◌, ◌<◌, ◌≡◌, refl, Bool, true, false, List, map, eqb, get_or, set, Option, None, Some}
use Rattle.std.proofs.Common.{sym, ap, ◌∙◌, add-one, arith, length-set}
use Rattle.std.proofs.Math.ListN as ListN
use Rattle.std.proofs.lemmas.List.{length-map}
use Rattle.std.proofs.lemmas.Bool.{lt-leb, eqb-false}
use Rattle.lists.specs.Tests.{by-test, contrary}
use Rattle.lists.specs.Search.{any, all, seek-some_lt, seek-some_at}
use Rattle.lists.specs.Each.{Each, Each-of, Each-map, Each-zip}
use Rattle.ranges.specs.Ranges.{share}
use Rattle.alignment.specs.Multiples.{fits}
use Rattle.rules_table.specs.declared.Object.{Object}
use Rattle.rules_table.specs.declared.Mapping.{Mapping}
use Rattle.rules_table.specs.declared.Table.{Table}
use Rattle.rules_table.specs.declared.Kind.{Kind}
use Rattle.rules_table.specs.declared.Kind.TheVariants.{Free, Space, Device}
use Rattle.rules_table.specs.Records.{free_object, is_free, is_space, space_at, attached_to, used, of_space, extent, release}
use Rattle.rules_table.specs.Spaces.{page_for, reserved_for}
use Rattle.rules_table.specs.Charge.{charge, free_record}
use Rattle.rules_table.specs.Good.{device_names, device_valid, list_valid, list_clear, object_zero, no_device, no_list, reserved_rest, allow_rest}
use Rattle.wire.specs.Fields.{zeros}
use Rattle.table.specs.Checked.{object_ok, record_ok}
use Rattle.table.specs.Sound.{Sound}
use Rattle.table.specs.Facts.{UsedOk, record_used, used-record, record_free, zero_record}
use Rattle.table.specs.Replaced.{Hosts, objects-replaced, hosts_none, none-attached, object_at-slot, space_at-set_other}
use Rattle.table.specs.Moved.{used-replaced, Quiet, quiet_reserved, quiet_fits}
use Rattle.table.specs.Cleared.{release-true, release-false, release-once, release-agree}
use Rattle.table.specs.Charged.{release-charge}
use Rattle.rules_calls.specs.declared.Edit.{Edit}
use Rattle.rules_calls.specs.Edits.{settle, added, applied}
use Rattle.edits.specs.Parts.{put_object, drop_space}

-- a released object keeps the rules of objects
pub free-ok : (os : List Object) → object_ok os free_object ≡ true
unfolding object_ok device_names device_valid list_valid list_clear object_zero no_device no_list reserved_rest allow_rest zeros all
free-ok os = refl

-- what is released charges nothing
pub charge-less : (t : Table) (p : Mapping → Bool) → Sound t → charge (map (release p) t.mappings) ≤ t.limit
unfolding charge
charge-less t p g = omega (arith, release-charge t.objects g.info t.mappings g.records g.agree p (λ m. true), g.charged)

-- what the new object asks of a mapping: its space stays one, its ranges are clear of it, its page fits
pub record Bears (os : List Object) (i : ℕ) (n : Object) (m : Mapping) : Type 0 where
  pub names : space_at (set os i n) m.space ≡ true
  pub clear : any (share (extent m)) (reserved_for m.space n) ≡ false
  pub aligned : fits (page_for m.space n) m.address m.length ≡ true

-- a record keeps its rules under a new object that bears it
record_bears : (os : List Object) (i : ℕ) (n : Object) (m : Mapping) → record_ok os m ≡ true → (used m ≡ true → UsedOk os m → Bears os i n m) → record_ok (set os i n) m ≡ true
record_bears os i n m e f =
    by-test (used m)
    (λ u. let k = record_used os m u e in let b = f u k in used-record (set os i n) m u (used-replaced os i n m k b.names b.clear b.aligned))
    (λ u. rw (record_free os m u e) (zero_record (set os i n)))

-- every used mapping is borne
abbrev pub AllBorne : Table → ℕ → Object → Type 0
AllBorne t i n = Each (λ m. used m ≡ true → UsedOk t.objects m → Bears t.objects i n m) t.mappings

pub put-sound : (t : Table) (i : ℕ) (n : Object) → Sound t → i < 32 → Hosts t.objects i n → object_ok (set t.objects i n) n ≡ true → AllBorne t i n → Sound (put_object t i n)
unfolding applied
put-sound t i n g h hosts new borne = record {
  objects = objects-replaced t.objects i n (rw g.places h) g.objects hosts new;
  records = Each-zip (λ m. record_ok t.objects m ≡ true) (λ m. used m ≡ true → UsedOk t.objects m → Bears t.objects i n m) (λ m. record_ok (set t.objects i n) m ≡ true) t.mappings
      (λ m e f. record_bears t.objects i n m e f) g.records borne;
  once = g.once;
  info = g.info;
  agree = g.agree;
  counted = g.counted;
  places = length-set t.objects i n ∙ g.places;
  most = g.most;
  charged = g.charged;
}

-- an object that is attached to nothing bears every mapping whose space stays a space
pub quiet_bears : (os : List Object) (i : ℕ) (n : Object) (m : Mapping) → Quiet n → space_at (set os i n) m.space ≡ true → Bears os i n m
quiet_bears os i n m q e = record { names = e; clear = quiet_reserved n q m.space (share (extent m)); aligned = quiet_fits n q m.space m.address m.length }

-- a place that held no space: the mappings' spaces are elsewhere
pub elsewhere : (os : List Object) (i : ℕ) (n : Object) (m : Mapping) → space_at os (suc i) ≡ false → UsedOk os m → space_at (set os i n) m.space ≡ true
elsewhere os i n m e k =
    space_at-set_other os i n m.space (λ s. contrary (space_at os (suc i)) (sym (ap (space_at os) s) ∙ k.names) e) ∙ k.names

-- a space that no device is attached to is released, with its mappings
quiet_free : Quiet free_object
quiet_free s = refl

record_dropped : (os : List Object) (i : ℕ) (m : Mapping) → record_ok os m ≡ true → record_ok (set os i free_object) (release (of_space (i + 1)) m) ≡ true
unfolding of_space
record_dropped os i m e =
    by-test (eqb m.space (i + 1))
    (λ s. rw (release-true (of_space (i + 1)) m s) (zero_record (set os i free_object)))
    (λ s. rw (release-false (of_space (i + 1)) m s) (record_bears os i free_object m e (λ u k.
    let ne = eqb-false m.space (i + 1) s in
    quiet_bears os i free_object m quiet_free (space_at-set_other os i free_object m.space (λ z. ne (z ∙ sym (add-one i))) ∙ k.names))))

pub drop_sound : (t : Table) (i : ℕ) → Sound t → i < 32 → any (λ o. attached_to (suc i) o.kind) t.objects ≡ false → Sound (drop_space t i)
unfolding applied
drop_sound t i g h alone =
    rw (lt-leb 32 i h) (record {
      objects = objects-replaced t.objects i free_object (rw g.places h) g.objects (hosts_none t.objects i free_object alone) (free-ok (set t.objects i free_object));
      records = Each-map (λ m. record_ok t.objects m ≡ true) (λ m. record_ok (set t.objects i free_object) m ≡ true) (release (of_space (i + 1))) t.mappings (record_dropped t.objects i) g.records;
      once = release-once (of_space (i + 1)) t.mappings g.once;
      info = g.info;
      agree = release-agree (of_space (i + 1)) g.info t.mappings g.agree;
      counted = length-map t.mappings (release (of_space (i + 1))) ∙ g.counted;
      places = length-set t.objects i free_object ∙ g.places;
      most = g.most;
      charged = less;
    })
  where
    less : charge (map (release (of_space (i + 1))) t.mappings) ≤ t.limit
    less = charge-less t (of_space (i + 1)) g

-- the result of settling: a refusal leaves the table as it is
pub settle-sound : (t : Table) (n : ℕ) (e : Edit) → Sound t → (n ≡ 0 → Sound (applied t e)) → Sound (applied t (settle n e))
unfolding applied
settle-sound t zero e g h = h refl
settle-sound t (suc n) e g h = g

-- ---- a new object in the lowest free record

-- the lowest free record lies in the table, is no space and is attached to none
pub free-slot : (os : List Object) (i : ℕ) → free_record os ≡ Some i → (i < ListN.length os) × (space_at os (suc i) ≡ false) × ((s : ℕ) → attached_to s (get_or os i free_object).kind ≡ false)
unfolding free_record space_at
free-slot os i e =
    let lt = seek-some_lt (λ (o : Object). is_free o.kind) 0 os i e in
    let z : i ≡ 0 + i = omega arith in
    let at = seek-some_at (λ (o : Object). is_free o.kind) 0 os free_object i (e ∙ ap Some z) in
    let h : i < ListN.length os = omega (arith, lt.1) in
    (h, ap (λ (o : Object). is_space o.kind) (object_at-slot os i free_object h) ∙ free-no_space (get_or os i free_object).kind at, λ s. free-no_device s (get_or os i free_object).kind at)
  where
    free-no_space : (k : Kind) → is_free k ≡ true → is_space k ≡ false
    free-no_space Free e = refl
    free-no_space Space e = contrary false e refl
    free-no_space (Device a) e = refl

    free-no_device : (s : ℕ) (k : Kind) → is_free k ≡ true → attached_to s k ≡ false
    free-no_device s Free e = refl
    free-no_device s Space e = refl
    free-no_device s (Device a) e = contrary false e refl

-- an object that is attached to nothing and keeps the rules of objects by itself can be added
pub added-sound : (t : Table) (n : Object) → Sound t → Quiet n → ((os : List Object) → object_ok os n ≡ true) → Sound (applied t (added (free_record t.objects) n))
unfolding applied
added-sound t n g q ok = go (free_record t.objects) refl
  where
    go : (o : Option ℕ) → free_record t.objects ≡ o → Sound (applied t (added o n))
    go None e = g
    go (Some i) e =
        let p = free-slot t.objects i e in
        put-sound t i n g (omega (arith, p.0, g.places))
        (hosts_none t.objects i n (none-attached t.objects (suc i) g.objects p.1))
        (ok (set t.objects i n))
        (Each-of _ t.mappings (λ m u k. quiet_bears t.objects i n m q (elsewhere t.objects i n m p.1 k)))

-- a new id is small
pub added-value : (os : List Object) (n : Object) → ListN.length os ≡ 32 → (added (free_record os) n).value < 256
unfolding free_record
added-value os n l = go (free_record os) refl
  where
    go : (o : Option ℕ) → free_record os ≡ o → (added o n).value < 256
    go None e = omega arith
    go (Some i) e = let p = seek-some_lt (λ (o : Object). is_free o.kind) 0 os i e in omega (arith, p.1)
