-- A head and the objects that it stands for are the same: encoding what was decoded gives the numbers back, and decoding what was encoded gives the object back. Numbers that name
-- no kind stand for no good table.
use Rattle.std.specs.Prelude.{ℕ, zero, suc, ◌≤◌, ◌≡◌, refl, true, false, ◌&&◌, ◌||◌, List, [], ◌∷◌, map, eqb, leb, get_or, set}
use Rattle.std.proofs.Common.{sym, ◌∙◌, arith, eqb-true, leb-true, leb-false, ne_eqb}
use Rattle.std.proofs.Math.ListN.{get_or-map}
use Rattle.lists.specs.Tests.{by-test, contrary, and_left, and_right}
use Rattle.lists.specs.Search.{all}
use Rattle.rules_table.specs.declared.Attachment.TheVariants.{Loose, Attached}
use Rattle.rules_table.specs.declared.Kind.{Kind}
use Rattle.rules_table.specs.declared.Kind.TheVariants.{Free, Space, Device}
use Rattle.rules_table.specs.declared.Object.{Object}
use Rattle.rules_table.specs.declared.Mapping.{Mapping}
use Rattle.rules_table.specs.declared.Table.{Table}
use Rattle.rules_table.specs.Records.{zero_object, home_of, space_at, object_at}
use Rattle.rules_table.specs.Good.{device_names, good}
use Rattle.table.specs.Checked.{object_ok, objects_ok, good-grouped}
use Rattle.rules_table.specs.declared.RawObject.{RawObject}
use Rattle.rules_table.specs.declared.Head.{Head}
use Rattle.rules_table.specs.Layout.{zero_raw, kind_of, tag_of, decoded, encoded, known, table_of, head_of}

-- ---- one kind

kind-back : (k : Kind) → kind_of (tag_of k) (home_of k) ≡ k
kind-back Free = refl
kind-back Space = refl
kind-back (Device Loose) = refl
kind-back (Device (Attached s)) = refl

-- the numbers of a known kind, and their kind
module _ (kind home : ℕ) where
  abbrev Back : Kind → Type 0
  Back k = (tag_of k ≡ kind) × (home_of k ≡ home)

  small-back : (n : ℕ) → kind ≡ n → n ≤ 2 → home ≡ 0 → Back (kind_of kind home)
  small-back zero e h z = rw (e, z) (refl, refl)
  small-back (suc zero) e h z = rw (e, z) (refl, refl)
  small-back (suc (suc zero)) e h z = rw (e, z) (refl, refl)
  small-back (suc (suc (suc n))) e h z = absurd (omega (arith, h))

  numbers-back : (eqb kind 3 || (leb kind 2 && eqb home 0)) ≡ true → Back (kind_of kind home)
  numbers-back e =
      by-test (eqb kind 3)
      (λ t. rw (eqb-true kind 3 t) (refl, refl))
      (λ f. let r : (leb kind 2 && eqb home 0) ≡ true = sym (rw f) ∙ e in
      small-back kind refl (leb-true kind 2 (and_left (leb kind 2) (eqb home 0) r)) (eqb-true home 0 (and_right (leb kind 2) (eqb home 0) r)))

-- ---- one record

-- THE LAW: what was decoded is encoded to the same numbers
pub encode_decode : (r : RawObject) → known r ≡ true → encoded (decoded r) ≡ r
unfolding known encoded decoded
encode_decode r e = let b = numbers-back r.kind r.home e in rw (b.0, b.1) refl

pub decode_encode : (o : Object) → decoded (encoded o) ≡ o
unfolding encoded decoded
decode_encode o = rw (kind-back o.kind) refl

-- the objects of records, place by place
pub decoded-at : (rs : List RawObject) (i : ℕ) → get_or (map decoded rs) i zero_object ≡ decoded (get_or rs i zero_raw)
unfolding decoded
decoded-at rs i = get_or-map decoded rs i zero_raw

-- numbers that name no kind are read as a device attached to no space
unknown-kind : (kind home : ℕ) → (eqb kind 3 || (leb kind 2 && eqb home 0)) ≡ false → kind_of kind home ≡ Device (Attached 0)
unknown-kind kind home e =
    by-test (eqb kind 3)
    (λ t. contrary true refl (sym (rw t) ∙ e))
    (λ f. by-test (eqb home 0)
    (λ z. let h : leb kind 2 ≡ false = by-test (leb kind 2) (λ l. contrary true refl (sym (rw (f, l, z)) ∙ e)) (λ l. l) in
    let k : 3 ≤ kind = leb-false kind 2 h in
    rw (f, z, ne_eqb kind 0 (λ q. omega (arith, q, k)), ne_eqb kind 1 (λ q. omega (arith, q, k)), ne_eqb kind 2 (λ q. omega (arith, q, k))))
    (λ z. rw (f, z)))

unknown-bad : (os : List Object) (r : RawObject) → known r ≡ false → object_ok os (decoded r) ≡ false
unfolding known decoded object_ok device_names space_at object_at
unknown-bad os r e = rw (unknown-kind r.kind r.home e)

-- ---- the head

all_known : (os : List Object) (rs : List RawObject) → all (object_ok os) (map decoded rs) ≡ true → all known rs ≡ true
unfolding all
all_known os [] e = refl
all_known os (r ∷ rs) e =
    by-test (known r)
    (λ k. rw k (all_known os rs (and_right (object_ok os (decoded r)) (all (object_ok os) (map decoded rs)) e)))
    (λ k. contrary (object_ok os (decoded r)) (and_left (object_ok os (decoded r)) (all (object_ok os) (map decoded rs)) e) (unknown-bad os r k))

-- THE LAW: every record of a good table has a kind; so a kind that is none makes every call answer 117
pub good-known : (h : Head) (ms : List Mapping) → good (table_of h ms) ≡ true → all known h.objects ≡ true
unfolding table_of objects_ok
good-known h ms g = all_known (map decoded h.objects) h.objects (and_left (objects_ok (map decoded h.objects)) _ (sym (good-grouped (table_of h ms)) ∙ g))

pub unknown-117 : (h : Head) (ms : List Mapping) → all known h.objects ≡ false → good (table_of h ms) ≡ false
unknown-117 h ms e = by-test (good (table_of h ms)) (λ g. contrary (all known h.objects) (good-known h ms g) e) (λ g. g)

same_numbers : (rs : List RawObject) → all known rs ≡ true → map encoded (map decoded rs) ≡ rs
unfolding all
same_numbers [] e = refl
same_numbers (r ∷ rs) e = rw (encode_decode r (and_left (known r) (all known rs) e), same_numbers rs (and_right (known r) (all known rs) e))

-- THE LAW: the head of a good table is encoded to the same numbers
pub head-back : (h : Head) (ms : List Mapping) → good (table_of h ms) ≡ true → head_of (table_of h ms) ≡ h
unfolding head_of table_of
head-back h ms g = rw (same_numbers h.objects (good-known h ms g))

-- THE LAW: objects come back from their numbers
pub same-objects : (os : List Object) → map decoded (map encoded os) ≡ os
same-objects [] = refl
same-objects (o ∷ os) = rw (decode_encode o, same-objects os)

pub table-back : (t : Table) → table_of (head_of t) t.mappings ≡ t
unfolding head_of table_of
table-back t = rw (same-objects t.objects)

-- a record written into the head is the object written into the table
pub decoded-set : (rs : List RawObject) (i : ℕ) (o : Object) → map decoded (set rs i (encoded o)) ≡ set (map decoded rs) i o
decoded-set [] i o = refl
decoded-set (r ∷ rs) zero o = rw (decode_encode o)
decoded-set (r ∷ rs) (suc i) o = rw (decoded-set rs i o)
