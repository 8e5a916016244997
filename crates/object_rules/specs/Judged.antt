-- An object judged by itself and by the one record that it names: the rule of good objects, without the list. `judged-ok` says that nothing is lost.
use Rattle.std.specs.Prelude.{ℕ, zero, suc, ◌+◌, ◌-◌, ◌≤◌, ◌<◌, ◌≡◌, refl, Bool, true, false, not, ◌&&◌, cond, List, leb, length, get_or}
use Rattle.std.proofs.Common.{sym, ap, ◌∙◌, arith, leb-true, leb-false, le-leb}
use Rattle.std.proofs.Math.ListN.{get_or-eq_default}
use Rattle.lists.specs.Tests.{by-test, contrary, and_not_right}
use Rattle.rangelists.specs.Listed.{reserved, allowed}
use Rattle.rules_table.specs.declared.Attachment.TheVariants.{Loose, Attached}
use Rattle.rules_table.specs.declared.Attachment.{Attachment}
use Rattle.rules_table.specs.declared.Kind.{Kind}
use Rattle.rules_table.specs.declared.Kind.TheVariants.{Free, Space, Device}
use Rattle.rules_table.specs.declared.Object.{Object}
use Rattle.rules_table.specs.Records.{is_space, zero_object, free_object, object_at, space_at}
use Rattle.rules_table.specs.Fits.{device_fits, list_fits}
use Rattle.rules_table.specs.Good.{lists_touch, device_names, device_valid, list_valid, list_clear, object_zero, reserved_rest, allow_rest, no_device, no_list}
use Rattle.table.specs.Checked.{object_ok, object_by}
use Rattle.table.specs.Replaced.{object_at-slot, object_at-past}

-- the device o may be attached to the record h
unfoldable pub home_fits : Object → Object → Bool
home_fits h o = is_space h.kind && not (lists_touch (reserved o.reserved) (allowed h.allow))

-- where it is attached: to one of the 32 records, which it may be attached to
abbrev pub attach_fits : Object → Object → Attachment → Bool
attach_fits h o Loose = true
attach_fits h o (Attached s) = leb 1 s && (leb s 32 && home_fits h o)

-- the rules of each kind; h is the record that the object names
abbrev pub fits_by : Object → Object → Kind → Bool
fits_by h o Free = no_device o && no_list o
fits_by h o Space = list_fits o && (no_device o && allow_rest o)
fits_by h o (Device a) = device_fits o && (attach_fits h o a && (reserved_rest o && no_list o))

-- the place of that record, and 0 where the object names none of the 32
abbrev pub place_by : Attachment → ℕ
place_by Loose = 0
place_by (Attached s) = cond (leb 1 s && leb s 32) (s - 1) 0

abbrev pub named_place : Kind → ℕ
named_place Free = 0
named_place Space = 0
named_place (Device a) = place_by a

-- ---- the record with an id

-- its kind is read as a loop reads it
pub space_at-slot : (os : List Object) (i : ℕ) → space_at os (1 + i) ≡ is_space (get_or os i zero_object).kind
unfolding space_at
space_at-slot os i =
    let e : 1 + i ≡ suc i = omega arith in
    rw e (by-test (leb (length os) i)
    (λ t. let h = leb-true (length os) i t in ap (λ (o : Object). is_space o.kind) (object_at-past os (suc i) (omega arith))
    ∙ ap (λ (o : Object). is_space o.kind) (sym (get_or-eq_default os zero_object h)))
    (λ t. ap (λ (o : Object). is_space o.kind) (object_at-slot os i zero_object (leb-false (length os) i t))))

pub space_at-past : (os : List Object) (s : ℕ) → length os < s → space_at os s ≡ false
unfolding space_at
space_at-past os s h = ap (λ (o : Object). is_space o.kind) (object_at-past os s h)

-- an id that names a space is from 1 to the number of records
pub space_at-pos : (os : List Object) (s : ℕ) → space_at os s ≡ true → 1 ≤ s
unfolding space_at object_at
space_at-pos os zero e = contrary false e refl
space_at-pos os (suc i) e = omega arith

pub space_at-upto : (os : List Object) (s : ℕ) → space_at os s ≡ true → s ≤ length os
space_at-upto os s e =
    by-test (leb s (length os))
    (λ t. leb-true s (length os) t)
    (λ t. contrary (space_at os s) e (space_at-past os s (leb-false s (length os) t)))

-- ---- the two forms of the rule

regroup : (space device clear rest : Bool) → (device && ((space && clear) && rest)) ≡ (space && (device && (clear && rest)))
regroup true device clear rest = refl
regroup false device clear rest = and_not_right device false refl

object_at-zero : (os : List Object) → object_at os 0 ≡ free_object
unfolding object_at
object_at-zero os = refl

judged-by : (os : List Object) (o : Object) (k : Kind) → length os ≡ 32
    → fits_by (get_or os (named_place k) zero_object) o k ≡ object_by os o k
unfolding home_fits space_at
judged-by os o Free e = refl
judged-by os o Space e = refl
judged-by os o (Device Loose) e = refl
judged-by os o (Device (Attached zero)) e =
    rw (object_at-zero os) (and_not_right (device_fits o) (attach_fits (get_or os 0 zero_object) o (Attached 0) && (reserved_rest o && no_list o)) refl)
judged-by os o (Device (Attached (suc i))) e =
    by-test (leb (suc i) 32)
    (λ t. let p : suc i - 1 ≡ i = omega arith in
    let h = leb-true (suc i) 32 t in
    rw (le-leb 1 (suc i) (omega arith), t, p, object_at-slot os i zero_object (omega arith))
    (regroup (is_space (get_or os i zero_object).kind) (device_fits o) (not (lists_touch (reserved o.reserved) (allowed (get_or os i zero_object).allow)))
    (reserved_rest o && no_list o)))
    (λ t. let h = leb-false (suc i) 32 t in
    rw (le-leb 1 (suc i) (omega arith), t, object_at-past os (suc i) (omega arith)) (and_not_right (device_fits o) false refl))

pub judged-ok : (os : List Object) (o : Object) → length os ≡ 32 → fits_by (get_or os (named_place o.kind) zero_object) o o.kind ≡ object_ok os o
unfolding object_ok device_names device_valid list_valid list_clear object_zero
judged-ok os o e = judged-by os o o.kind e
