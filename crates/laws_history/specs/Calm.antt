-- Calls that leave every mapping and every space as they are: ALLOW_IOVAS, IOVA_RANGES, bind, attach and detach, accepted or refused.
use Rattle.std.specs.Prelude.{ℕ, zero, suc, ◌-◌, ◌<◌, ◌≡◌, refl, true, false, List, eqb, set, Option, None, Some}
use Rattle.std.proofs.Common.{sym, ap, ◌∙◌, arith, eqb-true}
use Rattle.std.proofs.Math.ListN as ListN
use Rattle.std.proofs.lemmas.Bool.{eqb-false}
use Rattle.lists.specs.Tests.{by-test}
use Rattle.lists.specs.Checks.{first}
use Rattle.rangelists.specs.Listed.{Reserved}
use Rattle.wire.specs.Fields.{field}
use Rattle.rules_table.specs.declared.Object.{Object}
use Rattle.rules_table.specs.declared.Table.{Table}
use Rattle.rules_table.specs.Records.{is_space, is_device, object_at, space_at}
use Rattle.rules_table.specs.Charge.{free_record}
use Rattle.table.specs.Replaced.{space_at-slot, space_at-set_same, space_at-set_other}
use Rattle.rules_calls.specs.declared.Change.TheVariants.{Put}
use Rattle.rules_calls.specs.declared.Edit.{Edit}
use Rattle.rules_calls.specs.Edits.{accept, settle, added, applied}
use Rattle.edits.specs.Parts.{put_object}
use Rattle.rules_calls.specs.Answers.{outcome, outcome_id}
use Rattle.edits.specs.Kept.{free-slot}
use Rattle.rules_calls.specs.Bind.{new_device, bind_edit, bind_rule}
use Rattle.rules_calls.specs.Attach.{attached_object, loose_object, attach_checks, attach_edit, detach_checks, detach_edit}
use Rattle.laws_good.specs.DeviceKept.{device-slot, detach_passed, is-device}
use Rattle.rules_calls.specs.Allow.{area_list, with_allow, allow_edit}
use Rattle.rules_calls.specs.Named.{bind_call, attach_call, detach_call, allow_answer}
use Rattle.laws_good.specs.SpaceKept.{allow-space}
use Rattle.rules_calls.specs.Gate.{gate_errno, table_errno}
use Rattle.edits.specs.Numbers.{allow_checks_at, allow_edit_at}

pub record Calm (t u : Table) : Type 0 where
  pub mappings : u.mappings ≡ t.mappings
  pub spaces : (s : ℕ) → space_at u.objects s ≡ space_at t.objects s

pub calm_same : (t : Table) → Calm t t
calm_same t = record { mappings = refl; spaces = λ s. refl }

-- an object that is a space exactly if the one before it was
pub spaces-put : (os : List Object) (i : ℕ) (n : Object) → i < ListN.length os → is_space n.kind ≡ space_at os (suc i) → (s : ℕ) → space_at (set os i n) s ≡ space_at os s
spaces-put os i n h e s =
    by-test (eqb s (suc i))
    (λ q. let z : s ≡ suc i = eqb-true s (suc i) q in rw z (space_at-set_same os i n h ∙ e))
    (λ q. space_at-set_other os i n s (eqb-false s (suc i) q))

put-calm : (t : Table) (i : ℕ) (n : Object) → i < ListN.length t.objects → is_space n.kind ≡ space_at t.objects (suc i) → Calm t (put_object t i n)
unfolding applied
put-calm t i n h e = record { mappings = refl; spaces = spaces-put t.objects i n h e }

settle-calm : (t : Table) (n : ℕ) (e : Edit) → (n ≡ 0 → Calm t (applied t e)) → Calm t (applied t (settle n e))
unfolding applied
settle-calm t zero e h = h refl
settle-calm t (suc n) e h = calm_same t

-- a device in a free record
added-calm : (t : Table) (n : Object) → is_space n.kind ≡ false → Calm t (applied t (added (free_record t.objects) n))
unfolding applied
added-calm t n e = go (free_record t.objects) refl
  where
    go : (o : Option ℕ) → free_record t.objects ≡ o → Calm t (applied t (added o n))
    go None f = calm_same t
    go (Some i) f = let p = free-slot t.objects i f in put-calm t i n p.0 (e ∙ sym p.1)

-- a device stays a device
device-calm : (t : Table) (d : ℕ) (n : Object) → is_space n.kind ≡ false → is_device (object_at t.objects d).kind ≡ true → Calm t (applied t (accept 0 (Put (d - 1)) n))
unfolding applied
device-calm t d n e k =
    let p = device-slot t.objects d k in
    let z : suc p.0 - 1 ≡ p.0 = omega arith in
    let q : d - 1 ≡ p.0 = ap (λ (x : ℕ). x - 1) p.1 ∙ z in
    rw q (put-calm t p.0 n p.2 (e ∙ sym p.3))

-- a space stays a space
allow-put : (t : Table) (h : ℕ) (n : Object) → is_space n.kind ≡ true → space_at t.objects h ≡ true → Calm t (applied t (accept 0 (Put (h - 1)) n))
unfolding applied
allow-put t h n k sp =
    let p = space_at-slot t.objects h sp in
    let z : suc p.0 - 1 ≡ p.0 = omega arith in
    let q : h - 1 ≡ p.0 = ap (λ (x : ℕ). x - 1) p.1 ∙ z in
    rw q (put-calm t p.0 n p.2 (k ∙ sym (ap (space_at t.objects) (sym p.1) ∙ sp)))

space-kind : (t : Table) (h : ℕ) → space_at t.objects h ≡ true → is_space (object_at t.objects h).kind ≡ true
unfolding space_at
space-kind t h e = e

pub allow-calm : (t : Table) (bytes area : List ℕ) → Calm t (allow_answer t bytes area).table
unfolding allow_answer outcome allow_edit with_allow
allow-calm t bytes area =
    settle-calm t (gate_errno t 0x3B82 bytes) (allow_edit_at t.objects (field 4 bytes 4) (field 4 bytes 8) (field 4 bytes 12) area) (λ z.
    settle-calm t (first (allow_checks_at t.objects (field 4 bytes 4) (field 4 bytes 8) (field 4 bytes 12) area) 0) (accept 0 (Put (field 4 bytes 4 - 1)) (with_allow (object_at t.objects (field 4 bytes 4)) (area_list (field 4 bytes 8) area))) (λ e.
    let sp = allow-space t.objects (field 4 bytes 4) (field 4 bytes 8) (field 4 bytes 12) area e in
    allow-put t (field 4 bytes 4) (with_allow (object_at t.objects (field 4 bytes 4)) (area_list (field 4 bytes 8) area)) (space-kind t (field 4 bytes 4) sp) sp))

pub bind_calm : (t : Table) (bitmap : ℕ) (l : Reserved) → Calm t (bind_call t bitmap l).table
unfolding bind_call outcome_id bind_edit new_device
bind_calm t bitmap l =
    settle-calm t (table_errno t) (bind_edit t.objects bitmap l) (λ z. settle-calm t (first (bind_rule t.objects bitmap l) 0) (added (free_record t.objects) (new_device bitmap l)) (λ e. added-calm t (new_device bitmap l) refl))

pub attach_calm : (t : Table) (d s : ℕ) → Calm t (attach_call t d s).table
unfolding attach_call outcome attach_edit attached_object
attach_calm t d s =
    settle-calm t (table_errno t) (attach_edit t.objects t.mappings d s) (λ z.
    settle-calm t (first (attach_checks t.objects t.mappings (object_at t.objects d) s) 0) (accept 0 (Put (d - 1)) (attached_object (object_at t.objects d) s)) (λ e.
    device-calm t d (attached_object (object_at t.objects d) s) refl (is-device t.objects t.mappings (object_at t.objects d) s e)))

pub detach_calm : (t : Table) (d : ℕ) → Calm t (detach_call t d).table
unfolding detach_call outcome detach_edit loose_object
detach_calm t d =
    settle-calm t (table_errno t) (detach_edit t.objects d) (λ z.
    settle-calm t (first (detach_checks (object_at t.objects d)) 0) (accept 0 (Put (d - 1)) (loose_object (object_at t.objects d))) (λ e.
    device-calm t d (loose_object (object_at t.objects d)) refl (detach_passed (object_at t.objects d) e)))
