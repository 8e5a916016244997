-- A host call on one space changes no mapping, list or device of another. Reach changes nothing: it gives back no table.
use Prim.Native.Nat.{ℕ, suc, ◌-◌}
use Rattle.std.specs.Prelude.{◌≡◌, refl, true, false}
use Rattle.std.proofs.Common.{sym, ◌∙◌, ne_eqb}
use Rattle.std.proofs.Math.Path.{ap}
use native.Mathlib.Omega.{arith}
use Rattle.lists.specs.Tests.{contrary}
use Rattle.lists.specs.Checks.{first}
use Rattle.rangelists.specs.Listed.{Reserved}
use Rattle.rules_table.specs.declared.Object.{Object}
use Rattle.rules_table.specs.declared.Table.{Table}
use Rattle.rules_table.specs.Records.{free_object, is_device, home_of, object_at, space_at, attached_to}
use Rattle.table.specs.Homes.{other-home, loose-home}
use Rattle.rules_table.specs.Charge.{free_record}
use Rattle.table.specs.Sound.{Sound}
use Rattle.table.specs.Replaced.{object_at-slot}
use Rattle.rules_calls.specs.declared.Change.TheVariants.{Put}
use Rattle.rules_calls.specs.Edits.{accept, added, applied}
use Rattle.edits.specs.Untouched.{settle-untouched, put-untouched, added-untouched}
use Rattle.rules_table.specs.Untouched.{Untouched}
use Rattle.rules_calls.specs.Bind.{new_device, bind_edit, bind_rule}
use Rattle.rules_calls.specs.Attach.{attached_object, loose_object, attach_checks, attach_edit, detach_checks, detach_edit}
use Rattle.laws_good.specs.DeviceKept.{device-slot, is-device, not_attached, detach_passed}

-- the record of a device changes, which neither before nor after is attached to s
module _ (s : ℕ) (t : Table) (d : ℕ) (n : Object) (space : space_at t.objects s ≡ true) where
  device-untouched : is_device (object_at t.objects d).kind ≡ true → attached_to s (object_at t.objects d).kind ≡ false → attached_to s n.kind ≡ false → Untouched s t (applied t (accept 0 (Put (d - 1)) n))
  unfolding applied
  device-untouched dev old new =
      let p = device-slot t.objects d dev in
      let q : suc p.0 - 1 ≡ p.0 = omega arith in
      let place : d - 1 ≡ p.0 = ap (λ (x : ℕ). x - 1) p.1 ∙ q in
      rw place (put-untouched s t p.0 n (λ z. contrary (space_at t.objects (suc p.0)) (rw (← z) space) p.3)
      (ap (λ (o : Object). attached_to s o.kind) (sym (object_at-slot t.objects p.0 free_object p.2)) ∙ ap (λ (x : ℕ). attached_to s (object_at t.objects x).kind) (sym p.1) ∙ old) new)

pub bind_untouched : (s : ℕ) (t : Table) (bitmap : ℕ) (l : Reserved) → Sound t → space_at t.objects s ≡ true → Untouched s t (applied t (bind_edit t.objects bitmap l))
unfolding bind_edit new_device
bind_untouched s t bitmap l g space =
    settle-untouched s t (first (bind_rule t.objects bitmap l) 0) (added (free_record t.objects) (new_device bitmap l)) (λ e. added-untouched s t (new_device bitmap l) g space refl)

pub attach_untouched : (s : ℕ) (t : Table) (d h : ℕ) → space_at t.objects s ≡ true → (h ≡ s → ⊥) → Untouched s t (applied t (attach_edit t.objects t.mappings d h))
unfolding attach_edit attached_object
attach_untouched s t d h space ne =
    let o = object_at t.objects d in
    settle-untouched s t (first (attach_checks t.objects t.mappings o h) 0) (accept 0 (Put (d - 1)) (attached_object o h))
    (λ e. device-untouched s t d (attached_object o h) space (is-device t.objects t.mappings o h e) (loose-home o.kind s (not_attached t.objects t.mappings o h e)) (ne_eqb h s ne))

pub detach_untouched : (s : ℕ) (t : Table) (d : ℕ) → space_at t.objects s ≡ true → (home_of (object_at t.objects d).kind ≡ s → ⊥) → Untouched s t (applied t (detach_edit t.objects d))
unfolding detach_edit loose_object
detach_untouched s t d space ne =
    let o = object_at t.objects d in
    settle-untouched s t (first (detach_checks o) 0) (accept 0 (Put (d - 1)) (loose_object o))
    (λ e. device-untouched s t d (loose_object o) space (detach_passed o e) (other-home o.kind s ne) refl)
