-- A command on one space changes no mapping, list or device of another. IOVA_RANGES changes nothing of the table.
use Rattle.std.specs.Prelude.{ℕ, suc, ◌-◌, ◌<◌, ◌≡◌, refl, true, false, List, get_or}
use Rattle.std.proofs.Common.{sym, ap, ◌∙◌, arith}
use Rattle.std.proofs.Math.ListN as ListN
use Rattle.lists.specs.Checks.{first}
use Rattle.rules_table.specs.declared.Kind.{Kind}
use Rattle.rules_table.specs.declared.Kind.TheVariants.{Free, Space, Device}
use Rattle.rules_table.specs.declared.Object.{Object}
use Rattle.rules_table.specs.declared.Table.{Table}
use Rattle.rules_table.specs.Records.{free_object, new_space, object_at, space_at, attached_to}
use Rattle.table.specs.Homes.{loose-home}
use Rattle.rules_table.specs.Charge.{free_record}
use Rattle.table.specs.Sound.{Sound}
use Rattle.table.specs.Replaced.{object_at-slot, space_at-slot}
use Rattle.rules_calls.specs.declared.Change.TheVariants.{Put}
use Rattle.rules_calls.specs.Edits.{accept, added, applied}
use Rattle.edits.specs.Untouched.{settle-untouched, put-untouched, drop_untouched, added-untouched}
use Rattle.rules_table.specs.Untouched.{Untouched}
use Rattle.rules_calls.specs.Objects.{alloc_checks, alloc_edit, destroy_checks, removal, destroy_edit}
use Rattle.rules_calls.specs.Allow.{area_list, with_allow, allow_edit}
use Rattle.laws_good.specs.SpaceKept.{object-slot, is-object, is-loose, allow-space, is-kind}
use Rattle.edits.specs.Numbers.{allow_checks_at, allow_edit_at}

pub alloc-untouched : (s : ℕ) (t : Table) (flags : ℕ) → Sound t → space_at t.objects s ≡ true → Untouched s t (applied t (alloc_edit t.objects flags))
unfolding alloc_edit
alloc-untouched s t flags g space = settle-untouched s t (first (alloc_checks t.objects flags) 0) (added (free_record t.objects) new_space) (λ e. added-untouched s t new_space g space refl)

at_slot : (os : List Object) (s id i : ℕ) → id ≡ suc i → i < ListN.length os → attached_to s (object_at os id).kind ≡ false → attached_to s (get_or os i free_object).kind ≡ false
at_slot os s id i p h e = ap (λ (o : Object). attached_to s o.kind) (sym (object_at-slot os i free_object h)) ∙ ap (λ (x : ℕ). attached_to s (object_at os x).kind) (sym p) ∙ e

removed-untouched : (s : ℕ) (t : Table) (i : ℕ) (k : Kind) → (s ≡ suc i → ⊥) → attached_to s (get_or t.objects i free_object).kind ≡ false → Untouched s t (applied t (accept 0 (removal k i) free_object))
unfolding applied
removed-untouched s t i Free ne old = put-untouched s t i free_object ne old refl
removed-untouched s t i Space ne old = drop_untouched s t i ne old
removed-untouched s t i (Device a) ne old = put-untouched s t i free_object ne old refl

pub destroy_untouched : (s : ℕ) (t : Table) (id : ℕ) → (id ≡ s → ⊥) → Untouched s t (applied t (destroy_edit t.objects id))
unfolding destroy_edit
destroy_untouched s t id ne =
    let os = t.objects in
    settle-untouched s t (first (destroy_checks os id) 0) (accept 0 (removal (object_at os id).kind (id - 1)) free_object)
    (λ e.
    let p = object-slot os id (is-object os id e) in
    let q : suc p.0 - 1 ≡ p.0 = omega arith in
    let place : id - 1 ≡ p.0 = ap (λ (x : ℕ). x - 1) p.1 ∙ q in
    rw place (removed-untouched s t p.0 (object_at os id).kind (λ z. ne (p.1 ∙ sym z)) (at_slot os s id p.0 p.1 p.2 (loose-home (object_at os id).kind s (is-loose os id e)))))

space-kind : (os : List Object) (h : ℕ) → space_at os h ≡ true → (object_at os h).kind ≡ Space
unfolding space_at
space-kind os h e = is-kind (object_at os h).kind e

pub allow-untouched : (s : ℕ) (t : Table) (h count z : ℕ) (area : List ℕ) → (h ≡ s → ⊥) → Untouched s t (applied t (allow_edit_at t.objects h count z area))
unfolding allow_edit applied with_allow
allow-untouched s t h count z area ne =
    let os = t.objects in
    settle-untouched s t (first (allow_checks_at os h count z area) 0) (accept 0 (Put (h - 1)) (with_allow (object_at os h) (area_list count area)))
    (λ e.
    let sp = allow-space os h count z area e in
    let p = space_at-slot os h sp in
    let k = space-kind os h sp in
    let q : suc p.0 - 1 ≡ p.0 = omega arith in
    let place : h - 1 ≡ p.0 = ap (λ (x : ℕ). x - 1) p.1 ∙ q in
    rw place (put-untouched s t p.0 (with_allow (object_at os h) (area_list count area)) (λ y. ne (p.1 ∙ sym y)) (at_slot os s h p.0 p.1 p.2 (ap (attached_to s) k)) (ap (attached_to s) k)))
