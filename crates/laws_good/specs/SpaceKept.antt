-- IOAS_ALLOC, DESTROY and ALLOW_IOVAS keep a good table good.
use Rattle.std.specs.Prelude.{ℕ, zero, suc, ◌+◌, ◌-◌, ◌*◌, ◌≤◌, ◌<◌, min, ◌≡◌, refl, Bool, not, ◌&&◌, cond, List, [], ◌∷◌, leb, eqb, get_or, set, drop}
use Rattle.std.proofs.Common.{sym, ◌∙◌, arith}
use Rattle.std.proofs.Math.Path.{ap}
use Rattle.std.proofs.Math.Bool.{true, false}
use Rattle.std.proofs.Math.ListN.{get_or-eq_default}
use Rattle.std.proofs.Math.ListN as ListN
use borrow.Author.Tests.{eqb-true, eqb-false, leb-true, leb-false, ltb-false, le-ltb, not-false}
use Rattle.lists.specs.Tests.{by-test, contrary, and_left, and_right, and_both, or_not_left, or_not_right}
use Rattle.lists.specs.Search.{any, all}
use Rattle.lists.specs.Each.{Each-imp, Each-of, Each-any_false}
use Rattle.lists.specs.Pairs.{clashes}
use Rattle.lists.specs.Checks.{when, first, passed}
use Rattle.ranges.specs.declared.Range.{Range}
use Rattle.ranges.specs.Ranges.{share}
use Rattle.rangelists.specs.Listed.{listed, reserved, allowed, valid, overlap, ranges_in}
use Rattle.wire.specs.Fields.{field, zeros}
use Rattle.rules_table.specs.declared.Kind.{Kind}
use Rattle.rules_table.specs.declared.Kind.TheVariants.{Free, Space, Device}
use Rattle.rules_table.specs.declared.Object.{Object}
use Rattle.rules_table.specs.declared.Mapping.{Mapping}
use Rattle.rules_table.specs.declared.Table.{Table}
use Rattle.rules_table.specs.Records.{free_object, new_space, is_free, is_space, is_attached, object_at, space_at, attached_to}
use Rattle.rules_table.specs.Spaces.{reserved_for, reserved_of}
use Rattle.table.specs.Aligned.{any-reserved_of}
use Rattle.rules_table.specs.Charge.{free_record}
use Rattle.rules_table.specs.Fits.{list_fits}
use Rattle.rules_table.specs.Good.{device_names, device_valid, list_valid, list_clear, object_zero, no_device, no_list, reserved_rest, allow_rest, lists_touch}
use Rattle.table.specs.Checked.{object_ok, list_by, object_by}
use Rattle.table.specs.Sound.{Sound}
use Rattle.table.specs.Facts.{UsedOk}
use Rattle.table.specs.Replaced.{object_at-ok, space_at-slot, space_at-set_same, space_at-set_other, hosts_none, Hosts}
use Rattle.table.specs.Moved.{Quiet}
use Rattle.rules_calls.specs.declared.Change.TheVariants.{Put}
use Rattle.rules_calls.specs.Edits.{accept, added, applied}
use Rattle.edits.specs.Parts.{put_object}
use Rattle.edits.specs.Kept.{put-sound, drop_sound, free-ok, quiet_bears, elsewhere, settle-sound, added-sound}
use Rattle.rules_calls.specs.Objects.{alloc_checks, alloc_edit, in_use, destroy_checks, removal, destroy_edit}
use Rattle.rules_calls.specs.Allow.{number_at, column, area_list, with_allow, list_checks, allow_edit, allow_number_checks, allow_checks}
use Rattle.edits.specs.Numbers.{allow_checks_at, allow_edit_at}

-- ---- IOAS_ALLOC

new_space-ok : (os : List Object) → object_ok os new_space ≡ true
unfolding object_ok device_names device_valid list_valid list_clear object_zero no_device no_list reserved_rest allow_rest list_fits zeros all any valid overlap ranges_in listed clashes
new_space-ok os = refl

quiet_space : Quiet new_space
quiet_space s = refl

pub alloc-sound : (t : Table) (flags : ℕ) → Sound t → Sound (applied t (alloc_edit t.objects flags))
unfolding alloc_edit
alloc-sound t flags g = settle-sound t (first (alloc_checks t.objects flags) 0) (added (free_record t.objects) new_space) g (λ e. added-sound t new_space g quiet_space new_space-ok)

-- ---- DESTROY

module _ (os : List Object) (id : ℕ) (e : first (destroy_checks os id) 0 ≡ 0) where
  destroy_passed : (i : ℕ) → i < 2 → (get_or (destroy_checks os id) i (when false 0)).fires ≡ false
  unfolding destroy_checks
  destroy_passed i h = passed (destroy_checks os id) 0 (when false 0) (λ z. omega (arith, z), (λ z. omega (arith, z), tt)) e i h

  pub is-object : is_free (object_at os id).kind ≡ false
  unfolding destroy_checks
  is-object = destroy_passed 0 (omega arith)

  pub is-loose : is_attached (object_at os id).kind ≡ false
  unfolding destroy_checks in_use
  is-loose = or_not_left (is_attached (object_at os id).kind) (any (λ o. attached_to id o.kind) os) (destroy_passed 1 (omega arith))

  none-there : any (λ o. attached_to id o.kind) os ≡ false
  unfolding destroy_checks in_use
  none-there = or_not_right (is_attached (object_at os id).kind) (any (λ o. attached_to id o.kind) os) (destroy_passed 1 (omega arith))

-- an id that is an object has a place
pub object-slot : (os : List Object) (id : ℕ) → is_free (object_at os id).kind ≡ false → (i : ℕ) × (id ≡ suc i) × (i < ListN.length os)
unfolding object_at
object-slot os zero e = contrary true refl e
object-slot os (suc i) e =
    by-test (leb (ListN.length os) i)
    (λ t. contrary true refl (ap (λ (o : Object). is_free o.kind) (sym (get_or-eq_default os free_object (leb-true (ListN.length os) i t))) ∙ e))
    (λ t. (i, refl, leb-false (ListN.length os) i t))

quiet_free : Quiet free_object
quiet_free s = refl

-- a record that is no space, with nothing attached, is released
free-put : (t : Table) (i : ℕ) → Sound t → i < 32 → is_space (object_at t.objects (suc i)).kind ≡ false → any (λ o. attached_to (suc i) o.kind) t.objects ≡ false → Sound (put_object t i free_object)
unfolding space_at
free-put t i g h lone alone =
    put-sound t i free_object g h (hosts_none t.objects i free_object alone) (free-ok (set t.objects i free_object))
    (Each-of _ t.mappings (λ m u k. quiet_bears t.objects i free_object m quiet_free (elsewhere t.objects i free_object m lone k)))

removed-sound : (t : Table) (i : ℕ) (k : Kind) → Sound t → i < 32 → (object_at t.objects (suc i)).kind ≡ k → any (λ o. attached_to (suc i) o.kind) t.objects ≡ false
    → Sound (applied t (accept 0 (removal k i) free_object))
unfolding applied
removed-sound t i Free g h e alone = free-put t i g h (ap is_space e) alone
removed-sound t i Space g h e alone = drop_sound t i g h alone
removed-sound t i (Device a) g h e alone = free-put t i g h (ap is_space e) alone

pub destroy_sound : (t : Table) (id : ℕ) → Sound t → Sound (applied t (destroy_edit t.objects id))
unfolding destroy_edit
destroy_sound t id g =
    settle-sound t (first (destroy_checks t.objects id) 0) (accept 0 (removal (object_at t.objects id).kind (id - 1)) free_object) g
    (λ e.
    let p = object-slot t.objects id (is-object t.objects id e) in
    let s : suc p.0 - 1 ≡ p.0 = omega arith in
    let place : id - 1 ≡ p.0 = ap (λ (x : ℕ). x - 1) p.1 ∙ s in
    rw place (removed-sound t p.0 (object_at t.objects id).kind g (omega (arith, p.2, g.places)) (ap (λ (x : ℕ). (object_at t.objects x).kind) (sym p.1))
    (rw (← p.1) (none-there t.objects id e))))

-- ---- ALLOW_IOVAS

module _ (os : List Object) (s count z : ℕ) (area : List ℕ) (e : first (allow_checks_at os s count z area) 0 ≡ 0) where
  allow-passed : (i : ℕ) → i < 6 → (get_or (allow_checks_at os s count z area) i (when false 0)).fires ≡ false
  unfolding allow_checks allow_number_checks list_checks
  allow-passed i h =
      passed (allow_checks_at os s count z area) 0 (when false 0)
      (λ y. omega (arith, y), (λ y. omega (arith, y), (λ y. omega (arith, y), (λ y. omega (arith, y), (λ y. omega (arith, y), (λ y. omega (arith, y), tt)))))) e i h

  pub allow-space : space_at os s ≡ true
  unfolding allow_checks allow_number_checks list_checks
  allow-space = not-false (space_at os s) (allow-passed 1 (omega arith))

  allow-count : count ≤ 8
  unfolding allow_checks allow_number_checks list_checks
  allow-count = ltb-false 8 count (allow-passed 2 (omega arith))

  allow-valid : valid (allowed (area_list count area)) ≡ true
  unfolding allow_checks allow_number_checks list_checks
  allow-valid = not-false (valid (allowed (area_list count area))) (or_not_left (not (valid (allowed (area_list count area)))) (overlap (allowed (area_list count area))) (allow-passed 4 (omega arith)))

  allow-apart : overlap (allowed (area_list count area)) ≡ false
  unfolding allow_checks allow_number_checks list_checks
  allow-apart = or_not_right (not (valid (allowed (area_list count area)))) (overlap (allowed (area_list count area))) (allow-passed 4 (omega arith))

  allow-clear : lists_touch (reserved_of os s) (allowed (area_list count area)) ≡ false
  unfolding allow_checks allow_number_checks list_checks
  allow-clear = allow-passed 5 (omega arith)

-- the places beyond the count are zero
drop_zeros : (n : ℕ) → zeros (drop n []) ≡ true
unfolding zeros all
drop_zeros zero = refl
drop_zeros (suc n) = refl

zeros-drop : (x : ℕ) (xs : List ℕ) (n m : ℕ) (b : Bool) → leb n m ≡ b → (b ≡ true → x ≡ 0) → zeros (drop (n - (m + 1)) xs) ≡ true → zeros (drop (n - m) (x ∷ xs)) ≡ true
unfolding zeros all
zeros-drop x xs n m true e h k =
    let le = leb-true n m e in
    let p : n - m ≡ 0 = omega arith in
    let q : n - (m + 1) ≡ 0 = omega arith in
    rw (p, h refl) (rw q at k)
zeros-drop x xs n m false e h k =
    let lt = leb-false n m e in
    let p : n - m ≡ suc (n - (m + 1)) = omega arith in
    rw p k

column-rest : (off n k room : ℕ) (area : List ℕ) → zeros (drop (n - k) (column off n k room area)) ≡ true
unfolding column number_at
column-rest off n k zero area = drop_zeros (n - k)
column-rest off n k (suc room) area =
    zeros-drop (number_at off n k area) (column off n (k + 1) room area) n k (leb n k) refl
    (λ e. ap (λ (b : Bool). cond b (field 8 area (16 * k + off)) 0) (le-ltb k n (leb-true n k e))) (column-rest off n (k + 1) room area)

column-zero : (off n : ℕ) (area : List ℕ) → n ≤ 8 → zeros (drop (min n 8) (column off n 0 8 area)) ≡ true
column-zero off n area h = let e : min n 8 ≡ n - 0 = omega arith in rw e (column-rest off n 0 8 area)

-- a list that touches nothing reserved in the space touches no range of a device attached to it
clear-all : (os : List Object) (s : ℕ) (qs : List Range) → lists_touch (reserved_of os s) qs ≡ false → any (λ o. any (λ r. any (share r) qs) (reserved_for s o)) os ≡ false
unfolding lists_touch
clear-all os s qs e = sym (any-reserved_of (λ r. any (share r) qs) os s) ∙ e

clear_of-none : (s : ℕ) (o : Object) (qs : List Range) → any (λ r. any (share r) qs) (reserved_for s o) ≡ false → attached_to s o.kind ≡ true → lists_touch (reserved o.reserved) qs ≡ false
unfolding reserved_for lists_touch
clear_of-none s o qs c a = sym (rw a) ∙ c

-- the rules of a space that has no device's fields
space-by : (os : List Object) (o : Object) (k : Kind) → is_space k ≡ true → object_by os o k ≡ true → no_device o ≡ true
space-by os o Free s e = contrary false s refl
space-by os o Space s e = let l = list_by o Space in and_left (no_device o) (allow_rest o) (and_right l (true && (no_device o && allow_rest o)) e)
space-by os o (Device a) s e = contrary false s refl

space-no_device : (os : List Object) (o : Object) → is_space o.kind ≡ true → object_ok os o ≡ true → no_device o ≡ true
unfolding object_ok device_names device_valid list_valid list_clear object_zero
space-no_device os o s e = space-by os o o.kind s e

pub is-kind : (k : Kind) → is_space k ≡ true → k ≡ Space
is-kind Free e = contrary false e refl
is-kind Space e = refl
is-kind (Device a) e = contrary false e refl

module _ (t : Table) (s count z : ℕ) (area : List ℕ) (g : Sound t) (e : first (allow_checks_at t.objects s count z area) 0 ≡ 0) where
  kind-space : (object_at t.objects s).kind ≡ Space
  unfolding space_at
  kind-space = is-kind (object_at t.objects s).kind (allow-space t.objects s count z area e)

  -- the new record keeps the rules of objects
  listed_ok : (qs : List Object) (i : ℕ) → s ≡ suc i → i < ListN.length t.objects → object_ok qs (with_allow (object_at t.objects s) (area_list count area)) ≡ true
  unfolding object_ok device_names device_valid list_valid list_clear object_zero list_fits with_allow no_device reserved_rest allow_rest area_list any
  listed_ok qs i p h =
      let o = object_at t.objects s in
      let ok : object_ok t.objects o ≡ true = rw p (object_at-ok t.objects i h g.objects) in
      let dev = space-no_device t.objects o (ap is_space kind-space) ok in
      let n = allow-count t.objects s count z area e in
      rw (kind-space, le-ltb 8 count n, allow-valid t.objects s count z area e, allow-apart t.objects s count z area e, column-zero 0 count area n, column-zero 8 count area n) (and_both (no_device o) true dev refl)

  quiet_listed : Quiet (with_allow (object_at t.objects s) (area_list count area))
  unfolding with_allow
  quiet_listed x = ap (attached_to x) kind-space

  -- the devices attached to the space can stay
  hosts_listed : (i : ℕ) → s ≡ suc i → Hosts t.objects i (with_allow (object_at t.objects s) (area_list count area))
  unfolding with_allow
  hosts_listed i p =
      Each-imp (λ (o : Object). any (λ r. any (share r) (allowed (area_list count area))) (reserved_for s o) ≡ false) _ t.objects
      (λ o c a. (ap is_space kind-space, stays o c (rw p a)))
      (Each-any_false (λ o. any (λ r. any (share r) (allowed (area_list count area))) (reserved_for s o)) t.objects clear)
    where
      clear : any (λ o. any (λ r. any (share r) (allowed (area_list count area))) (reserved_for s o)) t.objects ≡ false
      clear = clear-all t.objects s (allowed (area_list count area)) (allow-clear t.objects s count z area e)

      stays : (o : Object) → any (λ r. any (share r) (allowed (area_list count area))) (reserved_for s o) ≡ false → attached_to s o.kind ≡ true → lists_touch (reserved o.reserved) (allowed (area_list count area)) ≡ false
      stays o c a = clear_of-none s o (allowed (area_list count area)) c a

  names-listed : (i : ℕ) (m : Mapping) → s ≡ suc i → i < ListN.length t.objects → UsedOk t.objects m → space_at (set t.objects i (with_allow (object_at t.objects s) (area_list count area))) m.space ≡ true
  unfolding with_allow
  names-listed i m p h k =
      by-test (eqb m.space (suc i))
      (λ q. rw (eqb-true m.space (suc i) q) (space_at-set_same t.objects i (with_allow (object_at t.objects s) (area_list count area)) h ∙ ap is_space kind-space))
      (λ q. space_at-set_other t.objects i (with_allow (object_at t.objects s) (area_list count area)) m.space (eqb-false m.space (suc i) q) ∙ k.names)

pub allow-sound : (t : Table) (s count z : ℕ) (area : List ℕ) → Sound t → Sound (applied t (allow_edit_at t.objects s count z area))
unfolding allow_edit applied
allow-sound t s count z area g =
    settle-sound t (first (allow_checks_at t.objects s count z area) 0) (accept 0 (Put (s - 1)) (with_allow (object_at t.objects s) (area_list count area))) g
    (λ e.
    let n = with_allow (object_at t.objects s) (area_list count area) in
    let p = space_at-slot t.objects s (allow-space t.objects s count z area e) in
    let q : suc p.0 - 1 ≡ p.0 = omega arith in
    let place : s - 1 ≡ p.0 = ap (λ (x : ℕ). x - 1) p.1 ∙ q in
    rw place (put-sound t p.0 n g (omega (arith, p.2, g.places)) (hosts_listed t s count z area g e p.0 p.1) (listed_ok t s count z area g e (set t.objects p.0 n) p.0 p.1 p.2)
    (Each-of _ t.mappings (λ m u k. quiet_bears t.objects p.0 n m (quiet_listed t s count z area g e) (names-listed t s count z area g e p.0 m p.1 p.2 k)))))
