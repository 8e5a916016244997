-- What each return of the code gives, in the words of the definitions.
use Prim.Native.Nat.{ℕ, zero, suc, ◌<◌}
use mathlib.Core.Path.{◌≡◌, refl, sym, ap, subst, ◌∙◌}
use mathlib.Core.Bool.{Bool, true, false, not, ◌&&◌, ◌||◌}
use mathlib.Core.List.{List}
use native.Mathlib.Omega.{arith}
use lib.IntN.{ℤ}
use lib.Dec.{ltb}
use lib.ListN.{length, get_or, get_or-eq_default}
use borrow.Author.Tests.{ltb-true, ltb-false}
use Rattle.lists.specs.Tests.{by-test, contrary, and_left, and_right, or_other}
use Rattle.lists.specs.Search.{all-at}
use Rattle.lists.specs.Ends.{get_d_any}
use Rattle.lists.specs.Checks.{first}
use Rattle.rangelists.specs.Listed.{Reserved}
use Rattle.rules_calls.specs.Results.{signed_result}
use Rattle.rules_table.specs.declared.Table.{Table}
use Rattle.rules_table.specs.Charge.{free_record}
use Rattle.rules_table.specs.declared.Object.{Object}
use Rattle.rules_table.specs.declared.Mapping.{Mapping}
use Rattle.rules_table.specs.Records.{zero_object, free_object, object_at, space_at, is_space, is_attached, home_of}
use Rattle.rules_table.specs.Good.{good, device_names}
use Rattle.table.specs.Checked.{object_ok, objects_ok}
use Rattle.rules_calls.specs.declared.Edit.{Edit}
use Rattle.rules_calls.specs.Edits.{refuse, settle, added}
use Rattle.edits.specs.Kept.{added-value}
use Rattle.rules_calls.specs.Bind.{new_device, bind_edit, bind_rule}
use Rattle.rules_calls.specs.Attach.{attach_edit}
use Rattle.rules_calls.specs.declared.Act.{Act}
use Rattle.rules_calls.specs.declared.Act.TheVariants.{Attach}
use Rattle.rules_calls.specs.declared.Order.{Order}
use Rattle.rules_calls.specs.declared.Reached.{Reached}
use Rattle.rules_calls.specs.Gate.{table_errno}
use Rattle.rules_calls.specs.Orders.{bind_order, reached_by, act_edit, host_edit}
use Rattle.rules_index.specs.Index.{agrees}
use Rattle.rules_index.specs.Board.{Board, board_host}
use Rattle.index.specs.Boards.{guarded-same, guarded-other, bad-host, made-host}

-- 117: the table is bad, or the index is not its own
pub board_bad : (b : Board) (o : Order) (e : Edit) → (good b.table && agrees b.index b.table.mappings) ≡ false → e ≡ refuse 117 → e ≡ board_host b o
unfolding board_host
board_bad b o e v h =
    by-test (agrees b.index b.table.mappings)
    (λ a.
    let bad : good b.table ≡ false = sym (and_on (good b.table) (agrees b.index b.table.mappings) a) ∙ v in
    h ∙ sym (bad-host b.table o bad) ∙ sym (guarded-same b (host_edit b.table o) a))
    (λ a. h ∙ sym (guarded-other b (host_edit b.table o) a))
  where
    and_on : (x y : Bool) → y ≡ true → (x && y) ≡ x
    and_on true y f = f
    and_on false y f = refl

pub board_good : (b : Board) (o : Order) (e : Edit) → (good b.table && agrees b.index b.table.mappings) ≡ true → e ≡ act_edit b.table o o.act → e ≡ board_host b o
unfolding board_host host_edit table_errno
board_good b o e v h =
    let g = and_left (good b.table) (agrees b.index b.table.mappings) v in
    let a = and_right (good b.table) (agrees b.index b.table.mappings) v in
    h ∙ sym (guarded-same b (host_edit b.table o) a ∙ rw g refl)

-- a home is an id, and so is that of a space
pub space-pos : (os : List Object) (s : ℕ) (o : Object) → o ≡ object_at os s → is_space o.kind ≡ true → 0 < s
unfolding object_at
space-pos os zero o e h = contrary (is_space o.kind) h (ap (λ (x : Object). is_space x.kind) e)
space-pos os (suc i) o e h = omega arith

pub home-pos : (os : List Object) (d : ℕ) (o : Object) → objects_ok os ≡ true → o ≡ object_at os d → is_attached o.kind ≡ true → 0 < home_of o.kind
unfolding object_at objects_ok object_ok device_names space_at
home-pos os zero o g e h = contrary (is_attached o.kind) h (ap (λ (x : Object). is_attached x.kind) e)
home-pos os (suc i) o g e h =
    by-test (ltb i (length os))
    (λ t.
    let l = ltb-true i (length os) t in
    let p : get_or os i zero_object ≡ o = get_d_any os i zero_object free_object l ∙ sym e in
    let n = and_left (device_names os (get_or os i zero_object)) _ (all-at (object_ok os) os zero_object g i l) in
    let q : (not (is_attached o.kind) || space_at os (home_of o.kind)) ≡ true = subst (λ (x : Object). (not (is_attached x.kind) || space_at os (home_of x.kind)) ≡ true) p n in
    space-pos os (home_of o.kind) (object_at os (home_of o.kind)) refl (or_other (not (is_attached o.kind)) (space_at os (home_of o.kind)) q (ap (λ (b : Bool). not b) h)))
    (λ t. contrary (is_attached o.kind) h (ap (λ (x : Object). is_attached x.kind) (e ∙ get_or-eq_default os free_object (ltb-false i (length os) t))))

module _ (t : Table) (o : Order) (e : Edit) where
  pub by-act : (k : Act) → o.act ≡ k → e ≡ act_edit t o k → e ≡ act_edit t o o.act
  by-act k a h = h ∙ rw a

  -- the device is the second id of the order, the space the first
  pub by-attach : o.act ≡ Attach → (d s : ℕ) → d ≡ o.second → s ≡ o.first → e ≡ attach_edit t.objects t.mappings d s → e ≡ act_edit t o o.act
  by-attach a d s p q h = by-act Attach a (h ∙ ap (λ (x : ℕ). attach_edit t.objects t.mappings x s) p ∙ ap (λ (x : ℕ). attach_edit t.objects t.mappings o.second x) q)

-- bind's id is small
pub bind_value : (t : Table) (bitmap : ℕ) (l : Reserved) (e : Edit) → length t.objects ≡ 32 → e ≡ host_edit t (bind_order bitmap l) → e.value < 256
unfolding host_edit bind_edit
bind_value t bitmap l e n h = rw h (guarded (table_errno t) (first (bind_rule t.objects bitmap l) 0))
  where
    guarded : (m k : ℕ) → (settle m (settle k (added (free_record t.objects) (new_device bitmap l)))).value < 256
    guarded zero zero = added-value t.objects (new_device bitmap l) n
    guarded zero (suc k) = omega arith
    guarded (suc m) k = omega arith

-- reach tells its errno and its address
pub reach-is : (t : Table) (o : Order) (e : Edit) (z : ℤ) → e ≡ host_edit t o → z ≡ signed_result e.errno → ◌≡◌ {A = Reached} record { result = z; address = e.value } (reached_by (host_edit t o))
reach-is t o e z h k = rw (k, h)

-- with an index that was worked out from the records, a host call is that on the table
pub made-back : (t u : Table) (ms : List Mapping) (ix : List ℕ) (o : Order) (e : Edit) → u ≡ t → ms ≡ t.mappings
    → ((v : Table) → v.mappings ≡ ms → good v ≡ true → agrees ix ms ≡ true) → e ≡ board_host record { table = u; index = ix } o → e ≡ host_edit t o
made-back t u ms ix o e q w m h =
    h ∙ ap (λ (v : Table). board_host record { table = v; index = ix } o) q ∙ made-host record { table = t; index = ix } (λ g. subst (λ (l : List Mapping). agrees ix l ≡ true) w (m t (sym w) g)) o
