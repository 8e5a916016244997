-- What a call has shown of the change that it decides, for any table, good or not: what is refused changes nothing. So every change is one that the index follows.
use Rattle.std.specs.Prelude.{ℕ, zero, suc, ◌-◌, ◌≤◌, ◌<◌, ◌≡◌, refl, true, false, List, ◌++◌, leb, length, get_or, Option, None, Some}
use Rattle.std.proofs.Common.{arith, le-leb}
use Rattle.lists.specs.Tests.{and_both}
use Rattle.lists.specs.Search.{any}
use Rattle.lists.specs.Checks.{first}
use Rattle.ranges.specs.Ranges.{U64MAX, span, passes, passes-false}
use Rattle.wire.specs.Fields.{field}
use Rattle.rules_table.specs.declared.Kind.{Kind}
use Rattle.rules_table.specs.declared.Kind.TheVariants.{Free, Space, Device}
use Rattle.rules_table.specs.declared.Object.{Object}
use Rattle.rules_table.specs.declared.Mapping.{Mapping}
use Rattle.rules_table.specs.declared.Table.{Table}
use Rattle.rules_table.specs.Flags.{bit}
use Rattle.rules_table.specs.Records.{object_at, home_of, new_space, zero_mapping, used, extent, touches, cut_by}
use Rattle.rules_table.specs.Charge.{free_mapping, free_record, free_backing}
use Rattle.rules_calls.specs.declared.Command.{Command}
use Rattle.rules_calls.specs.declared.Command.TheVariants.{Destroy, IoasAlloc, AllowIovas, Copy, IovaRanges, Map, Unmap}
use Rattle.rules_calls.specs.declared.Change.{Change}
use Rattle.rules_calls.specs.declared.Change.TheVariants as Changes
use Rattle.rules_calls.specs.declared.Act.{Act}
use Rattle.rules_calls.specs.declared.Act.TheVariants.{Bind, Attach, Detach, Reach, Charge, Next}
use Rattle.rules_calls.specs.Next.{next_checks, next_edit}
use Rattle.rules_calls.specs.declared.Edit.{Edit}
use Rattle.rules_calls.specs.declared.Order.{Order}
use Rattle.rules_calls.specs.Edits.{settle, added, number_in}
use Rattle.rules_calls.specs.Requests.{lookup}
use Rattle.rules_calls.specs.Gate.{gate, gate_errno, table_errno}
use Rattle.rules_calls.specs.Landing.{place_at}
use Rattle.rules_calls.specs.Objects.{alloc_checks, alloc_edit, destroy_checks, removal, destroy_edit}
use Rattle.rules_calls.specs.Allow.{allow_edit}
use Rattle.rules_calls.specs.Map.{mapped, found_of, founding, map_edit}
use Rattle.rules_calls.specs.Copy.{source_of, source_mapping, copy_of, copying, copy_edit}
use Rattle.rules_calls.specs.Unmap.{unmap_edit}
use Rattle.rules_calls.specs.Bind.{new_device, bind_edit, bind_rule}
use Rattle.rules_calls.specs.Attach.{attach_checks, attach_edit, detach_checks, detach_edit}
use Rattle.rules_calls.specs.Reach.{around, reach_checks, held_checks, reach_by, reach_of}
use Rattle.rules_calls.specs.Orders.{act_edit, host_edit}
use Rattle.rules_calls.specs.Call.{command_edit, row_edit, call_edit}
use Rattle.table.specs.Sound.{Sound, good-sound}
use Rattle.edits.specs.Numbers.{asked-some, map_checks_at, map_edit_at, copy_checks_at, copy_edit_at, unmap_checks_at, unmap_edit_at, allow_checks_at}
use Rattle.rules_index.specs.Index.{agrees}
use Rattle.rules_index.specs.Board.{Board, index_after, guarded, board_edit, board_host}
use Rattle.index.specs.Touched.{sits}
use Rattle.index.specs.Following.{Followed}
use Rattle.landing.specs.Landed.{place-landed}
use Rattle.laws_mapping.specs.Accepted.{gate-table}
use Rattle.laws_mapping.specs.Passed.{map_passed, copy_passed, unmap_passed}
use Rattle.laws_mapping.specs.Removed.{space-some}
use Rattle.laws_mapping.specs.Made.{free-record, found-used, found-alone, copy_used, copy_alone}

-- what a call has shown of the change that it decides: a new mapping goes into a released record, sits at an address and touches no other; a removal is of a space and of some addresses, and cuts
-- no mapping
abbrev pub Shown : List Mapping → Change → Type 0
Shown ms Changes.Nothing = Unit {0}
Shown ms (Changes.Put i) = Unit {0}
Shown ms (Changes.Drop i) = Unit {0}
Shown ms (Changes.Map i m) = (i < length ms) × (get_or ms i zero_mapping ≡ zero_mapping) × (sits m ≡ true) × (any (touches m.space (extent m)) ms ≡ false)
Shown ms (Changes.Clear s r) = (1 ≤ s) × (r.start ≤ r.last) × (any (cut_by s r) ms ≡ false)

-- a change that is not made asks nothing
settle-shown : (ms : List Mapping) (n : ℕ) (e : Edit) → (n ≡ 0 → Shown ms e.change) → Shown ms (settle n e).change
settle-shown ms zero e f = f refl
settle-shown ms (suc n) e f = tt

-- ---- a new mapping

sits-at : (m : Mapping) → used m ≡ true → passes m.address m.length ≡ false → sits m ≡ true
unfolding sits
sits-at m u e = and_both (used m) (leb m.address U64MAX) u (le-leb m.address U64MAX (omega (arith, passes-false m.address m.length e)))

mapped-shown : (t : Table) (g : Sound t) (m : Mapping) → used m ≡ true → passes m.address m.length ≡ false → any (touches m.space (extent m)) t.mappings ≡ false
    → (o : Option ℕ) → free_mapping t.mappings ≡ o → Shown t.mappings (mapped o m).change
mapped-shown t g m u e a None f = tt
mapped-shown t g m u e a (Some i) f = let r = free-record t.objects t.mappings i g.records f in (r.0, r.1, sits-at m u e, a)

found-ends : (b flags s memory n a : ℕ) → passes a n ≡ false → passes (found_of b flags s memory n a).address (found_of b flags s memory n a).length ≡ false
unfolding found_of
found-ends b flags s memory n a e = e

copy_ends : (m : Mapping) (flags s n a : ℕ) → passes a n ≡ false → passes (copy_of m flags s n a).address (copy_of m flags s n a).length ≡ false
unfolding copy_of
copy_ends m flags s n a e = e

module _ (t : Table) (g : Sound t) (flags s n x : ℕ) where
  map_shown : (z memory : ℕ) → Shown t.mappings (map_edit_at t.limit t.objects t.mappings flags s z memory n x).change
  unfolding map_edit founding
  map_shown z memory =
      settle-shown t.mappings (first (map_checks_at t.limit t.objects t.mappings flags s z memory n x) 0) _ (λ e.
      let p = map_passed t.limit t.objects t.mappings flags s z memory n x e in
      let l = place-landed t.objects t.mappings s n (bit 0 flags) x p.wanted.fixed p.placed in
      let b = number_in (free_backing t.mappings) in
      let a = place_at t.objects t.mappings s (bit 0 flags) n x in
      mapped-shown t g (found_of b flags s memory n a) (found-used t.objects t.mappings b flags s memory n a p.space) (found-ends b flags s memory n a l.ends)
      (found-alone t.objects t.mappings b flags s memory n a l) (free_mapping t.mappings) refl)

  copy_shown : (source y : ℕ) → Shown t.mappings (copy_edit_at t.objects t.mappings flags s source n x y).change
  unfolding copy_edit copying
  copy_shown source y =
      settle-shown t.mappings (first (copy_checks_at t.objects t.mappings flags s source n x y) 0) _ (λ e.
      let p = copy_passed t.objects t.mappings flags s source n x y e in
      let l = place-landed t.objects t.mappings s n (bit 0 flags) x p.wanted.fixed p.placed in
      let m = source_mapping (source_of t.mappings source y n) in
      let a = place_at t.objects t.mappings s (bit 0 flags) n x in
      mapped-shown t g (copy_of m flags s n a) (copy_used t.objects t.mappings m flags s n a p.space) (copy_ends m flags s n a l.ends)
      (copy_alone t.objects t.mappings m flags s n a l) (free_mapping t.mappings) refl)

-- ---- a removal

unmap_shown : (t : Table) (s a n : ℕ) → Shown t.mappings (unmap_edit_at t.objects t.mappings s a n).change
unfolding unmap_edit
unmap_shown t s a n =
    settle-shown t.mappings (first (unmap_checks_at t.objects t.mappings s a n) 0) _ (λ e.
    let p = unmap_passed t.objects t.mappings s a n e in
    (space-some t.objects s p.space, asked-some a n (omega (arith, passes-false a n p.ends)), p.uncut))

-- ---- every other change

added-shown : (ms : List Mapping) (f : Option ℕ) (o : Object) → Shown ms (added f o).change
added-shown ms None o = tt
added-shown ms (Some i) o = tt

removal-shown : (ms : List Mapping) (k : Kind) (i : ℕ) → Shown ms (removal k i)
removal-shown ms Free i = tt
removal-shown ms Space i = tt
removal-shown ms (Device a) i = tt

-- ---- commands

command-shown : (c : Command) (t : Table) (bytes area : List ℕ) → Sound t → Shown t.mappings (command_edit c t bytes area).change
unfolding destroy_edit alloc_edit allow_edit
command-shown Destroy t bytes area g =
    settle-shown t.mappings (first (destroy_checks t.objects (field 4 bytes 4)) 0) _ (λ e. removal-shown t.mappings (object_at t.objects (field 4 bytes 4)).kind (field 4 bytes 4 - 1))
command-shown IoasAlloc t bytes area g = settle-shown t.mappings (first (alloc_checks t.objects (field 4 bytes 4)) 0) _ (λ e. added-shown t.mappings (free_record t.objects) new_space)
command-shown AllowIovas t bytes area g = settle-shown t.mappings (first (allow_checks_at t.objects (field 4 bytes 4) (field 4 bytes 8) (field 4 bytes 12) area) 0) _ (λ e. tt)
command-shown Copy t bytes area g = copy_shown t g (field 4 bytes 4) (field 4 bytes 8) (field 8 bytes 16) (field 8 bytes 24) (field 4 bytes 12) (field 8 bytes 32)
command-shown IovaRanges t bytes area g = tt
command-shown Map t bytes area g = map_shown t g (field 4 bytes 4) (field 4 bytes 8) (field 8 bytes 24) (field 8 bytes 32) (field 4 bytes 12) (field 8 bytes 16)
command-shown Unmap t bytes area g = unmap_shown t (field 4 bytes 4) (field 8 bytes 8) (field 8 bytes 16)

row-shown : (r : Option Command) (t : Table) (bytes area : List ℕ) → Sound t → Shown t.mappings (row_edit r t bytes area).change
row-shown None t bytes area g = tt
row-shown (Some c) t bytes area g = command-shown c t bytes area g

-- ---- host calls: they change objects alone

abbrev pub ObjectsAlone : Change → Type 0
ObjectsAlone Changes.Nothing = Unit {0}
ObjectsAlone (Changes.Put i) = Unit {0}
ObjectsAlone (Changes.Drop i) = ⊥
ObjectsAlone (Changes.Map i m) = ⊥
ObjectsAlone (Changes.Clear s r) = ⊥

settle-alone : (n : ℕ) (e : Edit) → ObjectsAlone e.change → ObjectsAlone (settle n e).change
settle-alone zero e f = f
settle-alone (suc n) e f = tt

added-alone : (f : Option ℕ) (o : Object) → ObjectsAlone (added f o).change
added-alone None o = tt
added-alone (Some i) o = tt

act_alone : (t : Table) (o : Order) (k : Act) → ObjectsAlone (act_edit t o k).change
unfolding bind_edit attach_edit detach_edit reach_of reach_by next_edit
act_alone t o Bind = settle-alone (first (bind_rule t.objects o.bitmap o.reserved) 0) _ (added-alone (free_record t.objects) (new_device o.bitmap o.reserved))
act_alone t o Attach = settle-alone (first (attach_checks t.objects t.mappings (object_at t.objects o.second) o.first) 0) _ tt
act_alone t o Detach = settle-alone (first (detach_checks (object_at t.objects o.first)) 0) _ tt
act_alone t o (Reach write) =
    let k = (object_at t.objects o.first).kind in
    settle-alone (first (reach_checks k o.address o.length ++ held_checks write (around t.mappings (home_of k) (span o.address o.length))) 0) _ tt
act_alone t o Charge = tt
act_alone t o Next = settle-alone (first (next_checks t.objects o.first) 0) _ tt

host_alone : (t : Table) (o : Order) → ObjectsAlone (host_edit t o).change
unfolding host_edit
host_alone t o = settle-alone (table_errno t) (act_edit t o o.act) (act_alone t o o.act)

alone-shown : (ms : List Mapping) (c : Change) → ObjectsAlone c → Shown ms c
alone-shown ms Changes.Nothing a = tt
alone-shown ms (Changes.Put i) a = tt
alone-shown ms (Changes.Drop i) a = tt
alone-shown ms (Changes.Map i m) a = absurd a
alone-shown ms (Changes.Clear s r) a = absurd a

alone-index : (ms : List Mapping) (ix : List ℕ) (c : Change) → ObjectsAlone c → index_after c ms ix ≡ ix
alone-index ms ix Changes.Nothing a = refl
alone-index ms ix (Changes.Put i) a = refl
alone-index ms ix (Changes.Drop i) a = absurd a
alone-index ms ix (Changes.Map i m) a = absurd a
alone-index ms ix (Changes.Clear s r) a = absurd a

-- THE LAWS: for any table, good or not; where it is bad nothing changes
pub call-shown : (t : Table) (request : ℕ) (bytes area : List ℕ) → Shown t.mappings (call_edit t request bytes area).change
unfolding call_edit
call-shown t request bytes area =
    settle-shown t.mappings (gate_errno t request bytes) (row_edit (lookup request) t bytes area) (λ e. row-shown (lookup request) t bytes area (good-sound t (gate-table t request bytes e)))

pub host_shown : (t : Table) (o : Order) → Shown t.mappings (host_edit t o).change
host_shown t o = alone-shown t.mappings (host_edit t o).change (host_alone t o)

-- so the index follows it
followed : (ms : List Mapping) (c : Change) → Shown ms c → Followed ms c
followed ms Changes.Nothing s = tt
followed ms (Changes.Put i) s = tt
followed ms (Changes.Drop i) s = tt
followed ms (Changes.Map i m) s = s
followed ms (Changes.Clear a r) s = tt

pub call-followed : (t : Table) (request : ℕ) (bytes area : List ℕ) → Followed t.mappings (call_edit t request bytes area).change
call-followed t request bytes area = followed t.mappings (call_edit t request bytes area).change (call-shown t request bytes area)

pub host_followed : (t : Table) (o : Order) → Followed t.mappings (host_edit t o).change
host_followed t o = followed t.mappings (host_edit t o).change (host_shown t o)

-- ---- on a table with its index

pub board_shown : (b : Board) (request : ℕ) (bytes area : List ℕ) → Shown b.table.mappings (board_edit b request bytes area).change
unfolding board_edit guarded
board_shown b request bytes area = settle-shown b.table.mappings (gate (agrees b.index b.table.mappings) 0) (call_edit b.table request bytes area) (λ e. call-shown b.table request bytes area)

-- a host call changes objects alone
pub board_host-alone : (b : Board) (o : Order) → ObjectsAlone (board_host b o).change
unfolding board_host guarded
board_host-alone b o = settle-alone (gate (agrees b.index b.table.mappings) 0) (host_edit b.table o) (host_alone b.table o)

-- so it leaves the index
pub board_host-index : (b : Board) (o : Order) (ms : List Mapping) (ix : List ℕ) → index_after (board_host b o).change ms ix ≡ ix
unfolding board_host guarded
board_host-index b o ms ix =
    alone-index ms ix (settle (gate (agrees b.index b.table.mappings) 0) (host_edit b.table o)).change (board_host-alone b o)
