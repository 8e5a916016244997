-- Every edit that a call decides and that has an errno changes nothing: the commands and the host calls, for any table, good or not.
use Rattle.std.specs.Prelude.{ℕ, ◌-◌, refl, Bool, List, ◌++◌, Option, None, Some}
use Rattle.lists.specs.Checks.{first}
use Rattle.ranges.specs.Ranges.{span}
use Rattle.wire.specs.Fields.{field}
use Rattle.rules_table.specs.declared.Kind.{Kind}
use Rattle.rules_table.specs.declared.Mapping.{Mapping}
use Rattle.rules_table.specs.declared.Table.{Table}
use Rattle.rules_table.specs.Records.{object_at, home_of, new_space, free_object}
use Rattle.rules_table.specs.Charge.{free_record, free_mapping}
use Rattle.rules_calls.specs.declared.Command.{Command}
use Rattle.rules_calls.specs.declared.Command.TheVariants.{Destroy, IoasAlloc, AllowIovas, Copy, IovaRanges, Map, Unmap}
use Rattle.rules_calls.specs.declared.Change.TheVariants as Changes
use Rattle.rules_calls.specs.declared.Act.{Act}
use Rattle.rules_calls.specs.declared.Act.TheVariants.{Bind, Attach, Detach, Reach, Charge, Next}
use Rattle.rules_calls.specs.declared.Order.{Order}
use Rattle.rules_calls.specs.Edits.{tells}
use Rattle.rules_calls.specs.Requests.{lookup}
use Rattle.rules_calls.specs.Gate.{gate_errno, table_errno}
use Rattle.rules_calls.specs.Objects.{alloc_checks, alloc_edit, destroy_checks, removal, destroy_edit}
use Rattle.rules_calls.specs.Allow.{area_list, with_allow, allow_edit}
use Rattle.rules_calls.specs.Map.{mapped, founding, map_edit}
use Rattle.rules_calls.specs.Copy.{source_mapping, copying, source_of, copy_edit}
use Rattle.rules_calls.specs.Unmap.{removed_bytes, range_asked, unmap_edit}
use Rattle.rules_calls.specs.Bind.{new_device, bind_edit, bind_rule}
use Rattle.rules_calls.specs.Attach.{attached_object, loose_object, attach_checks, attach_edit, detach_checks, detach_edit}
use Rattle.rules_calls.specs.Reach.{around, memory_at, reach_checks, held_checks, reach_by, reach_of}
use Rattle.rules_calls.specs.Next.{next_number, next_checks, next_edit}
use Rattle.rules_calls.specs.Orders.{act_edit, host_edit}
use Rattle.rules_calls.specs.Call.{command_edit, row_edit, call_edit}
use Rattle.edits.specs.Numbers.{map_checks_at, copy_checks_at, unmap_checks_at, allow_checks_at}
use Rattle.laws_refusal.specs.Edits.{Silent, silent-accept, silent-settle, silent-added}

silent-mapped : (f : Option ℕ) (m : Mapping) → Silent (mapped f m)
silent-mapped None m = λ h. refl
silent-mapped (Some i) m = λ h. absurd (h refl)

silent-command : (c : Command) (t : Table) (bytes area : List ℕ) → Silent (command_edit c t bytes area)
unfolding destroy_edit alloc_edit allow_edit copy_edit map_edit unmap_edit
silent-command Destroy t bytes area = silent-settle (first (destroy_checks t.objects (field 4 bytes 4)) 0) _ (silent-accept 0 (removal (object_at t.objects (field 4 bytes 4)).kind (field 4 bytes 4 - 1)) free_object)
silent-command IoasAlloc t bytes area = silent-settle (first (alloc_checks t.objects (field 4 bytes 4)) 0) _ (silent-added (free_record t.objects) new_space)
silent-command AllowIovas t bytes area = silent-settle (first (allow_checks_at t.objects (field 4 bytes 4) (field 4 bytes 8) (field 4 bytes 12) area) 0) _ (silent-accept 0 (Changes.Put (field 4 bytes 4 - 1)) (with_allow (object_at t.objects (field 4 bytes 4)) (area_list (field 4 bytes 8) area)))
silent-command Copy t bytes area = silent-settle (first (copy_checks_at t.objects t.mappings (field 4 bytes 4) (field 4 bytes 8) (field 4 bytes 12) (field 8 bytes 16) (field 8 bytes 24) (field 8 bytes 32)) 0) _ (silent-mapped (free_mapping t.mappings) (copying t.objects t.mappings (source_mapping (source_of t.mappings (field 4 bytes 12) (field 8 bytes 32) (field 8 bytes 16))) (field 4 bytes 4) (field 4 bytes 8) (field 8 bytes 16) (field 8 bytes 24)))
silent-command IovaRanges t bytes area = λ h. refl
silent-command Map t bytes area = silent-settle (first (map_checks_at t.limit t.objects t.mappings (field 4 bytes 4) (field 4 bytes 8) (field 4 bytes 12) (field 8 bytes 16) (field 8 bytes 24) (field 8 bytes 32)) 0) _ (silent-mapped (free_mapping t.mappings) (founding t.objects t.mappings (field 4 bytes 4) (field 4 bytes 8) (field 8 bytes 16) (field 8 bytes 24) (field 8 bytes 32)))
silent-command Unmap t bytes area = silent-settle (first (unmap_checks_at t.objects t.mappings (field 4 bytes 4) (field 8 bytes 8) (field 8 bytes 16)) 0) _ (silent-accept (removed_bytes (field 4 bytes 4) (range_asked (field 8 bytes 8) (field 8 bytes 16)) t.mappings) (Changes.Clear (field 4 bytes 4) (range_asked (field 8 bytes 8) (field 8 bytes 16))) free_object)

silent-row : (r : Option Command) (t : Table) (bytes area : List ℕ) → Silent (row_edit r t bytes area)
silent-row None t bytes area = λ h. refl
silent-row (Some c) t bytes area = silent-command c t bytes area

-- THE LAWS
pub silent-call : (t : Table) (request : ℕ) (bytes area : List ℕ) → Silent (call_edit t request bytes area)
unfolding call_edit
silent-call t request bytes area = silent-settle (gate_errno t request bytes) _ (silent-row (lookup request) t bytes area)

silent-reach : (k : Kind) (a n : ℕ) (write : Bool) (o : Option Mapping) → Silent (reach_by k a n write o)
unfolding reach_by
silent-reach k a n write o = silent-settle (first (reach_checks k a n ++ held_checks write o) 0) (tells (memory_at a o)) (silent-accept (memory_at a o) Changes.Nothing free_object)

silent-act : (t : Table) (o : Order) (k : Act) → Silent (act_edit t o k)
unfolding bind_edit attach_edit detach_edit reach_of next_edit
silent-act t o Bind = silent-settle (first (bind_rule t.objects o.bitmap o.reserved) 0) _ (silent-added (free_record t.objects) (new_device o.bitmap o.reserved))
silent-act t o Attach = silent-settle (first (attach_checks t.objects t.mappings (object_at t.objects o.second) o.first) 0) _ (silent-accept 0 (Changes.Put (o.second - 1)) (attached_object (object_at t.objects o.second) o.first))
silent-act t o Detach = silent-settle (first (detach_checks (object_at t.objects o.first)) 0) _ (silent-accept 0 (Changes.Put (o.first - 1)) (loose_object (object_at t.objects o.first)))
silent-act t o (Reach write) =
    let k = (object_at t.objects o.first).kind in
    silent-reach k o.address o.length write (around t.mappings (home_of k) (span o.address o.length))
silent-act t o Charge = λ h. refl
silent-act t o Next =
    silent-settle (first (next_checks t.objects o.first) 0) _ (silent-accept (next_number t.mappings o.first o.address) Changes.Nothing free_object)

pub silent-host : (t : Table) (o : Order) → Silent (host_edit t o)
unfolding host_edit
silent-host t o = silent-settle (table_errno t) (act_edit t o o.act) (silent-act t o o.act)
