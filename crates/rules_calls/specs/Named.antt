-- Each call by its own name, through the one door: what the laws about a single call speak of. No contract needs these names.
-- To unfold one is to unfold the door at its request.
use Rattle.std.specs.Prelude.{ℕ, Bool, List, [], ℤ}
use Rattle.lists.specs.Search.{find}
use Rattle.rangelists.specs.Listed.{Reserved}
use Rattle.rules_table.specs.declared.Table.{Table}
use Rattle.rules_calls.specs.declared.Command.TheVariants.{Destroy, IoasAlloc, AllowIovas, Copy, IovaRanges, Map, Unmap}
use Rattle.rules_calls.specs.declared.Edit.{Edit}
use Rattle.rules_calls.specs.declared.Answer.{Answer}
use Rattle.rules_calls.specs.declared.Reached.{Reached}
use Rattle.rules_calls.specs.Results.{signed_result}
use Rattle.rules_calls.specs.Requests.{commands, lookup, number}
use Rattle.rules_calls.specs.Answers.{outcome, outcome_id}
use Rattle.rules_calls.specs.Ranges.{ranges_replied, ranges_filled}
use Rattle.rules_calls.specs.Orders.{bind_order, attach_order, detach_order, reach_order, reached_by, host_edit}
use Rattle.rules_calls.specs.Call.{command_edit, call_edit, call_done}

-- ---- MAP

abbrev pub map_decided : Table → List ℕ → Edit
map_decided t bytes = command_edit Map t bytes []

unfoldable pub map_call : Table → List ℕ → Edit
unfolding call_edit lookup commands find
map_call t bytes = call_edit t (number Map) bytes []

unfoldable pub map_answer : Table → List ℕ → Answer
map_answer t bytes = outcome t (map_call t bytes)

unfoldable pub map_bytes : Table → List ℕ → List ℕ
unfolding call_done map_call
map_bytes t bytes = (call_done t (number Map) bytes []).bytes

-- ---- COPY

abbrev pub copy_decided : Table → List ℕ → Edit
copy_decided t bytes = command_edit Copy t bytes []

unfoldable pub copy_call : Table → List ℕ → Edit
unfolding call_edit lookup commands find
copy_call t bytes = call_edit t (number Copy) bytes []

unfoldable pub copy_answer : Table → List ℕ → Answer
copy_answer t bytes = outcome t (copy_call t bytes)

unfoldable pub copy_bytes : Table → List ℕ → List ℕ
unfolding call_done copy_call
copy_bytes t bytes = (call_done t (number Copy) bytes []).bytes

-- ---- UNMAP

abbrev pub unmap_decided : Table → List ℕ → Edit
unmap_decided t bytes = command_edit Unmap t bytes []

unfoldable pub unmap_call : Table → List ℕ → Edit
unfolding call_edit lookup commands find
unmap_call t bytes = call_edit t (number Unmap) bytes []

unfoldable pub unmap_answer : Table → List ℕ → Answer
unmap_answer t bytes = outcome t (unmap_call t bytes)

unfoldable pub unmap_bytes : Table → List ℕ → List ℕ
unfolding call_done unmap_call
unmap_bytes t bytes = (call_done t (number Unmap) bytes []).bytes

-- ---- IOAS_ALLOC and DESTROY

unfoldable pub alloc_call : Table → List ℕ → Edit
unfolding call_edit lookup commands find
alloc_call t bytes = call_edit t (number IoasAlloc) bytes []

unfoldable pub alloc_answer : Table → List ℕ → Answer
alloc_answer t bytes = outcome t (alloc_call t bytes)

unfoldable pub alloc_bytes : Table → List ℕ → List ℕ
unfolding call_done alloc_call
alloc_bytes t bytes = (call_done t (number IoasAlloc) bytes []).bytes

unfoldable pub destroy_answer : Table → List ℕ → Answer
unfolding call_edit lookup commands find
destroy_answer t bytes = outcome t (call_edit t (number Destroy) bytes [])

-- ---- ALLOW_IOVAS and IOVA_RANGES

unfoldable pub allow_answer : Table → List ℕ → List ℕ → Answer
unfolding call_edit lookup commands find
allow_answer t bytes area = outcome t (call_edit t (number AllowIovas) bytes area)

unfoldable pub ranges_call : Table → List ℕ → List ℕ → ℕ
unfolding call_edit lookup commands find
ranges_call t bytes area = (call_edit t (number IovaRanges) bytes area).errno

unfoldable pub ranges_result : Table → List ℕ → List ℕ → ℤ
ranges_result t bytes area = signed_result (ranges_call t bytes area)

unfoldable pub ranges_reply : Table → List ℕ → List ℕ → List ℕ
unfolding call_done ranges_call ranges_replied
ranges_reply t bytes area = (call_done t (number IovaRanges) bytes area).bytes

unfoldable pub ranges_written : Table → List ℕ → List ℕ → List ℕ
unfolding call_done ranges_call ranges_filled
ranges_written t bytes area = (call_done t (number IovaRanges) bytes area).area

-- ---- the host calls, by value

unfoldable pub bind_call : Table → ℕ → Reserved → Answer
unfolding host_edit
bind_call t bitmap l = outcome_id t (host_edit t (bind_order bitmap l))

unfoldable pub attach_call : Table → ℕ → ℕ → Answer
unfolding host_edit
attach_call t d s = outcome t (host_edit t (attach_order d s))

unfoldable pub detach_call : Table → ℕ → Answer
unfolding host_edit
detach_call t d = outcome t (host_edit t (detach_order d))

unfoldable pub reach_call : Table → ℕ → ℕ → ℕ → Bool → Reached
unfolding host_edit
reach_call t d a n write = reached_by (host_edit t (reach_order d a n write))
