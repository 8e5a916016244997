-- One door for the seven commands (document 01, "Opening a command, in order" and after it): 117, the opening, and by the request number what each command decides, changes
-- and writes.
use Rattle.std.specs.Prelude.{ℕ, ◌+◌, ◌^◌, List, [], ◌∷◌, ◌++◌, ◌≡◌, refl, pos, neg_ℤ, replicate, Option, Some, None}
use Rattle.rules_calls.specs.declared.Command.{Command}
use Rattle.rules_calls.specs.declared.Command.TheVariants.{Destroy, IoasAlloc, AllowIovas, Copy, IovaRanges, Map, Unmap}
use Rattle.rules_calls.specs.Requests.{lookup}
use Rattle.rules_table.specs.declared.Table.{Table}
use Rattle.rules_calls.specs.declared.Answer.{Answer}
use Rattle.rules_calls.specs.Answers.{outcome, replied}
use Rattle.rules_calls.specs.Gate.{gate_errno, gates}
use Rattle.rules_calls.specs.Ranges.{ranges_fields, free_of, ranges_checks, ranges_errno, ranges_bytes, ranges_area, ranges_replied, ranges_filled}
use Rattle.rules_calls.specs.Allow.{allow_fields, allow_edit, allows}
use Rattle.rules_calls.specs.Objects.{alloc_flags, alloc_edit, destroy_id, destroy_edit, makes, destroys}
use Rattle.rules_calls.specs.Unmap.{unmap_fields, unmap_edit, removes}
use Rattle.rules_calls.specs.Copy.{copy_fields, copy_edit, copies}
use Rattle.rules_calls.specs.Map.{map_fields, map_edit, mapping}
use Rattle.rules_calls.specs.declared.Edit.{Edit}
use Rattle.rules_calls.specs.Edits.{refuse, settle, applies}
use Rattle.ranges.specs.Ranges.{U64MAX}
use Rattle.wire.specs.Fields.{put}
use Rattle.freeranges.specs.Free.{between, end_below, start_above, around, without, free_from, free_ranges}
use Rattle.freeranges.specs.Written.{put_at, put_ranges}
use Rattle.rules_table.specs.declared.Kind.TheVariants.{Space}
use Rattle.rules_table.specs.declared.Object.{Object}
use Rattle.rules_table.specs.declared.Mapping.{Mapping}
use Rattle.rules_table.specs.Records.{no_reserved, new_space, free_object, zero_mapping}
use Rattle.rules_calls.specs.Results.{signed_result}

-- what a command decides over a good table, by its own rule. IOVA_RANGES changes nothing: its edit carries the errno alone
abbrev pub command_edit : Command → Table → List ℕ → List ℕ → Edit
command_edit Destroy t bytes area = destroy_edit t.objects (destroy_id bytes)
command_edit IoasAlloc t bytes area = alloc_edit t.objects (alloc_flags bytes)
command_edit AllowIovas t bytes area = allow_edit t.objects (allow_fields bytes) area
command_edit Copy t bytes area = copy_edit t.objects t.mappings (copy_fields bytes)
command_edit IovaRanges t bytes area = refuse (ranges_errno t.objects (ranges_fields bytes) area)
command_edit Map t bytes area = map_edit t.limit t.objects t.mappings (map_fields bytes)
command_edit Unmap t bytes area = unmap_edit t.objects t.mappings (unmap_fields bytes)

-- a request that is not listed is refused by the gate
abbrev pub row_edit : Option Command → Table → List ℕ → List ℕ → Edit
row_edit None t bytes area = refuse 25
row_edit (Some c) t bytes area = command_edit c t bytes area

-- 117, then the opening, then the command
unfoldable pub call_edit : Table → ℕ → List ℕ → List ℕ → Edit
call_edit t request bytes area = settle (gate_errno t request bytes) (row_edit (lookup request) t bytes area)

-- what a command leaves: the answer with the table, the command bytes, the range area
pub record Done : Type 0 where
  pub answer : Answer
  pub bytes : List ℕ
  pub area : List ℕ

abbrev pub done : Table → Edit → List ℕ → List ℕ → Done
done t e bytes area = record { answer = outcome t e; bytes = bytes; area = area }

-- the output field of each: the id, the target address, count, alignment and ranges, the address, the bytes removed
abbrev pub command_done : Command → Table → Edit → List ℕ → List ℕ → Done
command_done Destroy t e bytes area = done t e bytes area
command_done IoasAlloc t e bytes area = done t e (replied 4 8 e.errno e.value bytes) area
command_done AllowIovas t e bytes area = done t e bytes area
command_done Copy t e bytes area = done t e (replied 8 24 e.errno e.value bytes) area
command_done IovaRanges t e bytes area = done t e (ranges_replied t.objects e.errno bytes) (ranges_filled t.objects e.errno bytes area)
command_done Map t e bytes area = done t e (replied 8 32 e.errno e.value bytes) area
command_done Unmap t e bytes area = done t e (replied 8 16 e.errno e.value bytes) area

abbrev pub row_done : Option Command → Table → Edit → List ℕ → List ℕ → Done
row_done None t e bytes area = done t e bytes area
row_done (Some c) t e bytes area = command_done c t e bytes area

unfoldable pub call_done : Table → ℕ → List ℕ → List ℕ → Done
call_done t request bytes area = row_done (lookup request) t (call_edit t request bytes area) bytes area

-- ---- examples: to unfold `calls` is to unfold all that it lists

unfoldable pub calls : Table → ℕ → List ℕ → List ℕ → Done
unfolding call_done call_edit gates applies outcome replied signed_result put mapping copies removes makes destroys allows ranges_replied ranges_filled ranges_errno ranges_checks ranges_bytes ranges_area free_of free_ranges free_from without around end_below start_above between put_ranges put_at
calls t request bytes area = call_done t request bytes area

abbrev u32 : ℕ → List ℕ
u32 n = put 4 (replicate 4 0) 0 n

abbrev u64 : ℕ → List ℕ
u64 n = put 8 (replicate 8 0) 0 n

-- a table of limit 4, from its first two objects and its first two mappings
abbrev table_of : Object → Object → Mapping → Mapping → Table
table_of o p m n = record { limit = 4; objects = o ∷ p ∷ replicate 30 free_object; mappings = m ∷ n ∷ replicate 126 zero_mapping }

-- space 1 without and with two bytes of memory from 4,095 on, at 0
abbrev none : Table
none = table_of new_space free_object zero_mapping zero_mapping

abbrev at : ℕ → Mapping
at a = record { space = 1; rights = 2; founder = 0; backing = 1; address = a; length = 2; memory = 4095 }

abbrev one : Table
one = table_of new_space free_object (at 0) zero_mapping

-- what is left: 0 or the negative of the errno, the table, the bytes, the area
abbrev answers : ℕ → Table → List ℕ → List ℕ → Done
answers errno t bytes area = record { answer = record { result = neg_ℤ (pos errno); table = t }; bytes = bytes; area = area }

-- in space 1: readable MAP, automatic, of n bytes of memory from 4,095 on; UNMAP; readable COPY, automatic, of the two bytes at 0. The last number is what a reply
-- writes: the address, the bytes removed, the target address
abbrev map_at : ℕ → ℕ → List ℕ
map_at n a = u32 40 ++ (u32 4 ++ (u32 1 ++ (u32 0 ++ (u64 4095 ++ (u64 n ++ u64 a)))))

abbrev unmap_at : ℕ → ℕ → List ℕ
unmap_at a n = u32 24 ++ (u32 1 ++ (u64 a ++ u64 n))

abbrev copy_at : ℕ → List ℕ
copy_at a = u32 40 ++ (u32 4 ++ (u32 1 ++ (u32 1 ++ (u64 2 ++ (u64 a ++ u64 0)))))

-- an unknown request: -25; on a bad table -117
call-unknown : call_done none 0x3B7F (u32 4) (7 ∷ []) ≡ answers 25 none (u32 4) (7 ∷ [])
unfolding calls
call-unknown = refl

call-bad : call_done (record { limit = 2 ^ 36 + 1; objects = []; mappings = [] }) 0x3B7F (u32 4) [] ≡ answers 117 (record { limit = 2 ^ 36 + 1; objects = []; mappings = [] }) (u32 4) []
unfolding calls
call-bad = refl

-- MAP: K4, the address is written; a length of 0 is refused, and nothing is written
call-map : call_done none 0x3B85 (map_at 2 7) [] ≡ answers 0 one (map_at 2 0) []
unfolding calls
call-map = refl

call-map_refused : call_done none 0x3B85 (map_at 0 7) [] ≡ answers 22 none (map_at 0 7) []
unfolding calls
call-map_refused = refl

-- COPY: the target address is written
call-copy : call_done one 0x3B83 (copy_at 7) [] ≡ answers 0 (table_of new_space free_object (at 0) (at 2)) (copy_at 2) []
unfolding calls
call-copy = refl

-- UNMAP: the bytes removed are written; a cut mapping stays
call-unmap : call_done one 0x3B86 (unmap_at 0 8192) [] ≡ answers 0 none (unmap_at 0 2) []
unfolding calls
call-unmap = refl

call-unmap_refused : call_done one 0x3B86 (unmap_at 0 1) [] ≡ answers 2 one (unmap_at 0 1) []
unfolding calls
call-unmap_refused = refl

-- IOAS_ALLOC: the id is written; DESTROY: the space goes with its mapping
call-alloc : call_done one 0x3B81 (u32 12 ++ (u32 0 ++ u32 7)) [] ≡ answers 0 (table_of new_space new_space (at 0) zero_mapping) (u32 12 ++ (u32 0 ++ u32 2)) []
unfolding calls
call-alloc = refl

call-destroy : call_done one 0x3B80 (u32 8 ++ u32 1) [] ≡ answers 0 (table_of free_object free_object zero_mapping zero_mapping) (u32 8 ++ u32 1) []
unfolding calls
call-destroy = refl

-- ALLOW_IOVAS, K10's list: no byte is written
abbrev ask_allow : List ℕ
ask_allow = u32 24 ++ (u32 1 ++ (u32 1 ++ (u32 0 ++ u64 0)))

abbrev k10 : Object
k10 = record { kind = Space; bitmap = 0; reserved = no_reserved; allow = record { count = 1; starts = 0x100000 ∷ replicate 7 0; lasts = 0x1FFFFF ∷ replicate 7 0 } }

call-allow : call_done none 0x3B82 ask_allow (u64 0x100000 ++ u64 0x1FFFFF) ≡ answers 0 (table_of k10 free_object zero_mapping zero_mapping) ask_allow (u64 0x100000 ++ u64 0x1FFFFF)
unfolding calls
call-allow = refl

-- IOVA_RANGES: count and alignment are the last numbers
abbrev ranges_at : ℕ → ℕ → List ℕ
ranges_at count alignment = u32 32 ++ (u32 1 ++ (u32 count ++ (u32 0 ++ (u64 0 ++ u64 alignment))))

-- with room for none: -90, and yet the two are written; with room for one: it is written, every address
call-ranges : call_done none 0x3B84 (ranges_at 0 7) (7 ∷ []) ≡ answers 90 none (ranges_at 1 1) (7 ∷ [])
unfolding calls
call-ranges = refl

call-ranges_one : call_done none 0x3B84 (ranges_at 1 7) (replicate 16 7) ≡ answers 0 none (ranges_at 1 1) (u64 0 ++ u64 U64MAX)
unfolding calls
call-ranges_one = refl

-- the edit has the same errno
edit-errnos : ((call_edit none 0x3B7F (u32 4) []).errno ∷ (call_edit none 0x3B85 (map_at 0 7) []).errno ∷ (call_edit one 0x3B86 (unmap_at 0 8192) []).errno ∷ []) ≡ (25 ∷ 22 ∷ 0 ∷ [])
unfolding calls
edit-errnos = refl
