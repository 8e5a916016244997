-- The tool (L1): it takes a table and a MAP or a COPY by request and bytes. Bad table: 117; another request: 25. Else it names the first failing check, those of the opening too;
-- the table is only read.
use Rattle.std.specs.Prelude.{ℕ, ◌+◌, ◌^◌, ◌≡◌, refl, Bool, cond, List, [], ◌∷◌, ◌++◌, map, replicate, Option, Some, None, Ok, Err, Result}
use Rattle.lists.specs.Checks.{first}
use Rattle.runs.specs.Runs.{run}
use Rattle.runs.specs.declared.Run.{Run}
use Rattle.rules_table.specs.declared.Table.{Table}
use Rattle.rules_table.specs.Records.{free_object, new_space, zero_mapping}
use Rattle.rules_table.specs.Good.{good}
use Rattle.rules_calls.specs.declared.Command.{Command}
use Rattle.rules_calls.specs.declared.Command.TheVariants.{Destroy, IoasAlloc, AllowIovas, Copy, IovaRanges, Map, Unmap}
use Rattle.rules_calls.specs.Requests.{request_of, lookup}
use Rattle.rules_calls.specs.Opening.{open_checks}
use Rattle.rules_calls.specs.Gate.{gates}
use Rattle.rules_index.specs.Index.{agreeing}
use Rattle.rules_index.specs.Board.{Board, good_board}
use Rattle.wire.specs.Fields.{put}
use Rattle.rules_calls.specs.Map.{map_fields}
use Rattle.rules_calls.specs.Copy.{copy_fields}
use Rattle.rules_reasons.specs.declared.Reason.{Reason}
use Rattle.rules_reasons.specs.declared.Reason.TheVariants.{Accepted, NoSizeField, SizeTooSmall, SizePastBytes, TailNotZero, Flags, NoRight, WrongLength, MemoryPasses, SourcePasses, AddressPasses, NoSpace, NoSourceSpace, NoSource, NotWriteable, Misaligned, TouchesReserved, TouchesMapping, LengthMisaligned, NoPlace, NoRecord, OverLimit}
use Rattle.rules_reasons.specs.Reasons.{reason_errno, named, open_names, map_reason, copy_reason, reasons}

-- the opening's reason, else the command's own
unfoldable pub open_or : ℕ → List ℕ → Reason → Reason
open_or known bytes r = first (named (open_checks known bytes) open_names) r

-- what the tool answers: what stood in the way, or an errno of its own
abbrev pub Explained : Type 0
Explained = Result Reason ℕ

-- by the request's command: MAP and COPY are told, every other request is 25
abbrev pub row_told : Option Command → Table → List ℕ → Explained
row_told None t bytes = Err 25
row_told (Some Destroy) t bytes = Err 25
row_told (Some IoasAlloc) t bytes = Err 25
row_told (Some AllowIovas) t bytes = Err 25
row_told (Some Copy) t bytes = Ok (open_or (request_of Copy).size bytes (copy_reason t.objects t.mappings (copy_fields bytes)))
row_told (Some IovaRanges) t bytes = Err 25
row_told (Some Map) t bytes = Ok (open_or (request_of Map).size bytes (map_reason t.limit t.objects t.mappings (map_fields bytes)))
row_told (Some Unmap) t bytes = Err 25

-- with the verdict on the table
unfoldable pub explained_by : Bool → Table → ℕ → List ℕ → Explained
explained_by verdict t request bytes = cond verdict (row_told (lookup request) t bytes) (Err 117)

unfoldable pub explained : Table → ℕ → List ℕ → Explained
explained t request bytes = explained_by (good t) t request bytes

-- and with the index beside it
unfoldable pub board_explained : Board → ℕ → List ℕ → Explained
board_explained b request bytes = explained_by (good_board b) b.table request bytes

-- ---- in five words: a code for each reason, its errno, the object or the record, start and length of the run

-- in the order of the cases
abbrev pub reason_code : Reason → ℕ
reason_code Accepted = 0
reason_code NoSizeField = 1
reason_code SizeTooSmall = 2
reason_code SizePastBytes = 3
reason_code TailNotZero = 4
reason_code Flags = 5
reason_code NoRight = 6
reason_code WrongLength = 7
reason_code MemoryPasses = 8
reason_code SourcePasses = 9
reason_code AddressPasses = 10
reason_code NoSpace = 11
reason_code NoSourceSpace = 12
reason_code NoSource = 13
reason_code NotWriteable = 14
reason_code Misaligned = 15
reason_code (TouchesReserved id) = 16
reason_code (TouchesMapping r) = 17
reason_code LengthMisaligned = 18
reason_code (NoPlace run) = 19
reason_code NoRecord = 20
reason_code OverLimit = 21

-- start and length of a run, 0 and 0 where there is none
abbrev pub run_words : Option Run → List ℕ
run_words None = 0 ∷ 0 ∷ []
run_words (Some x) = x.start ∷ (x.more + 1) ∷ []

-- no object, no record and no run
abbrev nothing : List ℕ
nothing = 0 ∷ 0 ∷ 0 ∷ []

-- the object or the record that is named, and the run
abbrev pub place_words : Reason → List ℕ
place_words Accepted = nothing
place_words NoSizeField = nothing
place_words SizeTooSmall = nothing
place_words SizePastBytes = nothing
place_words TailNotZero = nothing
place_words Flags = nothing
place_words NoRight = nothing
place_words WrongLength = nothing
place_words MemoryPasses = nothing
place_words SourcePasses = nothing
place_words AddressPasses = nothing
place_words NoSpace = nothing
place_words NoSourceSpace = nothing
place_words NoSource = nothing
place_words NotWriteable = nothing
place_words Misaligned = nothing
place_words (TouchesReserved id) = id ∷ 0 ∷ 0 ∷ []
place_words (TouchesMapping r) = r ∷ 0 ∷ 0 ∷ []
place_words LengthMisaligned = nothing
place_words (NoPlace run) = 0 ∷ run_words run
place_words NoRecord = nothing
place_words OverLimit = nothing

abbrev pub reason_words : Reason → List ℕ
reason_words r = reason_code r ∷ reason_errno r ∷ place_words r

-- the errno of the tool, 0 where it tells
abbrev pub tool_errno : Explained → ℕ
tool_errno (Err n) = n
tool_errno (Ok r) = 0

-- what it leaves in five words: a refusal leaves them
abbrev pub told_words : Explained → List ℕ → List ℕ
told_words (Err n) words = words
told_words (Ok r) words = reason_words r

-- ---- examples: to unfold `explains` is to unfold all that it lists

unfoldable pub explains : Table → ℕ → List ℕ → Explained
unfolding explained board_explained explained_by open_or reasons gates good_board agreeing
explains t request bytes = explained t request bytes

abbrev u32 : ℕ → List ℕ
u32 n = put 4 (replicate 4 0) 0 n

abbrev u64 : ℕ → List ℕ
u64 n = put 8 (replicate 8 0) 0 n

-- space 1, and record 1 with four bytes at 8
abbrev table : ℕ → Table
table limit = record { limit = limit; objects = new_space ∷ replicate 31 free_object; mappings = record { space = 1; rights = 2; founder = 0; backing = 1; address = 8; length = 4; memory = 0 } ∷ replicate 127 zero_mapping }

-- a fixed MAP of a byte at an address, of a size
abbrev map_at : ℕ → ℕ → List ℕ
map_at size a = u32 size ++ (u32 5 ++ (u32 1 ++ (u32 0 ++ (u64 0 ++ (u64 1 ++ u64 a)))))

-- told: no byte, a size too small, one past the bytes, an address that is mapped, one that is not
explain_map : map (λ (bytes : List ℕ). explained (table 4) 0x3B85 bytes) ([] ∷ map_at 39 8 ∷ map_at 41 8 ∷ map_at 40 8 ∷ map_at 40 7 ∷ [])
    ≡ (Ok NoSizeField ∷ Ok SizeTooSmall ∷ Ok SizePastBytes ∷ Ok (TouchesMapping 1) ∷ Ok Accepted ∷ [])
unfolding explains put
explain_map = refl

-- UNMAP and an unknown request are another: 25; of a bad table all are 117
explain_others : map (λ (request : ℕ). explained (table 4) request []) (0x3B86 ∷ 0x3B7F ∷ 0x3B83 ∷ []) ≡ (Err 25 ∷ Err 25 ∷ Ok NoSizeField ∷ [])
unfolding explains put
explain_others = refl

explain_bad : map (λ (request : ℕ). explained (table (2 ^ 36 + 1)) request []) (0x3B86 ∷ 0x3B7F ∷ 0x3B83 ∷ []) ≡ (Err 117 ∷ Err 117 ∷ Err 117 ∷ [])
unfolding explains put
explain_bad = refl

-- with another index than that of the table: 117
explain_index : map (λ (ix : List ℕ). board_explained (record { table = table 4; index = ix }) 0x3B83 []) ((1 ∷ replicate 127 0) ∷ replicate 128 0 ∷ []) ≡ (Ok NoSizeField ∷ Err 117 ∷ [])
unfolding explains put
explain_index = refl

-- the words: a record, a run, none
words : map reason_words (TouchesMapping 3 ∷ NoPlace (Some (run 0x1000 0xFFF)) ∷ NoPlace None ∷ Flags ∷ [])
    ≡ ((17 ∷ 17 ∷ 3 ∷ 0 ∷ 0 ∷ []) ∷ (19 ∷ 28 ∷ 0 ∷ 0x1000 ∷ 0x1000 ∷ []) ∷ (19 ∷ 28 ∷ 0 ∷ 0 ∷ 0 ∷ []) ∷ (5 ∷ 95 ∷ 0 ∷ 0 ∷ 0 ∷ []) ∷ [])
words = refl
