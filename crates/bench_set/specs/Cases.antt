-- Document 01's bench set, K1 to K12, as one table of cases with one statement over it. "Fresh space 1, no device, limit 2^36, readable, memory 0 unless said."
-- Out fields are 7 before (an id, the address of an automatic MAP or COPY, an alignment, the range area), so that it is seen that they are written.
use Rattle.std.specs.Prelude.{ℕ, ◌+◌, ◌^◌, ◌≡◌, refl, true, List, [], ◌∷◌, ◌++◌, ℤ, pos, neg_ℤ, replicate}
use Rattle.lists.specs.Search.{all}
use Rattle.ranges.specs.Ranges.{U64MAX}
use Rattle.wire.specs.Fields.{put}
use Rattle.rangelists.specs.Listed.{Reserved}
use Rattle.rules_history.specs.Calls.{Command, Bind, Attach}
use Rattle.bench_set.specs.Rows.{Row, Case, case_holds}
use Rattle.bench_set.specs.Computing.{running}

-- ---- commands from their fields

-- numbers as bytes
abbrev pub u32 : ℕ → List ℕ
u32 n = put 4 (replicate 4 0) 0 n

abbrev pub u64 : ℕ → List ℕ
u64 n = put 8 (replicate 8 0) 0 n

-- flags: readable; readable at a fixed address; writeable
abbrev pub read : ℕ
read = 4

abbrev pub read_fixed : ℕ
read_fixed = 5

abbrev pub write : ℕ
write = 2

-- MAP: size, flags, space, reserved, memory, length, address
abbrev pub map_command : ℕ → ℕ → ℕ → ℕ → ℕ → List ℕ
map_command flags space memory n address = u32 40 ++ (u32 flags ++ (u32 space ++ (u32 0 ++ (u64 memory ++ (u64 n ++ u64 address)))))

-- COPY: size, flags, target, source, length, target address, source address
abbrev pub copy_command : ℕ → ℕ → ℕ → ℕ → ℕ → ℕ → List ℕ
copy_command flags target source n address from = u32 40 ++ (u32 flags ++ (u32 target ++ (u32 source ++ (u64 n ++ (u64 address ++ u64 from)))))

-- UNMAP: size, space, address, length
abbrev pub unmap_command : ℕ → ℕ → ℕ → List ℕ
unmap_command space address n = u32 24 ++ (u32 space ++ (u64 address ++ u64 n))

-- IOAS_ALLOC: size, flags, out id
abbrev pub alloc_command : ℕ → List ℕ
alloc_command id = u32 12 ++ (u32 0 ++ u32 id)

-- ALLOW_IOVAS: size, space, count, reserved, pointer
abbrev pub allow_command : ℕ → ℕ → List ℕ
allow_command space count = u32 24 ++ (u32 space ++ (u32 count ++ (u32 0 ++ u64 0)))

-- IOVA_RANGES: size, space, count, reserved, pointer, alignment
abbrev pub ranges_command : ℕ → ℕ → ℕ → List ℕ
ranges_command space count align = u32 32 ++ (u32 space ++ (u32 count ++ (u32 0 ++ (u64 0 ++ u64 align))))

-- a range of the range area
abbrev pub area_range : ℕ → ℕ → List ℕ
area_range start last = u64 start ++ u64 last

-- a command with another size field
abbrev pub sized : ℕ → List ℕ → List ℕ
sized n bytes = put 4 bytes 0 n

-- ---- rows. Requests: 0x3B81 IOAS_ALLOC, 0x3B82 ALLOW_IOVAS, 0x3B83 COPY, 0x3B84 IOVA_RANGES, 0x3B85 MAP, 0x3B86 UNMAP

abbrev pub minus : ℕ → ℤ
minus errno = neg_ℤ (pos errno)

-- request, bytes, bytes after, charge after: result 0, no range area
abbrev pub accepts : ℕ → List ℕ → List ℕ → ℕ → Row
accepts request bytes reply charge = record { call = Command request bytes []; result = pos 0; bytes = reply; area = []; charge = charge }

-- request, bytes, errno, charge after: nothing is written
abbrev pub refuses : ℕ → List ℕ → ℕ → ℕ → Row
refuses request bytes errno charge = record { call = Command request bytes []; result = minus errno; bytes = bytes; area = []; charge = charge }

-- IOAS_ALLOC gives the id
abbrev pub new_space : ℕ → Row
new_space id = accepts 0x3B81 (alloc_command 7) (alloc_command id) 0

-- the plan's device (bitmap 4,096; reserved 0xFEE00000 to 0xFEEFFFFF) is bound, with the id 2, and attached to space 1
abbrev pub plan_reserved : Reserved
plan_reserved = record { count = 1; starts = 0xFEE00000 ∷ 0 ∷ 0 ∷ 0 ∷ []; lasts = 0xFEEFFFFF ∷ 0 ∷ 0 ∷ 0 ∷ [] }

abbrev pub bound : Row
bound = record { call = Bind 4096 plan_reserved; result = pos 2; bytes = []; area = []; charge = 0 }

abbrev pub attached : Row
attached = record { call = Attach 2 1; result = pos 0; bytes = []; area = []; charge = 0 }

-- ---- the cases

-- K1 three bytes to 0x3B85: -14
abbrev pub k1 : List Row
k1 = new_space 1 ∷ refuses 0x3B85 (40 ∷ 0 ∷ 0 ∷ []) 14 0 ∷ []

-- K2 MAP, size 39 of 40 lent: -22
abbrev pub k2 : List Row
k2 = new_space 1 ∷ refuses 0x3B85 (sized 39 (map_command read 1 0 4096 7)) 22 0 ∷ []

-- K3 MAP, size 48: zero tail accepted, non-zero tail -7 (its first byte, its last)
abbrev pub k3 : List Row
k3 =
    new_space 1
    ∷ accepts 0x3B85 (sized 48 (map_command read 1 0 4096 7) ++ u64 0) (sized 48 (map_command read 1 0 4096 0) ++ u64 0) 1
    ∷ refuses 0x3B85 (sized 48 (map_command read 1 0 4096 7) ++ u64 1) 7 1
    ∷ refuses 0x3B85 (sized 48 (map_command read 1 0 4096 7) ++ u64 (2 ^ 63)) 7 1
    ∷ []

-- K4 automatic MAP, memory 4,095, length 2: address 0, charge 2
abbrev pub k4 : List Row
k4 = new_space 1 ∷ accepts 0x3B85 (map_command read 1 4095 2 7) (map_command read 1 4095 2 0) 2 ∷ []

-- K5 fixed U64MAX, length 1: accepted; length 2: -75
abbrev pub k5 : List Row
k5 =
    new_space 1
    ∷ accepts 0x3B85 (map_command read_fixed 1 0 1 U64MAX) (map_command read_fixed 1 0 1 U64MAX) 1
    ∷ refuses 0x3B85 (map_command read_fixed 1 0 2 U64MAX) 75 1
    ∷ []

-- K6 length 2^40 from memory 0: charge 2^28; 2^40 + 1: -22
abbrev pub k6 : List Row
k6 =
    new_space 1
    ∷ accepts 0x3B85 (map_command read 1 0 (2 ^ 40) 7) (map_command read 1 0 (2 ^ 40) 0) (2 ^ 28)
    ∷ refuses 0x3B85 (map_command read 1 0 (2 ^ 40 + 1) 7) 22 (2 ^ 28)
    ∷ []

-- K7 mappings 0 to 4,095 and 4,096 to 8,191: UNMAP 0, 6,000: -2, both stay; 0, 8,192: 8,192; again -2; 0, U64MAX: success, length 0
abbrev pub k7 : List Row
k7 =
    new_space 1
    ∷ accepts 0x3B85 (map_command read_fixed 1 0 4096 0) (map_command read_fixed 1 0 4096 0) 1
    ∷ accepts 0x3B85 (map_command read_fixed 1 0 4096 4096) (map_command read_fixed 1 0 4096 4096) 2
    ∷ refuses 0x3B86 (unmap_command 1 0 6000) 2 2
    ∷ accepts 0x3B86 (unmap_command 1 0 8192) (unmap_command 1 0 8192) 0
    ∷ refuses 0x3B86 (unmap_command 1 0 8192) 2 0
    ∷ accepts 0x3B86 (unmap_command 1 0 U64MAX) (unmap_command 1 0 0) 0
    ∷ []

-- K8 the plan's device attached, count 2: 0 to 0xFEDFFFFF and 0xFEF00000 to U64MAX, alignment 4,096
abbrev pub k8 : List Row
k8 =
    new_space 1 ∷ bound ∷ attached
    ∷ record {
      call = Command 0x3B84 (ranges_command 1 2 7) (replicate 32 7);
      result = pos 0;
      bytes = ranges_command 1 2 4096;
      area = area_range 0 0xFEDFFFFF ++ area_range 0xFEF00000 U64MAX;
      charge = 0;
    }
    ∷ []

-- K9 count 1: -90, first range, count 2
abbrev pub k9 : List Row
k9 =
    new_space 1 ∷ bound ∷ attached
    ∷ record {
      call = Command 0x3B84 (ranges_command 1 1 7) (replicate 32 7);
      result = minus 90;
      bytes = ranges_command 1 2 4096;
      area = area_range 0 0xFEDFFFFF ++ replicate 16 7;
      charge = 0;
    }
    ∷ []

-- K10 allow 0x100000 to 0x1FFFFF: automatic 0x100000 bytes go to 0x100000; one more byte -28; fixed 0, length 1 accepted.
-- "One more byte" in both readings: 0x100001 bytes, before the range is taken, and 1 byte, after it is
abbrev pub k10 : List Row
k10 =
    new_space 1
    ∷ record {
      call = Command 0x3B82 (allow_command 1 1) (area_range 0x100000 0x1FFFFF);
      result = pos 0;
      bytes = allow_command 1 1;
      area = area_range 0x100000 0x1FFFFF;
      charge = 0;
    }
    ∷ refuses 0x3B85 (map_command read 1 0 0x100001 7) 28 0
    ∷ accepts 0x3B85 (map_command read 1 0 0x100000 7) (map_command read 1 0 0x100000 0x100000) 256
    ∷ refuses 0x3B85 (map_command read 1 0 1 7) 28 256
    ∷ accepts 0x3B85 (map_command read_fixed 1 0 1 0) (map_command read_fixed 1 0 1 0) 257
    ∷ []

-- K11 one page mapped, copied to space 2: charge 1; first removed 1; copy removed 0
abbrev pub k11 : List Row
k11 =
    new_space 1 ∷ new_space 2
    ∷ accepts 0x3B85 (map_command read 1 0 4096 7) (map_command read 1 0 4096 0) 1
    ∷ accepts 0x3B83 (copy_command read 2 1 4096 7 0) (copy_command read 2 1 4096 0 0) 1
    ∷ accepts 0x3B86 (unmap_command 1 0 4096) (unmap_command 1 0 4096) 1
    ∷ accepts 0x3B86 (unmap_command 2 0 4096) (unmap_command 2 0 4096) 0
    ∷ []

-- K12 writeable COPY of a readable-only MAP: -1
abbrev pub k12 : List Row
k12 =
    new_space 1 ∷ new_space 2
    ∷ accepts 0x3B85 (map_command read 1 0 4096 7) (map_command read 1 0 4096 0) 1
    ∷ refuses 0x3B83 (copy_command write 2 1 4096 7 0) 1 1
    ∷ []

-- ---- the table

abbrev pub case : ℕ → List Row → Case
case number rows = record { number = number; rows = rows }

unfoldable pub bench_set : List Case
bench_set =
    case 1 k1
    ∷ case 2 k2
    ∷ case 3 k3
    ∷ case 4 k4
    ∷ case 5 k5
    ∷ case 6 k6
    ∷ case 7 k7
    ∷ case 8 k8
    ∷ case 9 k9
    ∷ case 10 k10
    ∷ case 11 k11
    ∷ case 12 k12
    ∷ []

-- every row of every case holds: what that says is `row-says`, in Rows
pub bench_set-holds : all case_holds bench_set ≡ true
unfolding bench_set running
bench_set-holds = refl
