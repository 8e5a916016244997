-- What comes before every call: a bad table is 117 (document 01, "A table is bad, and every call on it answers 117"), then, of a command, the opening.
use Rattle.std.specs.Prelude.{ℕ, ◌+◌, ◌^◌, Bool, cond, List, [], ◌∷◌, ◌≡◌, refl, replicate}
use Rattle.rules_calls.specs.Opening.{opened, opening_errno, size_field, tail, size_checks, open_checks}
use Rattle.rules_table.specs.declared.Object.{Object}
use Rattle.rules_table.specs.declared.Mapping.{Mapping}
use Rattle.rules_table.specs.declared.Table.{Table}
use Rattle.rules_table.specs.Good.{good, when_used, mapping_names, device_names, together, apart, length_fits, rights_fit, ends_fit, clear_of, aligned_to, mapping_fits, differ, backings_agree, writes_by_right, device_valid, list_valid, lists_touch, list_clear, mapping_zero, reserved_rest, allow_rest, no_device, no_list, object_zero, records_counted, backing_number, limit_holds}
use Rattle.std.specs.Int.Count.{count_trailing_zeros}
use Rattle.lists.specs.Search.{any, all, find}
use Rattle.lists.specs.Below.{sum_below}
use Rattle.lists.specs.Checks.{first}
use Rattle.lists.specs.Pairs.{clashes}
use Rattle.ranges.specs.Ranges.{share, shared_start, shared_last, passes, last_of, span}
use Rattle.ranges.specs.Pages.{pages_touched}
use Rattle.alignment.specs.Multiples.{multiple, fits}
use Rattle.alignment.specs.Pages.{smallest_page}
use Rattle.alignment.specs.Highest.{highest}
use Rattle.rangelists.specs.Listed.{places, listed, ordered, valid, overlap, ranges_in}
use Rattle.wire.specs.Fields.{field, zeros}
use Rattle.rules_table.specs.Flags.{bit}
use Rattle.rules_table.specs.Records.{object_at, space_at, used, of_space, extent, can_write, fresh_table}
use Rattle.rules_table.specs.Spaces.{page_for, alignment, reserved_for, reserved_of}
use Rattle.rules_table.specs.Charge.{backs, mapping_pages, backing_pages, charge_in, charge}
use Rattle.rules_table.specs.Fits.{bind_checks, device_fits, list_fits}
use Rattle.rules_calls.specs.Requests.{commands, lookup}

abbrev pub table_with : ℕ → List Object → List Mapping → Table
table_with limit os ms = record { limit = limit; objects = os; mappings = ms }

-- the one place of 117: the verdict on the table, and what is answered where it is good
abbrev pub gate : Bool → ℕ → ℕ
gate verdict next = cond verdict next 117

-- before a command; 0 where it is open
unfoldable pub gate_errno : Table → ℕ → List ℕ → ℕ
gate_errno t request bytes = gate (good t) (opening_errno (opened request bytes))

-- before a host call
unfoldable pub table_errno : Table → ℕ
table_errno t = gate (good t) 0

-- ---- examples: to unfold `gates` is to unfold all that it lists

unfoldable pub gates : Table → ℕ → List ℕ → ℕ
unfolding gate_errno table_errno opened lookup commands open_checks size_checks size_field field first tail good when_used mapping_names device_names together apart length_fits rights_fit ends_fit clear_of aligned_to mapping_fits differ backings_agree writes_by_right device_valid device_fits bind_checks list_valid list_fits lists_touch list_clear mapping_zero reserved_rest allow_rest no_device no_list object_zero records_counted backing_number limit_holds charge charge_in backing_pages mapping_pages backs page_for alignment reserved_for reserved_of object_at space_at used of_space extent can_write bit zeros ranges_in listed places ordered valid overlap highest smallest_page count_trailing_zeros multiple fits pages_touched share shared_start shared_last passes last_of span sum_below clashes any all find fresh_table
gates t request bytes = gate_errno t request bytes

-- a fresh table of the highest limit, and of one more, which is bad
abbrev fresh : Table
fresh = fresh_table (2 ^ 36)

abbrev bad : Table
bad = fresh_table (2 ^ 36 + 1)

-- 40 bytes of a MAP
abbrev ask_map : List ℕ
ask_map = 40 ∷ replicate 39 0

-- before a host call
gate-table : (table_errno fresh ∷ table_errno bad ∷ []) ≡ (0 ∷ 117 ∷ [])
unfolding gates
gate-table = refl

-- before a command: MAP with its bytes; three bytes; an unknown request
gate-good : (gate_errno fresh 0x3B85 ask_map ∷ gate_errno fresh 0x3B85 (40 ∷ 0 ∷ 0 ∷ []) ∷ gate_errno fresh 0x3B7F ask_map ∷ []) ≡ (0 ∷ 14 ∷ 25 ∷ [])
unfolding gates
gate-good = refl

-- of a bad table 117 comes first, before an unknown request and before three bytes
gate-bad : (gate_errno bad 0x3B85 ask_map ∷ gate_errno bad 0x3B85 (40 ∷ 0 ∷ 0 ∷ []) ∷ gate_errno bad 0x3B7F ask_map ∷ []) ≡ (117 ∷ 117 ∷ 117 ∷ [])
unfolding gates
gate-bad = refl
