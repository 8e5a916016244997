-- Document 01: "MAP, UNMAP, ALLOW_IOVAS and IOVA_RANGES answer alike (result, reply bytes, range area) in two good tables that agree on that space, its mappings and allow
-- list, its devices, the limit, the charge and the number of free mapping records." The space is the one that the bytes name.
use Rattle.std.specs.Prelude.{ℕ, ◌≡◌, Bool, true, length, take}
use Rattle.std.proofs.Math.Path.{refl, ap}
use Rattle.std.proofs.Common.{◌∙◌}
use Rattle.std.proofs.Math.Bool.{cond}
use mathlib.Core.List.{List}
use Rattle.lists.specs.Search.{any}
use Rattle.lists.specs.Checks.{Check, first}
use Rattle.ranges.specs.declared.Range.{Range}
use Rattle.ranges.specs.Pages.{pages_touched}
use Rattle.rangelists.specs.Listed.{allowed}
use Rattle.rules_table.specs.Flags.{bit}
use Rattle.rules_calls.specs.Results.{signed_result}
use Rattle.wire.specs.Fields.{field}
use Rattle.freeranges.specs.Written.{put_ranges}
use Rattle.rules_table.specs.declared.Table.{Table}
use Rattle.rules_table.specs.Records.{within, cut_by}
use Rattle.rules_table.specs.Charge.{charge, free_mapping}
use Rattle.rules_table.specs.Good.{good}
use Rattle.rules_calls.specs.Map.{room_checks, over_limit, found_of, founding, map_checks, map_number_checks, map_edit}
use Rattle.rules_calls.specs.Unmap.{asks_all, range_asked, removal_by, removal_checks, unmap_checks, unmap_edit, unmap_number_checks}
use Rattle.rules_calls.specs.Allow.{area_list, list_checks, allow_checks, allow_edit, allow_number_checks}
use Rattle.rules_calls.specs.Ranges.{free_of, replies_to, ranges_bytes, ranges_area, ranges_checks, ranges_errno}
use Rattle.rules_calls.specs.Named.{map_call, map_answer, map_bytes, unmap_call, unmap_answer, unmap_bytes, allow_answer, ranges_call, ranges_result, ranges_reply, ranges_written}
use Rattle.rules_history.specs.Alike.{Alike}
use Rattle.laws_isolation.specs.Mappings.{within-alike, cut-alike, removed-alike, free-alike}
use Rattle.laws_isolation.specs.Devices.{touch_alike, free_ranges-alike}
use Rattle.laws_isolation.specs.Placed.{aligned-alike, place_checks-alike, place-alike}
use Rattle.laws_isolation.specs.Told.{TellAlike, settle-alike, mapped-alike, gate-alike, result-alike, replied-alike}
use Rattle.edits.specs.Numbers.{map_number_checks_at, map_checks_at, map_edit_at, unmap_number_checks_at, unmap_checks_at, unmap_edit_at, allow_number_checks_at, allow_checks_at, allow_edit_at, ranges_errno_at}

-- ---- the checks, each the same test in both tables

module _ (s : ℕ) (t u : Table) (a : Alike s t u) where
  over-alike : (pages : ℕ) → over_limit t.limit (charge t.mappings) pages ≡ over_limit u.limit (charge u.mappings) pages
  over-alike pages = rw (a.limit, a.charge)

  room-alike : (pages : ℕ) → room_checks (free_mapping t.mappings) t.limit (charge t.mappings) pages ≡ room_checks (free_mapping u.mappings) u.limit (charge u.mappings) pages
  unfolding room_checks
  room-alike pages = rw (free-alike t.mappings u.mappings a.free, over-alike pages)

  module _ (flags z memory n x : ℕ) where
    map_numbers_alike : map_number_checks_at t.objects flags s z memory n x ≡ map_number_checks_at u.objects flags s z memory n x
    unfolding map_number_checks
    map_numbers_alike = rw a.space

    map_checks-alike : map_checks_at t.limit t.objects t.mappings flags s z memory n x ≡ map_checks_at u.limit u.objects u.mappings flags s z memory n x
    unfolding map_checks
    map_checks-alike = rw (map_numbers_alike, place_checks-alike s t u a n x (bit 0 flags), room-alike (pages_touched memory n))

    map_edit-alike : TellAlike (map_edit_at t.limit t.objects t.mappings flags s z memory n x) (map_edit_at u.limit u.objects u.mappings flags s z memory n x)
    unfolding map_edit founding found_of
    map_edit-alike =
        settle-alike _ _ _ _ (ap (λ (l : List (Check ℕ)). first l 0) map_checks-alike)
        (mapped-alike (free_mapping t.mappings) (free_mapping u.mappings) _ _ (free-alike t.mappings u.mappings a.free) (place-alike s t u a n x (bit 0 flags)))

  module _ (x n : ℕ) where
    unmap_numbers_alike : unmap_number_checks_at t.objects s x n ≡ unmap_number_checks_at u.objects s x n
    unfolding unmap_number_checks
    unmap_numbers_alike = rw a.space

    removal-alike : removal_checks t.mappings s x n ≡ removal_checks u.mappings s x n
    unfolding removal_checks
    removal-alike =
        ap (λ (b : Bool). removal_by (asks_all x n) b (any (within s (range_asked x n)) t.mappings)) (cut-alike s t.mappings u.mappings a.mappings (range_asked x n))
        ∙ ap (removal_by (asks_all x n) (any (cut_by s (range_asked x n)) u.mappings)) (within-alike s t.mappings u.mappings a.mappings (range_asked x n))

    unmap_checks-alike : unmap_checks_at t.objects t.mappings s x n ≡ unmap_checks_at u.objects u.mappings s x n
    unfolding unmap_checks
    unmap_checks-alike = rw (unmap_numbers_alike, removal-alike)

    unmap_edit-alike : TellAlike (unmap_edit_at t.objects t.mappings s x n) (unmap_edit_at u.objects u.mappings s x n)
    unfolding unmap_edit
    unmap_edit-alike =
        settle-alike _ _ _ _ (ap (λ (l : List (Check ℕ)). first l 0) unmap_checks-alike)
        (record { errno = refl; value = removed-alike s t.mappings u.mappings a.mappings (range_asked x n) })

  module _ (count z : ℕ) (area : List ℕ) where
    allow-numbers_alike : allow_number_checks_at t.objects s count z (length area) ≡ allow_number_checks_at u.objects s count z (length area)
    unfolding allow_number_checks
    allow-numbers_alike = rw a.space

    list_alike : list_checks t.objects s (area_list count area) ≡ list_checks u.objects s (area_list count area)
    unfolding list_checks
    list_alike = rw (touch_alike s t.objects u.objects a.devices (allowed (area_list count area)))

    allow_checks-alike : allow_checks_at t.objects s count z area ≡ allow_checks_at u.objects s count z area
    unfolding allow_checks
    allow_checks-alike = rw (allow-numbers_alike, list_alike)

    allow_edit-alike : TellAlike (allow_edit_at t.objects s count z area) (allow_edit_at u.objects s count z area)
    unfolding allow_edit
    allow_edit-alike = settle-alike _ _ _ _ (ap (λ (l : List (Check ℕ)). first l 0) allow_checks-alike) (record { errno = refl; value = refl })

  listed-alike : free_of t.objects s ≡ free_of u.objects s
  listed-alike = free_ranges-alike s t.objects u.objects a.devices

  ranges_errno-alike : (count z : ℕ) (area : List ℕ) → ranges_errno_at t.objects s count z area ≡ ranges_errno_at u.objects s count z area
  unfolding ranges_errno ranges_checks
  ranges_errno-alike count z area = rw (a.space, listed-alike)

  ranges_bytes-alike : (bytes : List ℕ) → ranges_bytes t.objects s bytes ≡ ranges_bytes u.objects s bytes
  unfolding ranges_bytes
  ranges_bytes-alike bytes = rw (listed-alike, aligned-alike s t u a)

  ranges_area-alike : (count : ℕ) (area : List ℕ) → ranges_area t.objects s count area ≡ ranges_area u.objects s count area
  unfolding ranges_area
  ranges_area-alike count area = ap (λ (l : List Range). put_ranges 0 (take count l) area) listed-alike

-- ---- the calls

module _ (t u : Table) (good-t : good t ≡ true) (good-u : good u ≡ true) (bytes : List ℕ) where
  -- MAP: its space at offset 8
  module _ (a : Alike (field 4 bytes 8) t u) where
    map_call-alike : TellAlike (map_call t bytes) (map_call u bytes)
    unfolding map_call
    map_call-alike =
        settle-alike _ _ _ _ (gate-alike t u 0x3B85 bytes good-t good-u)
        (map_edit-alike (field 4 bytes 8) t u a (field 4 bytes 4) (field 4 bytes 12) (field 8 bytes 16) (field 8 bytes 24) (field 8 bytes 32))

    pub map_alike : ((map_answer t bytes).result ≡ (map_answer u bytes).result) × (map_bytes t bytes ≡ map_bytes u bytes)
    unfolding map_answer map_bytes
    map_alike = (result-alike t u (map_call t bytes) (map_call u bytes) map_call-alike.errno, replied-alike 8 32 bytes (map_call t bytes) (map_call u bytes) map_call-alike)

  -- the other three: their space at offset 4
  module _ (a : Alike (field 4 bytes 4) t u) where
    unmap_call-alike : TellAlike (unmap_call t bytes) (unmap_call u bytes)
    unfolding unmap_call
    unmap_call-alike = settle-alike _ _ _ _ (gate-alike t u 0x3B86 bytes good-t good-u) (unmap_edit-alike (field 4 bytes 4) t u a (field 8 bytes 8) (field 8 bytes 16))

    pub unmap_alike : ((unmap_answer t bytes).result ≡ (unmap_answer u bytes).result) × (unmap_bytes t bytes ≡ unmap_bytes u bytes)
    unfolding unmap_answer unmap_bytes
    unmap_alike = (result-alike t u (unmap_call t bytes) (unmap_call u bytes) unmap_call-alike.errno, replied-alike 8 16 bytes (unmap_call t bytes) (unmap_call u bytes) unmap_call-alike)

    -- it writes no bytes
    pub allow-alike : (area : List ℕ) → (allow_answer t bytes area).result ≡ (allow_answer u bytes area).result
    unfolding allow_answer
    allow-alike area =
        result-alike t u _ _ (settle-alike _ _ _ _ (gate-alike t u 0x3B82 bytes good-t good-u) (allow_edit-alike (field 4 bytes 4) t u a (field 4 bytes 8) (field 4 bytes 12) area)).errno

    ranges_call-alike : (area : List ℕ) → ranges_call t bytes area ≡ ranges_call u bytes area
    unfolding ranges_call
    ranges_call-alike area =
        (settle-alike _ _ _ _ (gate-alike t u 0x3B84 bytes good-t good-u)
        (record { errno = ranges_errno-alike (field 4 bytes 4) t u a (field 4 bytes 8) (field 4 bytes 12) area; value = refl })).errno

    pub ranges-alike : (area : List ℕ)
        → (ranges_result t bytes area ≡ ranges_result u bytes area) × (ranges_reply t bytes area ≡ ranges_reply u bytes area) × (ranges_written t bytes area ≡ ranges_written u bytes area)
    unfolding ranges_result ranges_reply ranges_written
    ranges-alike area = (
      ap signed_result (ranges_call-alike area),
      ap (λ (n : ℕ). cond (replies_to n) (ranges_bytes t.objects (field 4 bytes 4) bytes) bytes) (ranges_call-alike area)
          ∙ ap (λ (l : List ℕ). cond (replies_to (ranges_call u bytes area)) l bytes) (ranges_bytes-alike (field 4 bytes 4) t u a bytes),
      ap (λ (n : ℕ). cond (replies_to n) (ranges_area t.objects (field 4 bytes 4) (field 4 bytes 8) area) area) (ranges_call-alike area)
          ∙ ap (λ (l : List ℕ). cond (replies_to (ranges_call u bytes area)) l area) (ranges_area-alike (field 4 bytes 4) t u a (field 4 bytes 8) area),
    )
