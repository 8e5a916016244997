-- A good table: one that is not bad by document 01's paragraph "A table is bad ..". One part for each of its rules, in its order.
use Rattle.std.specs.Prelude.{ℕ, ◌+◌, ◌^◌, min, ◌≡◌, refl, Bool, true, false, not, ◌&&◌, ◌||◌, cond, List, ◌∷◌, leb, ltb, eqb, drop, replicate}
use Rattle.std.specs.Int.Count.{count_trailing_zeros}
use Rattle.std.proofs.Math.ListN as ListN
use Rattle.lists.specs.Search.{any, all, find}
use Rattle.lists.specs.Below.{sum_below}
use Rattle.lists.specs.Pairs.{clashes}
use Rattle.ranges.specs.declared.Range.{Range}
use Rattle.ranges.specs.Ranges.{share, shared_start, shared_last, passes, last_of, span}
use Rattle.ranges.specs.Pages.{pages_touched}
use Rattle.alignment.specs.Multiples.{multiple, fits}
use Rattle.alignment.specs.Pages.{smallest_page}
use Rattle.alignment.specs.Highest.{highest}
use Rattle.rangelists.specs.Listed.{places, listed, reserved, allowed, ordered, valid, overlap, ranges_in}
use Rattle.wire.specs.Fields.{zeros}
use Rattle.rules_table.specs.declared.Attachment.TheVariants.{Attached}
use Rattle.rules_table.specs.Limits.{most_limit, most_length, object_count, mapping_count, most_reserved, most_allowed}
use Rattle.rules_table.specs.Flags.{bit}
use Rattle.rules_table.specs.declared.Kind.TheVariants.{Device}
use Rattle.rules_table.specs.declared.Object.{Object}
use Rattle.rules_table.specs.declared.Mapping.{Mapping}
use Rattle.rules_table.specs.declared.Table.{Table}
use Rattle.rules_table.specs.Records.{no_allowed, new_space, free_object, zero_mapping, is_space, is_device, is_attached, home_of, space_at, object_at, used, of_space, extent, can_write}
use Rattle.rules_table.specs.Spaces.{page_for, alignment, reserved_for, reserved_of}
use Rattle.rules_table.specs.Charge.{backs, mapping_pages, backing_pages, charge_in, charge}
use Rattle.rules_table.specs.Fits.{bind_checks, device_fits, list_fits}

-- a rule of mappings: it asks nothing of a released record
unfoldable pub when_used : (Mapping → Bool) → Mapping → Bool
when_used p m = not (used m) || p m

-- 1. a mapping or an attached device names a record that is a space
unfoldable pub mapping_names : List Object → Mapping → Bool
mapping_names os = when_used (λ m. space_at os m.space)

unfoldable pub device_names : List Object → Object → Bool
device_names os o = not (is_attached o.kind) || space_at os (home_of o.kind)

-- 2. no two mappings of one space share an address
unfoldable pub together : Mapping → Mapping → Bool
together m n = used m && (eqb m.space n.space && share (extent m) (extent n))

unfoldable pub apart : List Mapping → Bool
apart ms = not (clashes together ms)

-- 3. length from 1 to 2^40, some right, within U64MAX in space and memory, clear of reserved ranges, aligned
unfoldable pub length_fits : Mapping → Bool
length_fits m = ltb 0 m.length && leb m.length most_length

unfoldable pub rights_fit : Mapping → Bool
rights_fit m = ltb 0 m.rights && leb m.rights 3

unfoldable pub ends_fit : Mapping → Bool
ends_fit m = not (passes m.address m.length) && not (passes m.memory m.length)

unfoldable pub clear_of : List Range → Mapping → Bool
clear_of rs m = not (any (share (extent m)) rs)

unfoldable pub aligned_to : ℕ → Mapping → Bool
aligned_to a m = fits a m.address m.length

unfoldable pub mapping_fits : List Object → Mapping → Bool
mapping_fits os = when_used (λ m.
    length_fits m && (rights_fit m && (ends_fit m && (clear_of (reserved_of os m.space) m && aligned_to (alignment os m.space) m))))

-- 4. mappings of one backing agree in memory start, length and founding right, and none writes without that right
unfoldable pub differ : Mapping → Mapping → Bool
differ m n =
    used m && (used n && (eqb m.backing n.backing && not (eqb m.memory n.memory && (eqb m.length n.length && eqb m.founder n.founder))))

unfoldable pub backings_agree : List Mapping → Bool
backings_agree ms = not (clashes differ ms)

unfoldable pub writes_by_right : Mapping → Bool
writes_by_right = when_used (λ m. leb m.founder 1 && (not (can_write m) || eqb m.founder 1))

-- 5. fields of a device as bind takes them; an allow list as ALLOW_IOVAS takes it, no range of which touches a reserved range.
-- The last is asked from the device's side: of each device attached to the space
unfoldable pub device_valid : Object → Bool
device_valid o = not (is_device o.kind) || device_fits o

unfoldable pub list_valid : Object → Bool
list_valid o = not (is_space o.kind) || list_fits o

-- some range of the one list shares an address with some range of the other
unfoldable pub lists_touch : List Range → List Range → Bool
lists_touch rs qs = any (λ r. any (share r) qs) rs

unfoldable pub list_clear : List Object → Object → Bool
list_clear os o = not (is_attached o.kind) || not (lists_touch (reserved o.reserved) (allowed (object_at os (home_of o.kind)).allow))

-- 6. a released record, a field its kind does not use and an unused place of a list are zero
unfoldable pub mapping_zero : Mapping → Bool
mapping_zero m =
    used m || (eqb m.rights 0 && (eqb m.founder 0 && (eqb m.backing 0 && (eqb m.address 0 && (eqb m.length 0 && eqb m.memory 0)))))

unfoldable pub reserved_rest : Object → Bool
reserved_rest o = zeros (drop (min o.reserved.count most_reserved) o.reserved.starts) && zeros (drop (min o.reserved.count most_reserved) o.reserved.lasts)

unfoldable pub allow_rest : Object → Bool
allow_rest o = zeros (drop (min o.allow.count most_allowed) o.allow.starts) && zeros (drop (min o.allow.count most_allowed) o.allow.lasts)

unfoldable pub no_device : Object → Bool
no_device o = eqb o.bitmap 0 && (eqb o.reserved.count 0 && reserved_rest o)

unfoldable pub no_list : Object → Bool
no_list o = eqb o.allow.count 0 && allow_rest o

unfoldable pub object_zero : Object → Bool
object_zero o = cond (is_device o.kind) (reserved_rest o) (no_device o) && cond (is_space o.kind) (allow_rest o) (no_list o)

-- 7. the mapping records are 128 (and the object records 32)
unfoldable pub records_counted : Table → Bool
records_counted t = eqb (ListN.length t.mappings) mapping_count && eqb (ListN.length t.objects) object_count

-- 8. a backing number is from 1 to 128
unfoldable pub backing_number : Mapping → Bool
backing_number = when_used (λ m. leb 1 m.backing && leb m.backing mapping_count)

-- 9. the limit is at most 2^36 and not below the charge
unfoldable pub limit_holds : Table → Bool
limit_holds t = leb t.limit most_limit && leb (charge t.mappings) t.limit

unfoldable pub good : Table → Bool
good t =
    (all (mapping_names t.objects) t.mappings && all (device_names t.objects) t.objects)
    && (apart t.mappings
    && (all (mapping_fits t.objects) t.mappings
    && ((backings_agree t.mappings && all writes_by_right t.mappings)
    && ((all device_valid t.objects && (all list_valid t.objects && all (list_clear t.objects) t.objects))
    && ((all mapping_zero t.mappings && all object_zero t.objects)
    && (records_counted t
    && (all backing_number t.mappings
    && limit_holds t)))))))

-- ---- examples: to unfold `judged` is to unfold all that it lists

unfoldable judged : Table → Bool
unfolding good when_used mapping_names device_names together apart length_fits rights_fit ends_fit clear_of aligned_to mapping_fits differ backings_agree writes_by_right device_valid device_fits bind_checks list_valid list_fits lists_touch list_clear mapping_zero reserved_rest allow_rest no_device no_list object_zero records_counted backing_number limit_holds charge charge_in backing_pages mapping_pages backs page_for alignment reserved_for reserved_of object_at space_at used of_space extent can_write bit zeros ranges_in listed places ordered valid overlap highest smallest_page count_trailing_zeros multiple fits pages_touched share shared_start shared_last passes last_of span sum_below clashes any all find
judged t = good t

-- space 1, device 2 attached to it with pages of 4,096 and 0xFEE00000 to 0xFEEFFFFF reserved, and one mapping
abbrev device : ℕ → Object
device bitmap = record { kind = Device (Attached 1); bitmap = bitmap; reserved = record { count = 1; starts = 0xFEE00000 ∷ replicate 3 0; lasts = 0xFEEFFFFF ∷ replicate 3 0 }; allow = no_allowed }

abbrev mapping_at : ℕ → ℕ → ℕ → Mapping
mapping_at s a n = record { space = s; rights = 2; founder = 0; backing = 1; address = a; length = n; memory = 0 }

abbrev table_of : ℕ → Object → List Mapping → Table
table_of limit d ms = record { limit = limit; objects = new_space ∷ d ∷ replicate 30 free_object; mappings = ms }

abbrev one : Mapping → List Mapping
one m = m ∷ replicate 127 zero_mapping

abbrev two : Mapping → Mapping → List Mapping
two m n = m ∷ n ∷ replicate 126 zero_mapping

it_is_good : good (table_of 1 (device 0x1000) (one (mapping_at 1 0x1000 0x1000))) ≡ true
unfolding judged
it_is_good = refl

-- 1. there is no space 3
bad-1 : good (table_of 1 (device 0x1000) (one (mapping_at 3 0x1000 0x1000))) ≡ false
unfolding judged
bad-1 = refl

-- 2. they share the page at 0x2000
bad-2 : good (table_of 2 (device 0x1000) (two (mapping_at 1 0x1000 0x2000) (mapping_at 1 0x2000 0x2000))) ≡ false
unfolding judged
bad-2 = refl

-- 3. length 0; the last byte is reserved; not a multiple of the device's page
bad-3 : good (table_of 1 (device 1) (one (mapping_at 1 0x1000 0))) ≡ false
unfolding judged
bad-3 = refl

bad-3_reserved : good (table_of 2 (device 1) (one (mapping_at 1 0xFEDFF001 0x1000))) ≡ false
unfolding judged
bad-3_reserved = refl

bad-3_aligned : good (table_of 1 (device 0x1000) (one (mapping_at 1 0x1000 0x1001))) ≡ false
unfolding judged
bad-3_aligned = refl

-- 4. one backing, two lengths
bad-4 : good (table_of 2 (device 0x1000) (two (mapping_at 1 0x1000 0x1000) (mapping_at 1 0x4000 0x2000))) ≡ false
unfolding judged
bad-4 = refl

-- 5. a page of 8,192
bad-5 : good (table_of 2 (device 0x2000) (one (mapping_at 1 0x2000 0x2000))) ≡ false
unfolding judged
bad-5 = refl

-- 6. a released record with a length
bad-6 : good (table_of 1 (device 0x1000) (one (mapping_at 0 0 0x1000))) ≡ false
unfolding judged
bad-6 = refl

-- 7. 127 records
bad-7 : good (table_of 1 (device 0x1000) (replicate 127 zero_mapping)) ≡ false
unfolding judged
bad-7 = refl

-- 9. one page, and no page allowed
bad-9 : good (table_of 0 (device 0x1000) (one (mapping_at 1 0x1000 0x1000))) ≡ false
unfolding judged
bad-9 = refl

-- 9. a limit of 2^36, and one more
most-limit : good (table_of (2 ^ 36) (device 0x1000) (one (mapping_at 1 0x1000 0x1000))) ≡ true
unfolding judged
most-limit = refl

past-limit : good (table_of (2 ^ 36 + 1) (device 0x1000) (one (mapping_at 1 0x1000 0x1000))) ≡ false
unfolding judged
past-limit = refl
