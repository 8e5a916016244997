-- What the tool tells is so: where a check fires, what its name says holds.
use Rattle.std.specs.Prelude.{ℕ, ◌+◌, ◌<◌, ◌≡◌, refl, Bool, true, false, length, Option, None, Some, Ok, Err}
use Rattle.std.proofs.Common.{sym, subst, ◌∙◌, arith}
use mathlib.Core.List.{List, [], ◌∷◌, ◌++◌}
use borrow.Author.Tests.{not-true, ltb-true}
use Rattle.lists.specs.Tests.{by-test, contrary}
use Rattle.lists.specs.Search.{any}
use Rattle.lists.specs.Checks.{Check, when, first, first-fires, first_passes}
use Rattle.ranges.specs.declared.Range.{Range}
use Rattle.ranges.specs.Ranges.{share, span}
use Rattle.ranges.specs.Pages.{pages_touched}
use Rattle.alignment.specs.Multiples.{multiple, fits}
use Rattle.rangelists.specs.Listed.{allowed}
use Rattle.placement.specs.Candidates.{place_of}
use Rattle.wire.specs.Fields.{zeros}
use Rattle.runs.specs.declared.Run.{Run}
use Rattle.runs.specs.Longest.{longest_is, told-shorter}
use Rattle.rules_table.specs.Flags.{fixed}
use Rattle.rules_table.specs.declared.Object.{Object}
use Rattle.rules_table.specs.declared.Mapping.{Mapping}
use Rattle.rules_table.specs.declared.Table.{Table}
use Rattle.rules_table.specs.Records.{free_object, zero_mapping, object_at, space_at, touches}
use Rattle.rules_table.specs.Spaces.{alignment, reserved_for, reserved_of}
use Rattle.rules_table.specs.Good.{good}
use Rattle.rules_table.specs.Charge.{charge, free_mapping}
use Rattle.table.specs.Aligned.{any-reserved_of}
use Rattle.rules_calls.specs.declared.Command.{Command}
use Rattle.rules_calls.specs.declared.Command.TheVariants.{Destroy, IoasAlloc, AllowIovas, Copy, IovaRanges, Map, Unmap}
use Rattle.rules_calls.specs.Edits.{is_none}
use Rattle.rules_calls.specs.Requests.{request_of, lookup}
use Rattle.rules_calls.specs.Opening.{size_field, tail, size_checks, open_checks}
use Rattle.rules_calls.specs.Landing.{blocked_in, lowest_tried, automatic, taken, fixed_checks, automatic_checks, place_checks}
use Rattle.rules_calls.specs.Map.{MapFields, map_fields, map_number_checks, over_limit, room_checks, map_checks}
use Rattle.rules_calls.specs.Copy.{CopyFields, copy_fields, source_of, copy_number_checks, source_checks, record_checks, copy_checks}
use Rattle.rules_index.specs.Board.{Board, good_board}
use Rattle.rules_reasons.specs.declared.Reason.{Reason}
use Rattle.rules_reasons.specs.declared.Reason.TheVariants.{Accepted, NoSizeField, SizeTooSmall, SizePastBytes, TailNotZero, Misaligned, TouchesReserved, TouchesMapping, LengthMisaligned, NoPlace}
use Rattle.rules_reasons.specs.Explain.{Explained}
use Rattle.rules_reasons.specs.Reasons.{named, object_touched, record_touched, longest_in, open_names, map_number_names, copy_number_names, source_names, place_names, room_names, record_names, map_names, copy_names, map_reason, copy_reason}
use Rattle.rules_reasons.specs.Explain.{open_or, row_told, explained_by, explained, board_explained}
use Rattle.laws_reasons.specs.Lowest.{lowest-is}
use Rattle.laws_reasons.specs.Says.{Telling, LowestObject, LowestRecord, LongestShort, MapSays, CopySays, Says}

-- ---- names beside checks

module _ {A R : Type 0} (P : R → Type 0) where
  telling-append : (cs ds : List (Check A)) (rs qs : List R) → Telling P cs rs → Telling P ds qs → Telling P (cs ++ ds) (rs ++ qs)
  telling-append [] ds [] qs h k = k
  telling-append [] ds (r ∷ rs) qs h k = absurd h
  telling-append (c ∷ cs) ds [] qs h k = absurd h
  telling-append (c ∷ cs) ds (r ∷ rs) qs h k = (h.0, telling-append cs ds rs qs h.1 k)

  first-tells : (ok : R) (cs : List (Check A)) (rs : List R) → Telling P cs rs → P ok → P (first (named cs rs) ok)
  unfolding first named
  first-tells ok [] [] h k = k
  first-tells ok [] (r ∷ rs) h k = absurd h
  first-tells ok (c ∷ cs) [] h k = absurd h
  first-tells ok (c ∷ cs) (r ∷ rs) h k =
      by-test c.fires
      (λ e. rw (first-fires (when c.fires r) (named cs rs) ok e) (h.0 e))
      (λ e. rw (first_passes (when c.fires r) (named cs rs) ok e) (first-tells ok cs rs h.1 k))

-- ---- the opening

pub open_tells : (P : Reason → Type 0) (known : ℕ) (bytes : List ℕ) (r : Reason) → (length bytes < 4 → P NoSizeField) → (size_field bytes < known → P SizeTooSmall) → (length bytes < size_field bytes → P SizePastBytes)
    → (zeros (tail known (size_field bytes) bytes) ≡ false → P TailNotZero) → P r → P (open_or known bytes r)
unfolding open_or open_checks size_checks
open_tells P known bytes r f g h k ok =
    first-tells P r (open_checks known bytes) open_names (
      λ e. f (ltb-true (length bytes) 4 e),
      (λ e. g (ltb-true (size_field bytes) known e), (λ e. h (ltb-true (length bytes) (size_field bytes) e), (λ e. k (not-true (zeros (tail known (size_field bytes) bytes)) e), tt))),
    )
    ok

-- ---- what is named with a place

object-lowest : (os : List Object) (s : ℕ) (r : Range) → any (share r) (reserved_of os s) ≡ true → LowestObject os s r (object_touched os s r)
unfolding object_touched
object-lowest os s r e = lowest-is (λ (o : Object). any (share r) (reserved_for s o)) os free_object (sym (any-reserved_of (share r) os s) ∙ e)

record_lowest : (ms : List Mapping) (s n x : ℕ) → taken ms s n x ≡ true → LowestRecord ms s (span x n) (record_touched ms s (span x n))
unfolding taken record_touched
record_lowest ms s n x e = lowest-is (touches s (span x n)) ms zero_mapping e

none_of : (o : Option ℕ) → is_none o ≡ true → o ≡ None
none_of None e = refl
none_of (Some n) e = contrary false e refl

longest_short : (os : List Object) (ms : List Mapping) (s n : ℕ) → is_none (automatic os ms s n) ≡ true → LongestShort os ms s n (longest_in os ms s)
unfolding longest_in automatic
longest_short os ms s n e = (
  longest_is (alignment os s) lowest_tried (blocked_in os ms s) (allowed (object_at os s).allow),
  λ y k f. let h = told-shorter (alignment os s) lowest_tried (blocked_in os ms s) (allowed (object_at os s).allow) n y k (none_of (place_of (alignment os s) n lowest_tried (blocked_in os ms s) (allowed (object_at os s).allow)) e) f in omega (arith, h),
)

-- the names of the place, for what P says of them
place-telling : (P : Reason → Type 0) (os : List Object) (ms : List Mapping) (s n x : ℕ) → (fits (alignment os s) x n ≡ false → P Misaligned)
    → ((id : ℕ) → LowestObject os s (span x n) id → P (TouchesReserved id)) → ((r : ℕ) → LowestRecord ms s (span x n) r → P (TouchesMapping r))
    → (multiple (alignment os s) n ≡ false → P LengthMisaligned) → ((run : Option Run) → LongestShort os ms s n run → P (NoPlace run))
    → (fixed : Bool) → Telling P (place_checks os ms s fixed n x) (place_names os ms s fixed n x)
unfolding place_checks place_names fixed_checks automatic_checks
place-telling P os ms s n x a o r l p true =
    (λ e. a (not-true (fits (alignment os s) x n) e), (λ e. o (object_touched os s (span x n)) (object-lowest os s (span x n) e), (λ e. r (record_touched ms s (span x n)) (record_lowest ms s n x e), tt)))
place-telling P os ms s n x a o r l p false = (λ e. l (not-true (multiple (alignment os s) n) e), (λ e. p (longest_in os ms s) (longest_short os ms s n e), tt))

over-limit : (limit charged pages : ℕ) → over_limit limit charged pages ≡ true → limit < charged + pages
unfolding over_limit
over-limit limit charged pages e = ltb-true limit (charged + pages) e

-- ---- MAP

module _ (known : ℕ) (bytes : List ℕ) (limit : ℕ) (os : List Object) (ms : List Mapping) (c : MapFields) where
  map_number_telling : Telling (MapSays known bytes limit os ms c) (map_number_checks os c) map_number_names
  unfolding map_number_checks
  map_number_telling = (λ e. e, (λ e. e, (λ e. e, (λ e. e, (λ e. e, (λ e. not-true (space_at os c.space) e, tt))))))

  map_room_telling : Telling (MapSays known bytes limit os ms c) (room_checks (free_mapping ms) limit (charge ms) (pages_touched c.memory c.length)) room_names
  unfolding room_checks
  map_room_telling = (λ e. e, (λ e. over-limit limit (charge ms) (pages_touched c.memory c.length) e, tt))

  -- THE LAW
  pub map_tells : MapSays known bytes limit os ms c (map_reason limit os ms c)
  unfolding map_reason map_checks map_names
  map_tells =
      first-tells (MapSays known bytes limit os ms c) Accepted (map_checks limit os ms c) (map_names os ms c)
      (telling-append (MapSays known bytes limit os ms c) (map_number_checks os c) _ map_number_names _ map_number_telling
      (telling-append (MapSays known bytes limit os ms c) (place_checks os ms c.space (fixed c.flags) c.length c.address) _ (place_names os ms c.space (fixed c.flags) c.length c.address) _
      (place-telling (MapSays known bytes limit os ms c) os ms c.space c.length c.address (λ e. e) (λ id e. e) (λ r e. e) (λ e. e) (λ run e. e) (fixed c.flags))
      map_room_telling))
      tt

-- ---- COPY

module _ (known : ℕ) (bytes : List ℕ) (os : List Object) (ms : List Mapping) (c : CopyFields) where
  copy_number_telling : Telling (CopySays known bytes os ms c) (copy_number_checks os c) copy_number_names
  unfolding copy_number_checks
  copy_number_telling = (λ e. e, (λ e. e, (λ e. e, (λ e. e, (λ e. e, (λ e. not-true (space_at os c.target) e, (λ e. not-true (space_at os c.source) e, tt)))))))

  copy_source_telling : Telling (CopySays known bytes os ms c) (source_checks c.flags (source_of ms c.source c.origin c.length)) source_names
  unfolding source_checks
  copy_source_telling = (λ e. e, (λ e. e, tt))

  copy_record_telling : Telling (CopySays known bytes os ms c) (record_checks (free_mapping ms)) record_names
  unfolding record_checks
  copy_record_telling = (λ e. e, tt)

  -- THE LAW
  pub copy_tells : CopySays known bytes os ms c (copy_reason os ms c)
  unfolding copy_reason copy_checks copy_names
  copy_tells =
      first-tells (CopySays known bytes os ms c) Accepted (copy_checks os ms c) (copy_names os ms c)
      (telling-append (CopySays known bytes os ms c) (copy_number_checks os c) _ copy_number_names _ copy_number_telling
      (telling-append (CopySays known bytes os ms c) (source_checks c.flags (source_of ms c.source c.origin c.length)) _ source_names _ copy_source_telling
      (telling-append (CopySays known bytes os ms c) (place_checks os ms c.target (fixed c.flags) c.length c.address) _ (place_names os ms c.target (fixed c.flags) c.length c.address) _
      (place-telling (CopySays known bytes os ms c) os ms c.target c.length c.address (λ e. e) (λ id e. e) (λ r e. e) (λ e. e) (λ run e. e) (fixed c.flags))
      copy_record_telling)))
      tt

-- ---- through the door

-- a refusal says nothing
abbrev Saying : Option Command → Table → List ℕ → Explained → Type 0
Saying w t bytes (Err n) = Unit {0}
Saying w t bytes (Ok r) = Says w t bytes r

row-says : (w : Option Command) (t : Table) (bytes : List ℕ) → Saying w t bytes (row_told w t bytes)
row-says None t bytes = tt
row-says (Some Destroy) t bytes = tt
row-says (Some IoasAlloc) t bytes = tt
row-says (Some AllowIovas) t bytes = tt
row-says (Some Copy) t bytes =
    open_tells (CopySays (request_of Copy).size bytes t.objects t.mappings (copy_fields bytes)) (request_of Copy).size bytes (copy_reason t.objects t.mappings (copy_fields bytes)) (λ h. h) (λ h. h) (λ h. h) (λ h. h)
    (copy_tells (request_of Copy).size bytes t.objects t.mappings (copy_fields bytes))
row-says (Some IovaRanges) t bytes = tt
row-says (Some Map) t bytes =
    open_tells (MapSays (request_of Map).size bytes t.limit t.objects t.mappings (map_fields bytes)) (request_of Map).size bytes (map_reason t.limit t.objects t.mappings (map_fields bytes)) (λ h. h) (λ h. h) (λ h. h) (λ h. h)
    (map_tells (request_of Map).size bytes t.limit t.objects t.mappings (map_fields bytes))
row-says (Some Unmap) t bytes = tt

verdict-says : (v : Bool) (t : Table) (request : ℕ) (bytes : List ℕ) → Saying (lookup request) t bytes (explained_by v t request bytes)
unfolding explained_by
verdict-says true t request bytes = row-says (lookup request) t bytes
verdict-says false t request bytes = tt

-- THE LAWS: what the tool tells is so
pub table-so : (t : Table) (request : ℕ) (bytes : List ℕ) (r : Reason) → explained t request bytes ≡ Ok r → Says (lookup request) t bytes r
unfolding explained
table-so t request bytes r e = subst (Saying (lookup request) t bytes) e (verdict-says (good t) t request bytes)

pub told-so : (b : Board) (request : ℕ) (bytes : List ℕ) (r : Reason) → board_explained b request bytes ≡ Ok r → Says (lookup request) b.table bytes r
unfolding board_explained
told-so b request bytes r e = subst (Saying (lookup request) b.table bytes) e (verdict-says (good_board b) b.table request bytes)
