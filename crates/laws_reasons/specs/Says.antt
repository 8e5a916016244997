-- What is told is so: one proposition for each reason. Two checks with one number differ here, so that their names cannot be exchanged; and a reason that a command has no check for
-- says `⊥`, so that it is never told.
use Rattle.std.specs.Prelude.{ℕ, ◌+◌, ◌<◌, ◌≡◌, true, false, not, ◌&&◌, ◌||◌, eqb, length, Option, Some, None}
use mathlib.Core.List.{List, [], ◌∷◌}
use Rattle.lists.specs.Search.{any}
use Rattle.lists.specs.Checks.{Check}
use Rattle.ranges.specs.declared.Range.{Range}
use Rattle.ranges.specs.Ranges.{share, passes, span}
use Rattle.ranges.specs.Pages.{pages_touched}
use Rattle.alignment.specs.Multiples.{multiple, fits}
use Rattle.rangelists.specs.Listed.{allowed}
use Rattle.wire.specs.Fields.{zeros}
use Rattle.runs.specs.declared.Run.{Run}
use Rattle.runs.specs.Runs.{run, Longest}
use Rattle.rules_table.specs.Flags.{unknown, writeable}
use Rattle.rules_table.specs.declared.Object.{Object}
use Rattle.rules_table.specs.declared.Mapping.{Mapping}
use Rattle.rules_table.specs.declared.Table.{Table}
use Rattle.rules_table.specs.Records.{free_object, zero_mapping, object_at, space_at, touches}
use Rattle.rules_table.specs.Spaces.{alignment, reserved_for}
use Rattle.rules_table.specs.Charge.{charge, free_mapping}
use Rattle.rules_calls.specs.Requests.{request_of}
use Rattle.rules_calls.specs.declared.Command.{Command}
use Rattle.rules_calls.specs.declared.Command.TheVariants.{Destroy, IoasAlloc, AllowIovas, Copy, IovaRanges, Map, Unmap}
use Rattle.rules_calls.specs.Edits.{is_none}
use Rattle.rules_calls.specs.Opening.{size_field, tail}
use Rattle.rules_calls.specs.Landing.{blocked_in, lowest_tried}
use Rattle.rules_calls.specs.Map.{MapFields, map_fields, no_right, wrong_length, fixed_passes}
use Rattle.rules_calls.specs.Copy.{CopyFields, copy_fields, source_of, source_mapping}
use Rattle.rules_reasons.specs.declared.Reason.{Reason}
use Rattle.rules_reasons.specs.declared.Reason.TheVariants.{Accepted, NoSizeField, SizeTooSmall, SizePastBytes, TailNotZero, Flags, NoRight, WrongLength, MemoryPasses, SourcePasses, AddressPasses, NoSpace, NoSourceSpace, NoSource, NotWriteable, Misaligned, TouchesReserved, TouchesMapping, LengthMisaligned, NoPlace, NoRecord, OverLimit}
use Rattle.laws_reasons.specs.Lowest.{Lowest}

-- ---- names beside checks

module _ {A R : Type 0} (P : R → Type 0) where
  -- one name each, and what it says holds where its check fires
  abbrev pub Telling : List (Check A) → List R → Type 0
  Telling [] [] = Unit {0}
  Telling [] (r ∷ rs) = ⊥
  Telling (c ∷ cs) [] = ⊥
  Telling (c ∷ cs) (r ∷ rs) = (c.fires ≡ true → P r) × Telling cs rs

-- ---- what is named with a place

-- the object with this id reserves an address of the range in space s, and none with a lower id does
abbrev pub LowestObject : List Object → ℕ → Range → ℕ → Type 0
LowestObject os s r id = Lowest (λ (o : Object). any (share r) (reserved_for s o)) os free_object id

-- the mapping of space s in this record has an address of the range, and none in a lower record does
abbrev pub LowestRecord : List Mapping → ℕ → Range → ℕ → Type 0
LowestRecord ms s r n = Lowest (touches s r) ms zero_mapping n

-- the longest run of space s, which is shorter than n
abbrev pub LongestShort : List Object → List Mapping → ℕ → ℕ → Option Run → Type 0
LongestShort os ms s n longest = Longest (alignment os s) lowest_tried (blocked_in os ms s) (allowed (object_at os s).allow) longest × ((y k : ℕ) → longest ≡ Some (run y k) → k + 1 < n)

-- ---- MAP

module _ (known : ℕ) (bytes : List ℕ) (limit : ℕ) (os : List Object) (ms : List Mapping) (c : MapFields) where
  abbrev pub MapSays : Reason → Type 0
  MapSays Accepted = Unit {0}
  MapSays NoSizeField = length bytes < 4
  MapSays SizeTooSmall = size_field bytes < known
  MapSays SizePastBytes = length bytes < size_field bytes
  MapSays TailNotZero = zeros (tail known (size_field bytes) bytes) ≡ false
  MapSays Flags = (unknown 3 c.flags || not (eqb c.must_be_zero 0)) ≡ true
  MapSays NoRight = no_right c.flags ≡ true
  MapSays WrongLength = wrong_length c.length ≡ true
  MapSays MemoryPasses = passes c.memory c.length ≡ true
  MapSays SourcePasses = ⊥
  MapSays AddressPasses = fixed_passes c.flags c.address c.length ≡ true
  MapSays NoSpace = space_at os c.space ≡ false
  MapSays NoSourceSpace = ⊥
  MapSays NoSource = ⊥
  MapSays NotWriteable = ⊥
  MapSays Misaligned = fits (alignment os c.space) c.address c.length ≡ false
  MapSays (TouchesReserved id) = LowestObject os c.space (span c.address c.length) id
  MapSays (TouchesMapping r) = LowestRecord ms c.space (span c.address c.length) r
  MapSays LengthMisaligned = multiple (alignment os c.space) c.length ≡ false
  MapSays (NoPlace run) = LongestShort os ms c.space c.length run
  MapSays NoRecord = is_none (free_mapping ms) ≡ true
  MapSays OverLimit = limit < charge ms + pages_touched c.memory c.length

-- ---- COPY

module _ (known : ℕ) (bytes : List ℕ) (os : List Object) (ms : List Mapping) (c : CopyFields) where
  abbrev pub CopySays : Reason → Type 0
  CopySays Accepted = Unit {0}
  CopySays NoSizeField = length bytes < 4
  CopySays SizeTooSmall = size_field bytes < known
  CopySays SizePastBytes = length bytes < size_field bytes
  CopySays TailNotZero = zeros (tail known (size_field bytes) bytes) ≡ false
  CopySays Flags = unknown 3 c.flags ≡ true
  CopySays NoRight = no_right c.flags ≡ true
  CopySays WrongLength = wrong_length c.length ≡ true
  CopySays MemoryPasses = ⊥
  CopySays SourcePasses = passes c.origin c.length ≡ true
  CopySays AddressPasses = fixed_passes c.flags c.address c.length ≡ true
  CopySays NoSpace = space_at os c.target ≡ false
  CopySays NoSourceSpace = space_at os c.source ≡ false
  CopySays NoSource = is_none (source_of ms c.source c.origin c.length) ≡ true
  CopySays NotWriteable = (writeable c.flags && not (eqb (source_mapping (source_of ms c.source c.origin c.length)).founder 1)) ≡ true
  CopySays Misaligned = fits (alignment os c.target) c.address c.length ≡ false
  CopySays (TouchesReserved id) = LowestObject os c.target (span c.address c.length) id
  CopySays (TouchesMapping r) = LowestRecord ms c.target (span c.address c.length) r
  CopySays LengthMisaligned = multiple (alignment os c.target) c.length ≡ false
  CopySays (NoPlace run) = LongestShort os ms c.target c.length run
  CopySays NoRecord = is_none (free_mapping ms) ≡ true
  CopySays OverLimit = ⊥

-- ---- through the door

-- what a reason says of a request's row, a table and bytes
abbrev pub Says : Option Command → Table → List ℕ → Reason → Type 0
Says None t bytes r = ⊥
Says (Some Destroy) t bytes r = ⊥
Says (Some IoasAlloc) t bytes r = ⊥
Says (Some AllowIovas) t bytes r = ⊥
Says (Some Copy) t bytes r = CopySays (request_of Copy).size bytes t.objects t.mappings (copy_fields bytes) r
Says (Some IovaRanges) t bytes r = ⊥
Says (Some Map) t bytes r = MapSays (request_of Map).size bytes t.limit t.objects t.mappings (map_fields bytes) r
Says (Some Unmap) t bytes r = ⊥
