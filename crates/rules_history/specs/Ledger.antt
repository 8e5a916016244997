-- The ledger (document 01, "Demand 3's ledger"): it starts empty and is fed each call's arguments and answer, never the table. A refused call, or one not named there, changes
-- nothing in it. Its entries are the mappings that exist.
use Rattle.std.specs.Prelude.{ℕ, suc, ◌+◌, ◌-◌, ◌≡◌, refl, Bool, true, false, not, ◌&&◌, ◌||◌, List, [], ◌∷◌, eqb, ℤ, pos, negsuc, replicate, Option, None, Some}
use Rattle.lists.specs.Tests.{only_if}
use Rattle.lists.specs.Search.{any, find}
use Rattle.lists.specs.Sums.{sum_of, keep}
use Rattle.lists.specs.Update.{upd}
use Rattle.ranges.specs.declared.Range.{Range}
use Rattle.ranges.specs.Ranges.{U64MAX, holds, inside, span, last_of}
use Rattle.ranges.specs.Pages.{pages_touched}
use Rattle.wire.specs.Fields.{field, put}
use Rattle.rules_table.specs.Flags.{bit}
use Rattle.rules_calls.specs.declared.Command.{Command}
use Rattle.rules_calls.specs.declared.Command.TheVariants as Named
use Rattle.rules_calls.specs.Requests.{commands, lookup}
use Rattle.rules_calls.specs.Map.{map_fields, rights_of}
use Rattle.rules_calls.specs.Copy.{copy_fields}
use Rattle.rules_calls.specs.Objects.{made_id, destroy_id}
use Rattle.rules_calls.specs.Unmap.{unmap_fields, asks_all}
use Rattle.rules_history.specs.Calls.{Call, Event}

-- a mapping that exists. Its root is the number of the MAP from which it descends, counted from 0 over all calls
pub record Entry : Type 0 where
  pub space : ℕ
  pub address : ℕ
  pub length : ℕ
  pub root : ℕ
  pub memory : ℕ
  pub rights : ℕ

-- an accepted MAP: its number, and its pages
pub record Made : Type 0 where
  pub number : ℕ
  pub pages : ℕ

-- `live` tells the spaces that were made and not destroyed since; `accepted` and `removed` count bytes for each, since it was made
pub record Ledger : Type 0 where
  pub entries : List Entry
  pub made : List Made
  pub time : ℕ
  pub live : ℕ → Bool
  pub accepted : ℕ → ℕ
  pub removed : ℕ → ℕ

unfoldable pub empty : Ledger
empty = record { entries = []; made = []; time = 0; live = λ s. false; accepted = λ s. 0; removed = λ s. 0 }

-- one more call that changes nothing
abbrev pub tick : Ledger → Ledger
tick l = record { entries = l.entries; made = l.made; time = suc l.time; live = l.live; accepted = l.accepted; removed = l.removed }

-- ---- MAP: an entry with the address written, itself as root

abbrev pub map_entry : List ℕ → List ℕ → ℕ → Entry
map_entry bytes written number = record {
  space = (map_fields bytes).space;
  address = (map_fields written).address;
  length = (map_fields bytes).length;
  root = number;
  memory = (map_fields bytes).memory;
  rights = rights_of (map_fields bytes).flags;
}

abbrev pub with_map : List ℕ → List ℕ → Ledger → Ledger
with_map bytes written l = record {
  entries = map_entry bytes written l.time ∷ l.entries;
  made = record { number = l.time; pages = pages_touched (map_fields bytes).memory (map_fields bytes).length } ∷ l.made;
  time = suc l.time;
  live = l.live;
  accepted = upd l.accepted (map_fields bytes).space (l.accepted (map_fields bytes).space + (map_fields bytes).length);
  removed = l.removed;
}

-- ---- COPY: likewise for its target, with its source entry's root

-- the entry with exactly this address and length in the source space
unfoldable pub entry_is : ℕ → ℕ → ℕ → Entry → Bool
entry_is s a n e = eqb e.space s && (eqb e.address a && eqb e.length n)

abbrev pub no_entry : Entry
no_entry = record { space = 0; address = 0; length = 0; root = 0; memory = 0; rights = 0 }

abbrev pub or_none : Option Entry → Entry
or_none None = no_entry
or_none (Some e) = e

unfoldable pub source_entry : List Entry → ℕ → ℕ → ℕ → Entry
source_entry es s a n = or_none (find (entry_is s a n) es)

abbrev pub copy_entry : List ℕ → List ℕ → Entry → Entry
copy_entry bytes written source = record {
  space = (copy_fields bytes).target;
  address = (copy_fields written).address;
  length = (copy_fields bytes).length;
  root = source.root;
  memory = source.memory;
  rights = rights_of (copy_fields bytes).flags;
}

abbrev pub with_copy : List ℕ → List ℕ → Ledger → Ledger
with_copy bytes written l = record {
  entries = copy_entry bytes written (source_entry l.entries (copy_fields bytes).source (copy_fields bytes).origin (copy_fields bytes).length) ∷ l.entries;
  made = l.made;
  time = suc l.time;
  live = l.live;
  accepted = upd l.accepted (copy_fields bytes).target (l.accepted (copy_fields bytes).target + (copy_fields bytes).length);
  removed = l.removed;
}

-- ---- UNMAP strikes the space's entries inside the range asked, or all of them in the remove-all form; the bytes removed are those written back

unfoldable pub entry_range : Entry → Range
entry_range e = span e.address e.length

unfoldable pub struck_by : ℕ → ℕ → ℕ → Entry → Bool
struck_by s a n e = eqb e.space s && (asks_all a n || inside (entry_range e) (span a n))

abbrev pub with_unmap : List ℕ → List ℕ → Ledger → Ledger
with_unmap bytes written l = record {
  entries = keep (λ e. not (struck_by (unmap_fields bytes).space (unmap_fields bytes).address (unmap_fields bytes).length e)) l.entries;
  made = l.made;
  time = suc l.time;
  live = l.live;
  accepted = l.accepted;
  removed = upd l.removed (unmap_fields bytes).space (l.removed (unmap_fields bytes).space + (unmap_fields written).length);
}

-- ---- IOAS_ALLOC makes the space whose id it writes; DESTROY strikes the entries whose space is its id

abbrev pub with_space : List ℕ → Ledger → Ledger
with_space written l = record {
  entries = l.entries;
  made = l.made;
  time = suc l.time;
  live = upd l.live (made_id written) true;
  accepted = upd l.accepted (made_id written) 0;
  removed = upd l.removed (made_id written) 0;
}

unfoldable pub entry_of : ℕ → Entry → Bool
entry_of s e = eqb e.space s

abbrev pub without_space : List ℕ → Ledger → Ledger
without_space bytes l = record {
  entries = keep (λ e. not (entry_of (destroy_id bytes) e)) l.entries;
  made = l.made;
  time = suc l.time;
  live = upd l.live (destroy_id bytes) false;
  accepted = l.accepted;
  removed = l.removed;
}

-- ---- every call

abbrev pub command_fed : Command → List ℕ → List ℕ → Ledger → Ledger
command_fed Named.Destroy bytes written l = without_space bytes l
command_fed Named.IoasAlloc bytes written l = with_space written l
command_fed Named.AllowIovas bytes written l = tick l
command_fed Named.Copy bytes written l = with_copy bytes written l
command_fed Named.IovaRanges bytes written l = tick l
command_fed Named.Map bytes written l = with_map bytes written l
command_fed Named.Unmap bytes written l = with_unmap bytes written l

abbrev pub row_fed : Option Command → List ℕ → List ℕ → Ledger → Ledger
row_fed None bytes written l = tick l
row_fed (Some c) bytes written l = command_fed c bytes written l

-- a result from 0 on is an accepted call
abbrev pub accepts : ℤ → Bool
accepts (pos n) = true
accepts (negsuc n) = false

abbrev pub call_fed : Bool → Call → List ℕ → Ledger → Ledger
call_fed false c written l = tick l
call_fed true (Call.Command request bytes area) written l = row_fed (lookup request) bytes written l
call_fed true (Call.Bind bitmap reserved) written l = tick l
call_fed true (Call.Attach d s) written l = tick l
call_fed true (Call.Detach d) written l = tick l
call_fed true (Call.Reach d a n write) written l = tick l

unfoldable pub feed : Event → Ledger → Ledger
feed e l = call_fed (accepts e.reply.result) e.call e.reply.bytes l

unfoldable pub ledger_of : List Event → Ledger → Ledger
ledger_of [] l = l
ledger_of (e ∷ es) l = ledger_of es (feed e l)

-- ---- what the ledger tells

-- the address a of space s is mapped
unfoldable pub entry_covers : ℕ → ℕ → Entry → Bool
entry_covers s a e = eqb e.space s && holds (entry_range e) a

unfoldable pub ledger_maps : Ledger → ℕ → ℕ → Bool
ledger_maps l s a = any (entry_covers s a) l.entries

-- the right to write is bit 0 of the rights, that to read bit 1
abbrev pub right_in : Bool → ℕ → Bool
right_in true rights = bit 0 rights
right_in false rights = bit 1 rights

-- the address a of space s has the memory byte y behind it, with that right
unfoldable pub entry_gives : ℕ → ℕ → ℕ → Bool → Entry → Bool
entry_gives s a y write e = entry_covers s a e && (eqb (e.memory + (a - e.address)) y && right_in write e.rights)

unfoldable pub ledger_gives : Ledger → ℕ → ℕ → ℕ → Bool → Bool
ledger_gives l s a y write = any (entry_gives s a y write) l.entries

-- an accepted MAP of which that mapping, or a copy descended from it, still exists
unfoldable pub survives : Ledger → Made → Bool
survives l m = any (λ e. eqb e.root m.number) l.entries

-- the pages of each such MAP, once and in full
unfoldable pub ledger_charge : Ledger → ℕ
ledger_charge l = sum_of (λ m. only_if (survives l m) m.pages) l.made

-- ---- examples

-- to unfold `telling` is to unfold all that it lists
unfoldable telling : Ledger → ℕ
unfolding ledger_charge ledger_maps survives ledger_of feed empty lookup commands find field put pages_touched sum_of keep any entry_covers entry_range entry_is source_entry struck_by entry_of asks_all holds inside span last_of
telling l = ledger_charge l

abbrev answered : ℕ → List ℕ → Event
answered request bytes = record { call = Call.Command request bytes []; reply = record { result = pos 0; bytes = bytes } }

-- accepted: MAP of n bytes of memory from m on at address a of space s; COPY of n bytes at y of space 1 to x of space 2; UNMAP
abbrev map_of : ℕ → ℕ → ℕ → ℕ → Event
map_of s m n a = answered 0x3B85 (put 8 (put 8 (put 8 (put 4 (replicate 40 0) 8 s) 16 m) 24 n) 32 a)

abbrev copy_to : ℕ → ℕ → ℕ → Event
copy_to y n x = answered 0x3B83 (put 8 (put 8 (put 8 (put 4 (put 4 (replicate 40 0) 8 2) 12 1) 16 n) 24 x) 32 y)

abbrev unmap_of : ℕ → ℕ → ℕ → Event
unmap_of s a n = answered 0x3B86 (put 8 (put 8 (put 4 (replicate 24 0) 4 s) 8 a) 16 n)

-- two bytes from memory 4,095 on: two pages
map_pages : ledger_charge (ledger_of (map_of 1 4095 2 0 ∷ []) empty) ≡ 2
unfolding telling
map_pages = refl

-- a copy maps its addresses in its own space
copy_maps : ledger_maps (ledger_of (map_of 1 0 0x1000 0x1000 ∷ copy_to 0x1000 0x1000 0x5000 ∷ []) empty) 2 0x5FFF ≡ true
unfolding telling
copy_maps = refl

-- and is not charged again; the MAP survives in it when its own mapping has gone
copy_charge : ledger_charge (ledger_of (map_of 1 0 0x1000 0x1000 ∷ copy_to 0x1000 0x1000 0x5000 ∷ unmap_of 1 0x1000 0x1000 ∷ []) empty) ≡ 1
unfolding telling
copy_charge = refl

-- the remove-all form strikes the last address too
all-struck : ledger_maps (ledger_of (map_of 1 0 1 U64MAX ∷ unmap_of 1 0 U64MAX ∷ []) empty) 1 U64MAX ≡ false
unfolding telling
all-struck = refl
