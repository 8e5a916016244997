-- What demand 3 claims of a ledger and a table.
use Rattle.std.specs.Prelude.{ℕ, ◌+◌, ◌-◌, ◌^◌, ◌≤◌, ◌≡◌, refl, Bool, true, ◌&&◌, false, eqb, [], ◌∷◌, map}
use Rattle.lists.specs.Search.{any}
use Rattle.lists.specs.Below.{count_below}
use Rattle.rules_table.specs.declared.Mapping.{Mapping}
use Rattle.rules_table.specs.declared.Table.{Table}
use Rattle.rules_table.specs.Records.{covers, used, of_space, extent}
use Rattle.rules_table.specs.Good.{good}
use Rattle.rules_table.specs.Charge.{charge}
use Rattle.rules_history.specs.Ledger.{Ledger, right_in, ledger_gives, ledger_maps, ledger_charge}
use Rattle.rules_table.specs.Flags.{bit}
use Rattle.ranges.specs.Ranges.{holds, span, last_of}

-- the address a of space s is mapped
unfoldable pub mapped : Table → ℕ → ℕ → Bool
mapped t s a = any (covers s a) t.mappings

-- and has the memory byte y behind it, with that right
unfoldable pub gives : ℕ → ℕ → ℕ → Bool → Mapping → Bool
gives s a y write m = covers s a m && (eqb (m.memory + (a - m.address)) y && right_in write m.rights)

unfoldable pub table_gives : Table → ℕ → ℕ → ℕ → Bool → Bool
table_gives t s a y write = any (gives s a y write) t.mappings

-- in each space the table maps exactly the addresses that the ledger has, with the same memory behind each and the same rights; for each space made and not destroyed since, the bytes accepted are the bytes removed and the number
-- of its mapped addresses; the pages charged are those of every accepted MAP that survives, each once and in full; and they never pass the limit
pub record Told (l : Ledger) (t : Table) : Type 0 where
  pub addresses : (s a : ℕ) → mapped t s a ≡ ledger_maps l s a
  pub memory : (s a y : ℕ) (write : Bool) → table_gives t s a y write ≡ ledger_gives l s a y write
  pub bytes : (s : ℕ) → l.live s ≡ true → l.accepted s ≡ l.removed s + count_below (2 ^ 64) (mapped t s)
  pub charged : charge t.mappings ≡ ledger_charge l
  pub limited : charge t.mappings ≤ t.limit

-- demand 3, of a ledger and the table after a sequence on a table that was made with a limit: what the ledger tells, that the table is good, and that its charge keeps to that limit
pub record Demand3 (limit : ℕ) (l : Ledger) (t : Table) : Type 0 where
  pub agrees : Told l t
  pub stays : good t ≡ true
  pub within : charge t.mappings ≤ limit

-- ---- examples: to unfold `tells` is to unfold all that it lists

unfoldable tells : Table → ℕ → ℕ → ℕ → Bool → Bool
unfolding mapped table_gives gives covers used of_space extent span last_of holds any
tells t s a y write = table_gives t s a y write

-- the bytes 16 to 31 of space 1, of memory from 100 on, readable
abbrev one : Table
one = record { limit = 4; objects = []; mappings = record { space = 1; rights = 2; founder = 0; backing = 1; address = 16; length = 16; memory = 100 } ∷ [] }

mapped-ends : map (mapped one 1) (15 ∷ 16 ∷ 31 ∷ 32 ∷ []) ≡ (false ∷ true ∷ true ∷ false ∷ [])
unfolding tells
mapped-ends = refl

-- behind address 17 is memory 101 and no other, for reading alone
gives_one : (table_gives one 1 17 101 false ∷ table_gives one 1 17 102 false ∷ table_gives one 1 17 101 true ∷ table_gives one 2 17 101 false ∷ []) ≡ (true ∷ false ∷ false ∷ false ∷ [])
unfolding tells bit
gives_one = refl
