-- What a device reaches, in plain terms: the interval that it asks for, the mapping that holds all of it, and the three cases that document 01 tells apart for a device that is
-- attached. Nothing that computes reach is cited here, only the records of the table, their numbers and two bits.
use Rattle.std.specs.Prelude.{ℕ, ◌+◌, ◌-◌, ◌≤◌, ◌<◌, ◌^◌, ◌≡◌, Bool, true, false, length, get_or}
use Rattle.rules_table.specs.declared.Attachment.TheVariants.{Attached}
use Rattle.rules_table.specs.Flags.{bit}
use Rattle.rules_table.specs.declared.Kind.TheVariants.{Device}
use Rattle.rules_table.specs.declared.Mapping.{Mapping}
use Rattle.rules_table.specs.declared.Table.{Table}
use Rattle.rules_table.specs.Records.{zero_mapping, object_at}

-- whether rights let a device write (bit 0) or read (bit 1). It is asked of the mapping's own rights, and not by reach's own `mayDo`: a law that cited it would follow it wherever
-- it goes, to the right of the founding MAP too
abbrev pub right_in : Bool → ℕ → Bool
right_in true rights = bit 0 rights
right_in false rights = bit 1 rights

-- m stands in the table, belongs to space s, and has all the n addresses from a on
pub record Holding (t : Table) (s a n : ℕ) (m : Mapping) : Type 0 where
  pub slot : ℕ
  pub there : slot < length t.mappings
  pub stands : get_or t.mappings slot zero_mapping ≡ m
  pub space : m.space ≡ s
  pub from : m.address ≤ a
  pub upto : a + n ≤ m.address + m.length

-- d is a device attached to space s, and it asks for one address or more, none of them past 2^64 - 1
pub record Asked (t : Table) (d s a n : ℕ) : Type 0 where
  pub attached : (object_at t.objects d).kind ≡ Device (Attached s)
  pub some : 0 < n
  pub ends : a + n ≤ 2 ^ 64

-- a mapping holds it and gives the right; y is as far into the mapping's memory as a is into its addresses
pub record Reaches (t : Table) (d a n : ℕ) (write : Bool) (y : ℕ) : Type 0 where
  pub space : ℕ
  pub asked : Asked t d space a n
  pub mapping : Mapping
  pub held : Holding t space a n mapping
  pub right : right_in write mapping.rights ≡ true
  pub offset : y ≡ mapping.memory + (a - mapping.address)

-- a mapping holds it and does not give the right
pub record Denied (t : Table) (d a n : ℕ) (write : Bool) : Type 0 where
  pub space : ℕ
  pub asked : Asked t d space a n
  pub mapping : Mapping
  pub held : Holding t space a n mapping
  pub right : right_in write mapping.rights ≡ false

-- no mapping of the device's space holds it
pub record Nowhere (t : Table) (d a n : ℕ) : Type 0 where
  pub space : ℕ
  pub asked : Asked t d space a n
  pub unheld : (m : Mapping) → Holding t space a n m → ⊥
