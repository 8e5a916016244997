-- The answer of the code that finds a place: the first check that fires, or the address where none does.
use Rattle.std.specs.Prelude.{ℕ, ◌≡◌, List, Option, None, Some, Result, Ok, Err}
use Rattle.lists.specs.Checks.{first}
use Rattle.checks.specs.declared.Errno.{Errno}
use Rattle.checks.specs.declared.Errno.TheVariants.{ENOSPC}
use Rattle.checks.specs.Refused.{refused}
use Rattle.rules_table.specs.Flags.{bit}
use Rattle.rules_table.specs.declared.Object.{Object}
use Rattle.rules_table.specs.declared.Mapping.{Mapping}
use Rattle.landing.specs.declared.Target.{Target}
use Rattle.rules_calls.specs.Edits.{number_in}
use Rattle.rules_calls.specs.Landing.{automatic, automatic_checks, place_checks, place_at}

abbrev pub placing_of : Option ℕ → Result ℕ Errno
placing_of None = Err ENOSPC
placing_of (Some x) = Ok x

pub record AutomaticPlaced (os : List Object) (ms : List Mapping) (s n : ℕ) (p : Result ℕ Errno) : Type 0 where
  pub errno : refused p ≡ first (automatic_checks os ms s n) 0
  pub address : (x : ℕ) → p ≡ Ok x → x ≡ number_in (automatic os ms s n)

pub record Placed (os : List Object) (ms : List Mapping) (t : Target) (p : Result ℕ Errno) : Type 0 where
  pub errno : refused p ≡ first (place_checks os ms t.space (bit 0 t.flags) t.length t.address) 0
  pub address : (x : ℕ) → p ≡ Ok x → x ≡ place_at os ms t.space (bit 0 t.flags) t.length t.address
