-- An answer of reach as the laws write it: the result, and the address beside it.
use Rattle.std.specs.Prelude.{ℕ, ℤ}
use Rattle.rules_calls.specs.declared.Reached.{Reached}

-- an answer of reach
abbrev pub answers : ℤ → ℕ → Reached
answers z y = record { result = z; address = y }
