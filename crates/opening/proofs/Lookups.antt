-- The row of a request number, in the words of the table.
use Rattle.std.specs.Prelude.{Some, None}
use Prim.Native.Nat.{ℕ}
use mathlib.Core.Path.{◌≡◌, sym, ap}
use mathlib.Core.Bool.{false}
use lib.Dec.{eqb}
use borrow.Author.Tests.{ne_eqb}
use Rattle.lists.specs.Search.{find, find-any_false}
use Rattle.lists.specs.Each.{Each, Each-imp, any-Each_false}
use Rattle.rules_calls.specs.declared.Command.{Command}
use Rattle.rules_calls.specs.declared.Command.TheVariants.{Destroy, IoasAlloc, AllowIovas, Copy, IovaRanges, Map, Unmap}
use Rattle.rules_calls.specs.Requests.{request_of, commands, lookup}

pub listed : (c : Command) (n : ℕ) → n ≡ (request_of c).number → Some c ≡ lookup n
unfolding lookup commands find
listed Destroy n e = rw e
listed IoasAlloc n e = rw e
listed AllowIovas n e = rw e
listed Copy n e = rw e
listed IovaRanges n e = rw e
listed Map n e = rw e
listed Unmap n e = rw e

-- no command has the number
pub unlisted : (n : ℕ) → Each (λ (c : Command). (request_of c).number ≡ n → ⊥) commands → None ≡ lookup n
unfolding lookup
unlisted n h =
    sym (find-any_false (λ (c : Command). eqb (request_of c).number n) commands
    (any-Each_false (λ (c : Command). eqb (request_of c).number n) commands
    (Each-imp (λ (c : Command). (request_of c).number ≡ n → ⊥) (λ (c : Command). eqb (request_of c).number n ≡ false) commands (λ c e. ne_eqb (request_of c).number n e) h)))
