-- How opening ends, by the first check that fires.
use Rattle.std.specs.Prelude.{Option, Some, None, Ok, Err}
use Prim.Native.Nat.{ℕ, ◌≤◌, ◌<◌}
use mathlib.Core.Path.{◌≡◌, sym, ap, ◌∙◌}
use mathlib.Core.Bool.{true, false, not}
use mathlib.Core.List.{List}
use lib.ListN.{length}
use borrow.Author.Tests.{lt-ltb, le-ltb}
use Rattle.lists.specs.Checks.{first, first-nil, first-fires, first_passes}
use Rattle.wire.specs.Fields.{zeros}
use Rattle.rules_calls.specs.declared.Command.{Command}
use Rattle.rules_calls.specs.Opening.{Opening}
use Rattle.rules_calls.specs.declared.Unopened.TheVariants.{UnknownRequest, NoSizeField, SizeTooSmall, SizePastBytes, TailNotZero}
use Rattle.rules_calls.specs.Opening.{size_field, tail, size_checks, open_checks, open_row, opened}
use Rattle.rules_calls.specs.Requests.{request_of, lookup}

module _ (c : Command) (known : ℕ) (ek : known ≡ (request_of c).size) (bytes : List ℕ) where
  pub no_size : length bytes < 4 → Err NoSizeField ≡ open_row (Some c) bytes
  unfolding open_checks
  no_size h = sym (first-fires _ _ _ (lt-ltb (length bytes) 4 h))

  -- size is what the code read there
  module _ (h : 4 ≤ length bytes) (size : ℕ) (e : size ≡ size_field bytes) where
    read : open_row (Some c) bytes ≡ first (size_checks known size bytes) (Ok c)
    unfolding open_checks size_checks
    read = ap (λ (k : ℕ). first (open_checks k bytes) (Ok c)) (sym ek) ∙ first_passes _ _ _ (le-ltb (length bytes) 4 h) ∙ rw (← e)

    pub too_small : size < known → Err SizeTooSmall ≡ open_row (Some c) bytes
    unfolding size_checks
    too_small k = sym (read ∙ first-fires _ _ _ (lt-ltb size known k))

    pub past_bytes : known ≤ size → length bytes < size → Err SizePastBytes ≡ open_row (Some c) bytes
    unfolding size_checks
    past_bytes k l = sym (read ∙ first_passes _ _ _ (le-ltb size known k) ∙ first-fires _ _ _ (lt-ltb (length bytes) size l))

    pub tail-set : known ≤ size → size ≤ length bytes → zeros (tail known size bytes) ≡ false → Err TailNotZero ≡ open_row (Some c) bytes
    unfolding size_checks
    tail-set k l z = sym (read ∙ first_passes _ _ _ (le-ltb size known k) ∙ first_passes _ _ _ (le-ltb (length bytes) size l) ∙ first-fires _ _ _ (ap not z))

    pub is_open : known ≤ size → size ≤ length bytes → zeros (tail known size bytes) ≡ true → Ok c ≡ open_row (Some c) bytes
    unfolding size_checks
    is_open k l z = sym (read ∙ first_passes _ _ _ (le-ltb size known k) ∙ first_passes _ _ _ (le-ltb (length bytes) size l) ∙ first_passes _ _ _ (ap not z) ∙ first-nil (Ok c))

-- the command of the request leads
module _ (n : ℕ) (bytes : List ℕ) where
  pub without-row : None ≡ lookup n → Err UnknownRequest ≡ opened n bytes
  unfolding opened
  without-row e = ap (λ (r : Option Command). open_row r bytes) e

  pub with_row : (c : Command) {o : Opening} → Some c ≡ lookup n → o ≡ open_row (Some c) bytes → o ≡ opened n bytes
  unfolding opened
  with_row c e f = f ∙ ap (λ (r : Option Command). open_row r bytes) e
