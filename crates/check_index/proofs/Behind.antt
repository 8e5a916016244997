-- The words behind the numbers: those seen are zero, and those that are left.
use Prim.Native.Nat.{ℕ, ◌+◌, ◌≤◌, ◌<◌}
use mathlib.Core.Path.{◌≡◌, refl, sym, ap, ◌∙◌}
use mathlib.Core.Bool.{Bool, true, false, ◌&&◌, and-true}
use mathlib.Core.List.{List}
use lib.Dec.{eqb}
use lib.ListN.{length, get_or, drop_of_length-le}
use Rattle.lists.specs.Search.{all, drop_turn}
use Rattle.wire.specs.Fields.{zeros}
use Rattle.check_index.specs.Listed.{zeros_from}

gather : (a b c : Bool) → ((a && b) && c) ≡ (a && (b && c))
gather true b c = refl
gather false b c = refl

module _ (ix : List ℕ) (k : ℕ) (zero : Bool) {v : Bool} (e : (zero && zeros_from k ix) ≡ v) where
  pub behind-on : k < length ix → (b : Bool) → b ≡ (zero && eqb (get_or ix k 0) 0) → (b && zeros_from (k + 1) ix) ≡ v
  unfolding zeros_from zeros all
  behind-on h b f = ap (λ (c : Bool). c && zeros_from (k + 1) ix) f ∙ gather zero (eqb (get_or ix k 0) 0) (zeros_from (k + 1) ix) ∙ sym (rw (drop_turn ix 0 k h) refl) ∙ e

  pub behind-end : length ix ≤ k → zero ≡ v
  unfolding zeros_from zeros all
  behind-end h = sym (rw (drop_of_length-le ix {i = k} h) (and-true zero)) ∙ e
