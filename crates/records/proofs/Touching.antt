-- A record against a space and a range, told without a sum: one law a return.
use Prim.Native.Nat.{ℕ, suc, ◌-◌, ◌≤◌, ◌<◌, ◌^◌}
use mathlib.Core.Path.{◌≡◌, sym}
use mathlib.Core.Bool.{true, false}
use native.Mathlib.Omega.{arith}
use lib.Dec.{ltb}
use borrow.Author.Tests.{le-leb, lt-leb, eq-eqb, ne_eqb}
use Rattle.lists.specs.Tests.{leb_iff}
use Rattle.ranges.specs.Ranges.{range, share, shared_start, shared_last, span, last_of}
use Rattle.rules_table.specs.declared.Mapping.{Mapping}
use Rattle.rules_table.specs.Records.{of_space, extent, touches}

module _ (s first last : ℕ) (n : Mapping) where
  pub elsewhere : (n.space ≡ s → ⊥) → false ≡ touches s (range first last) n
  unfolding touches of_space
  elsewhere ne = rw (ne_eqb n.space s ne)

  module _ (e : n.space ≡ s) where
    pub above : last < n.address → false ≡ touches s (range first last) n
    unfolding touches of_space extent span last_of share shared_start shared_last
    above h = rw (eq-eqb n.space s e) (sym (lt-leb (shared_start (range first last) (extent n)) (shared_last (range first last) (extent n)) (omega arith)))

    pub starts : n.address < 2 ^ 64 → n.address ≤ last → first ≤ n.address → true ≡ touches s (range first last) n
    unfolding touches of_space extent span last_of share shared_start shared_last
    starts f h k = rw (eq-eqb n.space s e) (sym (le-leb (shared_start (range first last) (extent n)) (shared_last (range first last) (extent n)) (omega arith)))

    pub below : first ≤ last → first < 2 ^ 64 → n.address < first → ltb (first - n.address) n.length ≡ touches s (range first last) n
    unfolding touches of_space extent span last_of share shared_start shared_last
    below l f h =
        rw (eq-eqb n.space s e)
        (leb_iff (suc (first - n.address)) n.length (shared_start (range first last) (extent n)) (shared_last (range first last) (extent n)) (λ q. omega arith) (λ q. omega arith))
