-- The two searches over all slots, at slot i: what is left answers for the whole.
use Rattle.std.specs.Prelude.{Option, None, is_some}
use Prim.Native.Nat.{ℕ, ◌+◌, ◌≤◌, ◌<◌, min}
use mathlib.Core.Path.{◌≡◌, sym, ap, ◌∙◌}
use mathlib.Core.Bool.{Bool, true, false}
use mathlib.Core.List.{List, ◌++◌}
use native.Mathlib.Omega.{arith}
use lib.ListN.{length, get_or, drop}
use Rattle.ranges.specs.declared.Range.{Range}
use Rattle.ranges.specs.Ranges.{U64MAX}
use Rattle.freeranges.specs.Scan.{cover_of, run_end, run_end-nil, run_end-most}
use Rattle.rules_table.specs.declared.Object.{Object}
use Rattle.rules_table.specs.Records.{zero_object}
use Rattle.rules_table.specs.Spaces.{reserved_for, reserved_of}
use Rattle.reserved_ranges.specs.Gathered.{reserved_of-left, reserved_of-done}
use Rattle.reserved_ranges.specs.Covers.{cover_first, cover_second, cover_nil, run_end-append}

module _ (os : List Object) (s i x : ℕ) where
  module _ {k : Option ℕ} (v : cover_of (reserved_of (drop i os) s) x ≡ k) (c : Option ℕ) (e : c ≡ cover_of (reserved_for s (get_or os i zero_object)) x) where
    here : (b t : Bool) → b ≡ is_some c → b ≡ t → is_some (cover_of (reserved_for s (get_or os i zero_object)) x) ≡ t
    here b t f g = ap (λ (d : Option ℕ). is_some d) (sym e) ∙ sym f ∙ g

    turn : i < length os → cover_of (reserved_for s (get_or os i zero_object) ++ reserved_of (drop (i + 1) os) s) x ≡ k
    turn h = sym (ap (λ (rs : List Range). cover_of rs x) (reserved_of-left os i s h)) ∙ v

    pub slot-covers : (b : Bool) → i < length os → b ≡ is_some c → b ≡ true → c ≡ k
    slot-covers b h f g = e ∙ sym (cover_first (reserved_for s (get_or os i zero_object)) (reserved_of (drop (i + 1) os) s) x (here b true f g)) ∙ turn h

    pub slot-clears : (b : Bool) → i < length os → b ≡ is_some c → b ≡ false → cover_of (reserved_of (drop (i + 1) os) s) x ≡ k
    slot-clears b h f g = sym (cover_second (reserved_for s (get_or os i zero_object)) (reserved_of (drop (i + 1) os) s) x (here b false f g)) ∙ turn h

  pub all-clear : {k : Option ℕ} → cover_of (reserved_of (drop i os) s) x ≡ k → length os ≤ i → None ≡ k
  all-clear v h = sym (ap (λ (rs : List Range). cover_of rs x) (reserved_of-done os i s h) ∙ cover_nil x) ∙ v

  module _ (acc : ℕ) {e : ℕ} (v : min acc (run_end (reserved_of (drop i os) s) x) ≡ e) where
    pub ends_on : (f : ℕ) → i < length os → f ≡ run_end (reserved_for s (get_or os i zero_object)) x
        → min (min acc f) (run_end (reserved_of (drop (i + 1) os) s) x) ≡ e
    ends_on f h q =
        omega (
          arith,
          ap (λ (rs : List Range). run_end rs x) (reserved_of-left os i s h),
          run_end-append (reserved_for s (get_or os i zero_object)) (reserved_of (drop (i + 1) os) s) x,
          q,
          v,
        )

    pub ends-done : length os ≤ i → acc ≤ U64MAX → acc ≡ e
    ends-done h k = omega (arith, ap (λ (rs : List Range). run_end rs x) (reserved_of-done os i s h) ∙ run_end-nil x, v)

pub ends-start : (rs : List Range) (x : ℕ) → min U64MAX (run_end rs x) ≡ run_end rs x
ends-start rs x = omega (arith, run_end-most x rs)
