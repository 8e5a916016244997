-- The bits of a mapping's rights, as the code reads them.
use Prim.Native.Nat.{ℕ, ◌/◌, ◌%◌}
use mathlib.Core.Path.{◌≡◌, sym, ap, ◌∙◌}
use native.Mathlib.Nat.{div-one}
use lib.Bits.{bit_and, and_mask}
use lib.Dec.{eqb}
use Rattle.rules_table.specs.Flags.{bit}
use Rattle.rules_table.specs.declared.Mapping.{Mapping}
use Rattle.rules_table.specs.Records.{can_write, can_read}

pub write_bit : (m : Mapping) → eqb (bit_and m.rights 1) 1 ≡ can_write m
unfolding can_write bit
write_bit m = ap (λ (x : ℕ). eqb x 1) (and_mask m.rights 1 ∙ ap (λ (x : ℕ). x % 2) (sym (div-one m.rights)))

pub read_bit : (m : Mapping) → eqb (bit_and (m.rights / 2) 1) 1 ≡ can_read m
unfolding can_read bit
read_bit m = ap (λ (x : ℕ). eqb x 1) (and_mask (m.rights / 2) 1)
