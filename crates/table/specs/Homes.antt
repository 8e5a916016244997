-- A device is attached to one space only.
use Rattle.std.specs.Prelude.{ℕ, ◌≡◌, refl, true, false}
use Rattle.std.proofs.Common.{ne_eqb}
use Rattle.lists.specs.Tests.{contrary}
use Rattle.rules_table.specs.declared.Attachment.TheVariants.{Loose, Attached}
use Rattle.rules_table.specs.declared.Kind.{Kind}
use Rattle.rules_table.specs.declared.Kind.TheVariants.{Free, Space, Device}
use Rattle.rules_table.specs.Records.{attached_to, home_of, is_attached}

-- a device at home elsewhere is not attached here
pub other-home : (k : Kind) (s : ℕ) → (home_of k ≡ s → ⊥) → attached_to s k ≡ false
other-home Free s h = refl
other-home Space s h = refl
other-home (Device Loose) s h = refl
other-home (Device (Attached a)) s h = ne_eqb a s h

-- what is not attached at all is not attached to s
pub loose-home : (k : Kind) (s : ℕ) → is_attached k ≡ false → attached_to s k ≡ false
loose-home Free s e = refl
loose-home Space s e = refl
loose-home (Device Loose) s e = refl
loose-home (Device (Attached a)) s e = contrary true refl e
