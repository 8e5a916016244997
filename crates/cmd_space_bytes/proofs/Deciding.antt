-- The numbers that the code read are the fields of the command.
use Prim.Native.Nat.{ℕ, zero, suc, ◌%◌, ◌^◌, ◌<◌}
use mathlib.Core.Path.{◌≡◌, ap, ◌∙◌}
use mathlib.Core.List.{List}
use native.Mathlib.Nat.{mod-eq_of_lt}
use native.Mathlib.Omega.{arith}
use lib.ListN.{length}
use Rattle.lists.specs.Checks.{first}
use Rattle.rules_table.specs.declared.Object.{Object}
use Rattle.rules_table.specs.Records.{new_space}
use Rattle.rules_table.specs.Charge.{free_record}
use Rattle.rules_calls.specs.declared.Edit.{Edit}
use Rattle.rules_calls.specs.Edits.{settle, added}
use Rattle.rules_calls.specs.Answers.{replied}
use Rattle.edits.specs.Kept.{added-value}
use Rattle.rules_calls.specs.Objects.{alloc_checks, alloc_edit}
use Rattle.edits.specs.Numbers.{allow_edit_at}

-- ---- IOAS_ALLOC

alloc-value : (os : List Object) (flags : ℕ) (e : Edit) → length os ≡ 32 → e ≡ alloc_edit os flags → e.value < 256
unfolding alloc_edit
alloc-value os flags e l h = rw h (go (first (alloc_checks os flags) 0))
  where
    go : (n : ℕ) → (settle n (added (free_record os) new_space)).value < 256
    go zero = added-value os new_space l
    go (suc n) = omega arith

-- the id is written whole
pub alloc-fields : (os : List Object) (flags f : ℕ) (e : Edit) (bytes bytes' : List ℕ) → length os ≡ 32 → flags ≡ f → e ≡ alloc_edit os flags → bytes' ≡ replied 4 8 e.errno (e.value % 2 ^ 32) bytes
    → (e ≡ alloc_edit os f) × (bytes' ≡ replied 4 8 e.errno e.value bytes)
alloc-fields os flags f e bytes bytes' l s k r =
    let whole : e.value % 2 ^ 32 ≡ e.value = mod-eq_of_lt (omega (arith, alloc-value os flags e l k)) in
    (k ∙ ap (alloc_edit os) s, r ∙ ap (λ (x : ℕ). replied 4 8 e.errno x bytes) whole)

-- ---- ALLOW_IOVAS

pub allow-fields : (os : List Object) (area : List ℕ) (s count z p q r : ℕ) → s ≡ p → count ≡ q → z ≡ r → {e : Edit} → e ≡ allow_edit_at os s count z area → e ≡ allow_edit_at os p q r area
allow-fields os area s count z p q r es ec ez k = k ∙ rw (es, ec, ez)
