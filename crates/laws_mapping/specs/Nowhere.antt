-- 28 is answered exactly if there is no candidate, once the checks before it have passed.
use Rattle.std.specs.Prelude.{ℕ, zero, suc, ◌≡◌, refl, true, false, Option, None, Some}
use Rattle.std.proofs.Math.Path.{sym}
use Rattle.std.proofs.Common.{ap, ◌∙◌, arith}
use mathlib.Core.List.{List, ◌++◌}
use Rattle.lists.specs.Each.{Each}
use Rattle.lists.specs.Checks.{Check, first, first-append, first-each, first-stays, first_goes, Refusals}
use Rattle.ranges.specs.Pages.{pages_touched}
use Rattle.alignment.specs.Multiples.{multiple}
use Rattle.rules_table.specs.Flags.{bit}
use Rattle.rules_table.specs.declared.Object.{Object}
use Rattle.rules_table.specs.declared.Mapping.{Mapping}
use Rattle.rules_table.specs.Spaces.{alignment}
use Rattle.rules_table.specs.Charge.{charge, free_mapping}
use Rattle.rules_calls.specs.declared.Edit.{Edit}
use Rattle.rules_calls.specs.Edits.{settle}
use Rattle.rules_calls.specs.Copy.{source_of, source_checks, record_checks, source_mapping, copying, copy_checks, copy_edit}
use Rattle.rules_calls.specs.Landing.{automatic_checks, place_checks, CandidateIn}
use Rattle.landing.specs.Landed.{automatic-refuse, none-28, only-28}
use Rattle.rules_calls.specs.Map.{mapped, room_checks, founding, map_edit, map_checks}
use Rattle.laws_mapping.specs.Passed.{map_numbers_refuse, copy_numbers_refuse, source-refuse}
use Rattle.edits.specs.Numbers.{map_number_checks_at, map_checks_at, map_edit_at, copy_number_checks_at, copy_checks_at, copy_edit_at}

-- no check of the list answers 28
abbrev Other : List (Check ℕ) → Type 0
Other cs = Each (λ c. c.answer ≡ 28 → ⊥) cs

module _ (os : List Object) (ms : List Mapping) (s n : ℕ) (cs ds : List (Check ℕ)) (r : Refusals cs 0) (passed : first cs 0 ≡ 0) (other : Other ds) (m : multiple (alignment os s) n ≡ true) where
  after : first (cs ++ (automatic_checks os ms s n ++ ds)) 0 ≡ first (automatic_checks os ms s n) (first ds 0)
  after =
      first-append cs (automatic_checks os ms s n ++ ds) 0
      ∙ sym (first_goes cs 0 (first (automatic_checks os ms s n ++ ds) 0) r (sym passed))
      ∙ first-append (automatic_checks os ms s n) ds 0

  pub refused-28 : ((x : ℕ) → CandidateIn os ms s n x → ⊥) → first (cs ++ (automatic_checks os ms s n ++ ds)) 0 ≡ 28
  refused-28 nowhere =
      let e = none-28 os ms s n m nowhere in
      after ∙ sym (sym e ∙ first-stays (automatic_checks os ms s n) 0 (first (automatic_checks os ms s n) 0) (first ds 0) refl (λ z. omega (arith, z, e)))

  pub only_if-28 : first (cs ++ (automatic_checks os ms s n ++ ds)) 0 ≡ 28 → (x : ℕ) → CandidateIn os ms s n x → ⊥
  only_if-28 e = by_zero (first (automatic_checks os ms s n) 0) refl
    where
      by_zero : (k : ℕ) → first (automatic_checks os ms s n) 0 ≡ k → (x : ℕ) → CandidateIn os ms s n x → ⊥
      by_zero zero f x c =
          first-each (λ (j : ℕ). j ≡ 28 → ⊥) ds 0 other (λ z. omega (arith, z))
          (first_goes (automatic_checks os ms s n) 0 (first ds 0) (automatic-refuse os ms s n) (sym f) ∙ sym after ∙ e)
      by_zero (suc k) f x c =
          only-28 os ms s n m
          (first-stays (automatic_checks os ms s n) 0 (first (automatic_checks os ms s n) 0) (first ds 0) refl (λ z. omega (arith, z, f)) ∙ sym after ∙ e) x c

-- an edit that puts a new mapping answers 28 exactly if its checks do
settled-28 : (k : ℕ) (f : Option ℕ) (m : Mapping) → (settle k (mapped f m)).errno ≡ 28 → k ≡ 28
settled-28 zero None m e = absurd (omega (arith, e))
settled-28 zero (Some i) m e = absurd (omega (arith, e))
settled-28 (suc k) f m e = e

told-28 : (k : ℕ) (e : Edit) → k ≡ 28 → (settle k e).errno ≡ 28
told-28 k e h = rw h

-- ---- MAP

module _ (limit : ℕ) (os : List Object) (ms : List Mapping) (flags s z memory n x : ℕ) (numbers : first (map_number_checks_at os flags s z memory n x) 0 ≡ 0) (free : bit 0 flags ≡ false)
    (m : multiple (alignment os s) n ≡ true) where
  room-other : Other (room_checks (free_mapping ms) limit (charge ms) (pages_touched memory n))
  unfolding room_checks
  room-other = (λ e. omega (arith, e), (λ e. omega (arith, e), tt))

  map_list : map_checks_at limit os ms flags s z memory n x ≡ map_number_checks_at os flags s z memory n x ++ (automatic_checks os ms s n ++ room_checks (free_mapping ms) limit (charge ms) (pages_touched memory n))
  unfolding map_checks place_checks
  map_list = rw free

  pub map_28 : ((y : ℕ) → CandidateIn os ms s n y → ⊥) → (map_edit_at limit os ms flags s z memory n x).errno ≡ 28
  unfolding map_edit
  map_28 nowhere =
      told-28 (first (map_checks_at limit os ms flags s z memory n x) 0) (mapped (free_mapping ms) (founding os ms flags s memory n x))
      (ap (λ (cs : List (Check ℕ)). first cs 0) map_list
      ∙ refused-28 os ms s n (map_number_checks_at os flags s z memory n x) (room_checks (free_mapping ms) limit (charge ms) (pages_touched memory n)) (map_numbers_refuse limit os ms flags s z memory n x) numbers room-other m nowhere)

  pub map_28_only : (map_edit_at limit os ms flags s z memory n x).errno ≡ 28 → (y : ℕ) → CandidateIn os ms s n y → ⊥
  unfolding map_edit
  map_28_only e =
      only_if-28 os ms s n (map_number_checks_at os flags s z memory n x) (room_checks (free_mapping ms) limit (charge ms) (pages_touched memory n)) (map_numbers_refuse limit os ms flags s z memory n x) numbers room-other m
      (sym (ap (λ (cs : List (Check ℕ)). first cs 0) map_list) ∙ settled-28 (first (map_checks_at limit os ms flags s z memory n x) 0) (free_mapping ms) (founding os ms flags s memory n x) e)

-- ---- COPY

module _ (os : List Object) (ms : List Mapping) (flags target source n x y : ℕ) (numbers : first (copy_number_checks_at os flags target source n x y) 0 ≡ 0)
    (sources : first (source_checks flags (source_of ms source y n)) 0 ≡ 0) (free : bit 0 flags ≡ false) (m : multiple (alignment os target) n ≡ true) where
  record_other : Other (record_checks (free_mapping ms))
  unfolding record_checks
  record_other = (λ e. omega (arith, e), tt)

  copy_list : first (copy_checks_at os ms flags target source n x y) 0 ≡ first (source_checks flags (source_of ms source y n) ++ (automatic_checks os ms target n ++ record_checks (free_mapping ms))) 0
  unfolding copy_checks place_checks
  copy_list =
      rw free
      (first-append (copy_number_checks_at os flags target source n x y) (source_checks flags (source_of ms source y n) ++ (automatic_checks os ms target n ++ record_checks (free_mapping ms))) 0
      ∙ sym (first_goes (copy_number_checks_at os flags target source n x y) 0 (first (source_checks flags (source_of ms source y n) ++ (automatic_checks os ms target n ++ record_checks (free_mapping ms))) 0) (copy_numbers_refuse os ms flags target source n x y) (sym numbers)))

  pub copy_28 : ((a : ℕ) → CandidateIn os ms target n a → ⊥) → (copy_edit_at os ms flags target source n x y).errno ≡ 28
  unfolding copy_edit
  copy_28 nowhere =
      told-28 (first (copy_checks_at os ms flags target source n x y) 0) (mapped (free_mapping ms) (copying os ms (source_mapping (source_of ms source y n)) flags target n x))
      (copy_list ∙ refused-28 os ms target n (source_checks flags (source_of ms source y n)) (record_checks (free_mapping ms)) (source-refuse os ms flags target source n x y) sources record_other m nowhere)

  pub copy_28_only : (copy_edit_at os ms flags target source n x y).errno ≡ 28 → (a : ℕ) → CandidateIn os ms target n a → ⊥
  unfolding copy_edit
  copy_28_only e =
      only_if-28 os ms target n (source_checks flags (source_of ms source y n)) (record_checks (free_mapping ms)) (source-refuse os ms flags target source n x y) sources record_other m
      (sym copy_list ∙ settled-28 (first (copy_checks_at os ms flags target source n x y) 0) (free_mapping ms) (copying os ms (source_mapping (source_of ms source y n)) flags target n x) e)
