-- Where an accepted MAP or COPY lands: the address that is told is the lowest candidate or the one asked, and no address of the new mapping was mapped in its space.
use Rattle.std.specs.Prelude.{ℕ, ◌≤◌, ◌<◌, ◌≡◌, refl, Bool, true, false, ◌&&◌, List, get_or, Option, None, Some}
use Rattle.std.proofs.Common.{◌∙◌}
use Rattle.std.proofs.Math.ListN as ListN
use Rattle.lists.specs.Tests.{by-test, contrary, and_left, and_right, and_both}
use Rattle.lists.specs.Search.{any-false_at}
use Rattle.lists.specs.Checks.{first}
use Rattle.ranges.specs.Ranges.{holds, share, share-of, passes, span}
use Rattle.rules_table.specs.Flags.{bit}
use Rattle.rules_table.specs.declared.Object.{Object}
use Rattle.rules_table.specs.declared.Mapping.{Mapping}
use Rattle.rules_table.specs.Records.{zero_mapping, used, of_space, extent, touches, covers}
use Rattle.rules_table.specs.Charge.{free_mapping}
use Rattle.rules_calls.specs.declared.Edit.{Edit}
use Rattle.rules_calls.specs.Edits.{settle, is_none}
use Rattle.rules_calls.specs.Copy.{source_of, source_mapping, copy_of, copying, copy_edit}
use Rattle.rules_calls.specs.Landing.{taken, place_checks, place_at, CandidateIn}
use Rattle.landing.specs.Landed.{Landed, place-landed, automatic-candidate}
use Rattle.rules_calls.specs.Map.{mapped, found_of, founding, map_edit}
use Rattle.laws_mapping.specs.Passed.{settled-zero, map_passed, copy_passed}
use Rattle.edits.specs.Numbers.{map_checks_at, map_edit_at, copy_checks_at, copy_edit_at}

-- what holds of an accepted place
pub record LandedAt (os : List Object) (ms : List Mapping) (s : ℕ) (fixed : Bool) (n asked x : ℕ) : Type 0 where
  pub landed : Landed os ms s n x
  pub as_asked : fixed ≡ true → x ≡ asked
  pub lowest : fixed ≡ false → CandidateIn os ms s n x × ((y : ℕ) → CandidateIn os ms s n y → x ≤ y)

landed_at : (os : List Object) (ms : List Mapping) (s : ℕ) (fixed : Bool) (n x : ℕ) → (fixed ≡ true → passes x n ≡ false) → first (place_checks os ms s fixed n x) 0 ≡ 0
    → LandedAt os ms s fixed n x (place_at os ms s fixed n x)
unfolding place_checks place_at
landed_at os ms s true n x f e = record { landed = place-landed os ms s n true x f e; as_asked = λ p. refl; lowest = λ p. contrary true refl p }
landed_at os ms s false n x f e = record { landed = place-landed os ms s n false x f e; as_asked = λ p. contrary false p refl; lowest = λ p. automatic-candidate os ms s n e }

-- no address of an accepted place was covered by a mapping of the space
pub landed-uncovered : (os : List Object) (ms : List Mapping) (s n x a i : ℕ) → Landed os ms s n x → holds (span x n) a ≡ true → i < ListN.length ms → covers s a (get_or ms i zero_mapping) ≡ false
unfolding taken touches covers
landed-uncovered os ms s n x a i l h k =
    let m = get_or ms i zero_mapping in
    let t : (of_space s m && share (span x n) (extent m)) ≡ false = any-false_at (λ q. of_space s q && share (span x n) (extent q)) ms zero_mapping i k l.alone in
    by-test (used m && (of_space s m && holds (extent m) a))
    (λ c.
    let r = and_right (used m) (of_space s m && holds (extent m) a) c in
    contrary (of_space s m && share (span x n) (extent m))
    (and_both (of_space s m) (share (span x n) (extent m)) (and_left (of_space s m) (holds (extent m) a) r) (share-of (span x n) (extent m) a h (and_right (of_space s m) (holds (extent m) a) r))) t)
    (λ c. c)

-- the number that a new mapping's edit tells is its address
told : (o : Option ℕ) (m : Mapping) → is_none o ≡ false → (mapped o m).value ≡ m.address
told None m e = contrary true refl e
told (Some i) m e = refl

settled-value : (n : ℕ) (e : Edit) → n ≡ 0 → (settle n e).value ≡ e.value
settled-value n e h = rw h

module _ (limit : ℕ) (os : List Object) (ms : List Mapping) (flags s z memory n x : ℕ) (e : (map_edit_at limit os ms flags s z memory n x).errno ≡ 0) where
  map_checked : first (map_checks_at limit os ms flags s z memory n x) 0 ≡ 0
  unfolding map_edit
  map_checked = settled-zero (first (map_checks_at limit os ms flags s z memory n x) 0) (mapped (free_mapping ms) (founding os ms flags s memory n x)) e

  map_told : (map_edit_at limit os ms flags s z memory n x).value ≡ place_at os ms s (bit 0 flags) n x
  unfolding map_edit founding found_of
  map_told =
      settled-value (first (map_checks_at limit os ms flags s z memory n x) 0) (mapped (free_mapping ms) (founding os ms flags s memory n x)) map_checked
      ∙ told (free_mapping ms) (founding os ms flags s memory n x) (map_passed limit os ms flags s z memory n x map_checked).free

  -- an accepted MAP of n bytes lands at the address that it tells
  pub map_landed : LandedAt os ms s (bit 0 flags) n x (map_edit_at limit os ms flags s z memory n x).value
  map_landed = let p = map_passed limit os ms flags s z memory n x map_checked in rw map_told (landed_at os ms s (bit 0 flags) n x p.wanted.fixed p.placed)

module _ (os : List Object) (ms : List Mapping) (flags target source n x y : ℕ) (e : (copy_edit_at os ms flags target source n x y).errno ≡ 0) where
  copy_checked : first (copy_checks_at os ms flags target source n x y) 0 ≡ 0
  unfolding copy_edit
  copy_checked = settled-zero (first (copy_checks_at os ms flags target source n x y) 0) (mapped (free_mapping ms) (copying os ms (source_mapping (source_of ms source y n)) flags target n x)) e

  copy_told : (copy_edit_at os ms flags target source n x y).value ≡ place_at os ms target (bit 0 flags) n x
  unfolding copy_edit copying copy_of
  copy_told =
      settled-value (first (copy_checks_at os ms flags target source n x y) 0) (mapped (free_mapping ms) (copying os ms (source_mapping (source_of ms source y n)) flags target n x)) copy_checked
      ∙ told (free_mapping ms) (copying os ms (source_mapping (source_of ms source y n)) flags target n x) (copy_passed os ms flags target source n x y copy_checked).free

  -- so does an accepted COPY
  pub copy_landed : LandedAt os ms target (bit 0 flags) n x (copy_edit_at os ms flags target source n x y).value
  copy_landed = let p = copy_passed os ms flags target source n x y copy_checked in rw copy_told (landed_at os ms target (bit 0 flags) n x p.wanted.fixed p.placed)
