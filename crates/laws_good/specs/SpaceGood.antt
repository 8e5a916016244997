-- No command on spaces makes a bad table out of a good one, and a command on one space leaves the others as they were. IOVA_RANGES gives back no table.
use Rattle.std.specs.Prelude.{ℕ, ◌≡◌, true, List}
use Rattle.wire.specs.Fields.{field}
use Rattle.rules_table.specs.declared.Table.{Table}
use Rattle.rules_table.specs.Records.{space_at}
use Rattle.rules_table.specs.Good.{good}
use Rattle.table.specs.Sound.{good-sound, sound-good}
use Rattle.rules_calls.specs.Edits.{settle, applied}
use Rattle.rules_calls.specs.Answers.{outcome}
use Rattle.edits.specs.Kept.{settle-sound}
use Rattle.edits.specs.Untouched.{settle-untouched}
use Rattle.rules_table.specs.Untouched.{Untouched}
use Rattle.rules_calls.specs.Objects.{alloc_edit, destroy_edit}
use Rattle.rules_calls.specs.Named.{alloc_call, alloc_answer, destroy_answer, allow_answer}
use Rattle.laws_good.specs.SpaceKept.{alloc-sound, destroy_sound, allow-sound}
use Rattle.laws_good.specs.SpaceApart.{alloc-untouched, destroy_untouched, allow-untouched}
use Rattle.rules_calls.specs.Gate.{gate_errno}
use Rattle.edits.specs.Numbers.{allow_edit_at}

module _ (t : Table) (g : good t ≡ true) (bytes : List ℕ) where
  pub alloc-good : good (alloc_answer t bytes).table ≡ true
  unfolding alloc_answer alloc_call outcome
  alloc-good =
      sound-good (applied t (alloc_call t bytes))
      (settle-sound t (gate_errno t 0x3B81 bytes) (alloc_edit t.objects (field 4 bytes 4)) (good-sound t g) (λ e. alloc-sound t (field 4 bytes 4) (good-sound t g)))

  pub destroy_good : good (destroy_answer t bytes).table ≡ true
  unfolding destroy_answer outcome
  destroy_good =
      sound-good (applied t (settle (gate_errno t 0x3B80 bytes) (destroy_edit t.objects (field 4 bytes 4))))
      (settle-sound t (gate_errno t 0x3B80 bytes) (destroy_edit t.objects (field 4 bytes 4)) (good-sound t g) (λ e. destroy_sound t (field 4 bytes 4) (good-sound t g)))

  pub allow-good : (area : List ℕ) → good (allow_answer t bytes area).table ≡ true
  unfolding allow_answer outcome
  allow-good area =
      sound-good (applied t (settle (gate_errno t 0x3B82 bytes) (allow_edit_at t.objects (field 4 bytes 4) (field 4 bytes 8) (field 4 bytes 12) area)))
      (settle-sound t (gate_errno t 0x3B82 bytes) (allow_edit_at t.objects (field 4 bytes 4) (field 4 bytes 8) (field 4 bytes 12) area) (good-sound t g)
      (λ e. allow-sound t (field 4 bytes 4) (field 4 bytes 8) (field 4 bytes 12) area (good-sound t g)))

  -- every space is as it was after IOAS_ALLOC, every other one after DESTROY and ALLOW_IOVAS
  pub alloc-apart : (s : ℕ) → space_at t.objects s ≡ true → Untouched s t (alloc_answer t bytes).table
  unfolding alloc_answer alloc_call outcome
  alloc-apart s h = settle-untouched s t (gate_errno t 0x3B81 bytes) (alloc_edit t.objects (field 4 bytes 4)) (λ e. alloc-untouched s t (field 4 bytes 4) (good-sound t g) h)

  pub destroy_apart : (s : ℕ) → (field 4 bytes 4 ≡ s → ⊥) → Untouched s t (destroy_answer t bytes).table
  unfolding destroy_answer outcome
  destroy_apart s ne = settle-untouched s t (gate_errno t 0x3B80 bytes) (destroy_edit t.objects (field 4 bytes 4)) (λ e. destroy_untouched s t (field 4 bytes 4) ne)

  pub allow-apart : (area : List ℕ) (s : ℕ) → (field 4 bytes 4 ≡ s → ⊥) → Untouched s t (allow_answer t bytes area).table
  unfolding allow_answer outcome
  allow-apart area s ne =
      settle-untouched s t (gate_errno t 0x3B82 bytes) (allow_edit_at t.objects (field 4 bytes 4) (field 4 bytes 8) (field 4 bytes 12) area) (λ e. allow-untouched s t (field 4 bytes 4) (field 4 bytes 8) (field 4 bytes 12) area ne)
