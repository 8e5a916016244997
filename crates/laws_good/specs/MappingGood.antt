-- MAP, COPY and UNMAP make no bad table out of a good one, and change no mapping, list or device of a space but their own.
use Rattle.std.specs.Prelude.{ℕ, ◌≡◌, true, List}
use Rattle.wire.specs.Fields.{field}
use Rattle.rules_table.specs.declared.Table.{Table}
use Rattle.rules_table.specs.Good.{good}
use Rattle.table.specs.Sound.{good-sound, sound-good}
use Rattle.rules_calls.specs.Edits.{applied}
use Rattle.rules_calls.specs.Answers.{outcome}
use Rattle.edits.specs.Kept.{settle-sound}
use Rattle.edits.specs.Untouched.{settle-untouched}
use Rattle.rules_table.specs.Untouched.{Untouched}
use Rattle.laws_good.specs.MappingKept.{map_kept, map_other, copy_kept, copy_other, unmap_kept, unmap_other}
use Rattle.rules_calls.specs.Gate.{gate_errno}
use Rattle.rules_calls.specs.Named.{unmap_decided, unmap_call, unmap_answer, copy_decided, copy_call, copy_answer, map_decided, map_call, map_answer}

module _ (t : Table) (g : good t ≡ true) (bytes : List ℕ) where
  pub map_good : good (map_answer t bytes).table ≡ true
  unfolding map_answer map_call outcome
  map_good =
      sound-good (applied t (map_call t bytes))
      (settle-sound t (gate_errno t 0x3B85 bytes) (map_decided t bytes) (good-sound t g)
      (λ e. map_kept t (field 4 bytes 4) (field 4 bytes 8) (field 4 bytes 12) (field 8 bytes 16) (field 8 bytes 24) (field 8 bytes 32) (good-sound t g)))

  pub copy_good : good (copy_answer t bytes).table ≡ true
  unfolding copy_answer copy_call outcome
  copy_good =
      sound-good (applied t (copy_call t bytes))
      (settle-sound t (gate_errno t 0x3B83 bytes) (copy_decided t bytes) (good-sound t g)
      (λ e. copy_kept t (field 4 bytes 4) (field 4 bytes 8) (field 4 bytes 12) (field 8 bytes 16) (field 8 bytes 24) (field 8 bytes 32) (good-sound t g)))

  pub unmap_good : good (unmap_answer t bytes).table ≡ true
  unfolding unmap_answer unmap_call outcome
  unmap_good =
      sound-good (applied t (unmap_call t bytes))
      (settle-sound t (gate_errno t 0x3B86 bytes) (unmap_decided t bytes) (good-sound t g) (λ e. unmap_kept t (field 4 bytes 4) (field 8 bytes 8) (field 8 bytes 16) (good-sound t g)))

  -- the space of MAP and the target of COPY stand at offset 8, the space of UNMAP at offset 4
  pub map_apart : (k : ℕ) → (field 4 bytes 8 ≡ k → ⊥) → Untouched k t (map_answer t bytes).table
  unfolding map_answer map_call outcome
  map_apart k ne =
      settle-untouched k t (gate_errno t 0x3B85 bytes) (map_decided t bytes)
      (λ e. map_other k t (field 4 bytes 4) (field 4 bytes 8) (field 4 bytes 12) (field 8 bytes 16) (field 8 bytes 24) (field 8 bytes 32) (good-sound t g) ne)

  pub copy_apart : (k : ℕ) → (field 4 bytes 8 ≡ k → ⊥) → Untouched k t (copy_answer t bytes).table
  unfolding copy_answer copy_call outcome
  copy_apart k ne =
      settle-untouched k t (gate_errno t 0x3B83 bytes) (copy_decided t bytes)
      (λ e. copy_other k t (field 4 bytes 4) (field 4 bytes 8) (field 4 bytes 12) (field 8 bytes 16) (field 8 bytes 24) (field 8 bytes 32) (good-sound t g) ne)

  pub unmap_apart : (k : ℕ) → (field 4 bytes 4 ≡ k → ⊥) → Untouched k t (unmap_answer t bytes).table
  unfolding unmap_answer unmap_call outcome
  unmap_apart k ne = settle-untouched k t (gate_errno t 0x3B86 bytes) (unmap_decided t bytes) (λ e. unmap_other k t (field 4 bytes 4) (field 8 bytes 8) (field 8 bytes 16) ne)
