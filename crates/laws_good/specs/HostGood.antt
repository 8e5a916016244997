-- No host call makes a bad table out of a good one, and a call on one space leaves the others as they were.
use Rattle.std.specs.Prelude.{ℕ, ◌≡◌, true}
use Rattle.rangelists.specs.Listed.{Reserved}
use Rattle.rules_table.specs.declared.Table.{Table}
use Rattle.rules_table.specs.Records.{home_of, object_at, space_at}
use Rattle.rules_table.specs.Good.{good}
use Rattle.table.specs.Sound.{good-sound, sound-good}
use Rattle.rules_calls.specs.Edits.{settle, applied}
use Rattle.rules_calls.specs.Answers.{outcome, outcome_id}
use Rattle.edits.specs.Kept.{settle-sound}
use Rattle.edits.specs.Untouched.{settle-untouched}
use Rattle.rules_table.specs.Untouched.{Untouched}
use Rattle.rules_calls.specs.Bind.{bind_edit}
use Rattle.rules_calls.specs.Attach.{attach_edit, detach_edit}
use Rattle.rules_calls.specs.Named.{bind_call, attach_call, detach_call}
use Rattle.laws_good.specs.DeviceKept.{bind_sound, attach_sound, detach_sound}
use Rattle.laws_good.specs.DeviceApart.{bind_untouched, attach_untouched, detach_untouched}
use Rattle.rules_calls.specs.Gate.{table_errno}

module _ (t : Table) (g : good t ≡ true) where
  pub bind_good : (bitmap : ℕ) (l : Reserved) → good (bind_call t bitmap l).table ≡ true
  unfolding bind_call outcome_id
  bind_good bitmap l =
      sound-good (applied t (settle (table_errno t) (bind_edit t.objects bitmap l)))
      (settle-sound t (table_errno t) (bind_edit t.objects bitmap l) (good-sound t g) (λ e. bind_sound t bitmap l (good-sound t g)))

  pub attach_good : (d s : ℕ) → good (attach_call t d s).table ≡ true
  unfolding attach_call outcome
  attach_good d s =
      sound-good (applied t (settle (table_errno t) (attach_edit t.objects t.mappings d s)))
      (settle-sound t (table_errno t) (attach_edit t.objects t.mappings d s) (good-sound t g) (λ e. attach_sound t d s (good-sound t g)))

  pub detach_good : (d : ℕ) → good (detach_call t d).table ≡ true
  unfolding detach_call outcome
  detach_good d =
      sound-good (applied t (settle (table_errno t) (detach_edit t.objects d)))
      (settle-sound t (table_errno t) (detach_edit t.objects d) (good-sound t g) (λ e. detach_sound t d (good-sound t g)))

  -- every space is as it was after a bind, every other one after an attach or a detach
  pub bind_apart : (s : ℕ) (bitmap : ℕ) (l : Reserved) → space_at t.objects s ≡ true → Untouched s t (bind_call t bitmap l).table
  unfolding bind_call outcome_id
  bind_apart s bitmap l h = settle-untouched s t (table_errno t) (bind_edit t.objects bitmap l) (λ e. bind_untouched s t bitmap l (good-sound t g) h)

  pub attach_apart : (s d h : ℕ) → space_at t.objects s ≡ true → (h ≡ s → ⊥) → Untouched s t (attach_call t d h).table
  unfolding attach_call outcome
  attach_apart s d h e ne = settle-untouched s t (table_errno t) (attach_edit t.objects t.mappings d h) (λ z. attach_untouched s t d h e ne)

  pub detach_apart : (s d : ℕ) → space_at t.objects s ≡ true → (home_of (object_at t.objects d).kind ≡ s → ⊥) → Untouched s t (detach_call t d).table
  unfolding detach_call outcome
  detach_apart s d e ne = settle-untouched s t (table_errno t) (detach_edit t.objects d) (λ z. detach_untouched s t d e ne)
