-- The tool on a table in the caller's memory: the second of its words is the errno of the call, and a refusal leaves them.
use Rattle.std.specs.Prelude.{ℕ, ◌≡◌, refl, List, ℤ, pos, get_or, Ok, Err}
use Rattle.std.proofs.Common.{sym, ap, ◌∙◌}
use Rattle.rules_table.specs.declared.Head.{Head}
use Rattle.rules_table.specs.declared.Mapping.{Mapping}
use Rattle.rules_calls.specs.Results.{signed_result}
use Rattle.opening.specs.Signed.{result-zero, result-none}
use Rattle.rules_index.specs.Board.{board_edit}
use Rattle.rules_reasons.specs.declared.Reason.{Reason}
use Rattle.rules_reasons.specs.Explain.{Explained}
use Rattle.rules_reasons.specs.Explain.{board_explained, reason_words, tool_errno, told_words}
use Rattle.rules_lent.specs.Lent.{board_of}
use Rattle.rules_lent.specs.Entries.{LentCall}
use Rattle.rules_lent.specs.Explaining.{LentExplain}
use Rattle.laws_reasons.proofs.Door.{errno-told, board_told}

-- a refusal leaves the words
words_left : (x : Explained) (words : List ℕ) → (tool_errno x ≡ 0 → ⊥) → told_words x words ≡ words
words_left (Err n) words h = refl
words_left (Ok r) words h = absurd (h refl)

module _ (h : Head) (ms : List Mapping) (ix : List ℕ) (request : ℕ) (cmd words : List ℕ) (r : ℤ) (h' : Head) (ms' : List Mapping) (ix' cmd' words' : List ℕ) (x : LentExplain h ms ix request cmd words r h' ms' ix' cmd' words') where
  -- where the tool answers 0, its words are those of the reason that it tells
  pub lent-reason : r ≡ pos 0 → (w : Reason) × (board_explained (board_of h ms ix) request cmd ≡ Ok w) × (words' ≡ reason_words w)
  lent-reason z =
      let w = errno-told (board_of h ms ix) request cmd (result-none (tool_errno (board_explained (board_of h ms ix) request cmd)) (sym x.result ∙ z)) in
      (w.0, w.1, x.told ∙ ap (λ (e : Explained). told_words e words) w.1)

  -- THE LAWS
  pub lent-told : r ≡ pos 0 → (area : List ℕ) → get_or words' 1 0 ≡ (board_edit (board_of h ms ix) request cmd area).errno
  lent-told z area = let w = lent-reason z in ap (λ (ws : List ℕ). get_or ws 1 0) w.2 ∙ board_told (board_of h ms ix) request cmd area w.0 w.1

  -- so the call, on the same memory, answers the negative of that word
  pub lent-answers : r ≡ pos 0 → (area : List ℕ) (q : ℤ) (g : Head) (ns : List Mapping) (jx bytes filled : List ℕ) → LentCall h ms ix request cmd area q g ns jx bytes filled → q ≡ signed_result (get_or words' 1 0)
  lent-answers z area q g ns jx bytes filled c = c.result ∙ ap signed_result (sym (lent-told z area))

  pub lent-left : (r ≡ pos 0 → ⊥) → words' ≡ words
  lent-left n = x.told ∙ words_left (board_explained (board_of h ms ix) request cmd) words (λ e. n (x.result ∙ ap signed_result e ∙ result-zero))
