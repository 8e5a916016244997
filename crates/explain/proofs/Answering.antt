-- What each return answers.
use Rattle.std.specs.Prelude.{Option, Some, None, Ok, Err}
use Prim.Native.Nat.{ℕ}
use mathlib.Core.Path.{◌≡◌, refl, sym, ap, subst, ◌∙◌}
use mathlib.Core.Bool.{Bool, true, false, ◌&&◌, cond}
use mathlib.Core.List.{List}
use native.Mathlib.Omega.{arith}
use Rattle.lists.specs.Tests.{by-test}
use Rattle.rules_table.specs.declared.Mapping.{Mapping}
use Rattle.rules_table.specs.declared.Table.{Table}
use Rattle.rules_table.specs.Good.{good}
use Rattle.rules_calls.specs.declared.Command.{Command}
use Rattle.rules_calls.specs.Requests.{lookup, row_of}
use Rattle.opening.specs.Opened.{row_none, row_command}
use Rattle.rules_index.specs.Index.{agrees}
use Rattle.rules_index.specs.Board.{Board, good_board}
use Rattle.rules_reasons.specs.declared.Reason.{Reason}
use Rattle.rules_reasons.specs.Explain.{Explained}
use Rattle.rules_reasons.specs.Explain.{row_told, explained_by, explained, board_explained}
use Rattle.reason_words.specs.Words.{Tells}
use Rattle.explain.specs.Answered.{Answered}

-- a command by its case
pub arm : (c k : Command) (t : Table) (bytes : List ℕ) (e : Explained) → c ≡ k → Answered (row_told (Some k) t bytes) e → Answered (row_told (Some c) t bytes) e
arm c k t bytes e q h = subst (λ (d : Command). Answered (row_told (Some d) t bytes) e) (sym q) h

pub told : (why r : Reason) → Tells why r → Answered (Ok why) (Ok r)
told why r h = record { answer = ap Ok h.reason; short = h.short }

pub other : (n : ℕ) → Answered (Err n) (Err n)
other n = record { answer = refl; short = omega arith }

module _ (b : Board) (request : ℕ) (bytes : List ℕ) where
  -- 117
  pub by-bad : good_board b ≡ false → Answered (board_explained b request bytes) (Err 117)
  unfolding board_explained explained_by
  by-bad g = record { answer = rw g; short = omega arith }

  module _ (g : good_board b ≡ true) (row : Option (Command × ℕ)) (er : row ≡ row_of (lookup request)) where
    -- 25
    pub by-unlisted : row ≡ None → Answered (board_explained b request bytes) (Err 25)
    unfolding board_explained explained_by
    by-unlisted u = let l : lookup request ≡ None = row_none request (sym er ∙ u) in record { answer = rw (g, l); short = omega arith }

    -- the command
    pub by-listed : (u : Table) → u ≡ b.table → (c : Command) (known : ℕ) → row ≡ Some (c, known) → (e : Explained) → Answered (row_told (Some c) u bytes) e → Answered (board_explained b request bytes) e
    unfolding board_explained explained_by
    by-listed u q c known f e h =
        let l : lookup request ≡ Some c = row_command request c known (sym er ∙ f) in
        record {
          answer = h.answer ∙ ap (λ (t : Table). row_told (Some c) t bytes) q ∙ sym (rw (g, l));
          short = h.short;
        }

-- ---- by value: with an index that was worked out from the records

pub explained-back : (t u : Table) (ms : List Mapping) (ix : List ℕ) (request : ℕ) (bytes : List ℕ) (e : Explained) → u ≡ t → ms ≡ t.mappings → ((v : Table) → v.mappings ≡ ms → good v ≡ true → agrees ix ms ≡ true)
    → Answered (board_explained record { table = u; index = ix } request bytes) e → e ≡ explained t request bytes
unfolding explained board_explained explained_by good_board
explained-back t u ms ix request bytes e q w m h =
    let same : (good t && agrees ix t.mappings) ≡ good t = by-test (good t) (λ g. rw (g, subst (λ (l : List Mapping). agrees ix l ≡ true) w (m t (sym w) g))) (λ g. rw g) in
    h.answer ∙ ap (λ (v : Table). board_explained record { table = v; index = ix } request bytes) q
    ∙ ap (λ (v : Bool). cond v (row_told (lookup request) t bytes) (Err 117)) same
