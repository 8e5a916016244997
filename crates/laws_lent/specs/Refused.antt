-- A refusal in the caller's memory: one other than -90 leaves head, records, index, command and range area, number for number, and so does a bad table or another index, which is 117.
use Rattle.std.specs.Prelude.{ℕ, ◌≡◌, false, List, ℤ}
use Rattle.std.proofs.Math.Path.{sym, ap}
use Rattle.std.proofs.Common.{◌∙◌, ne_eqb}
use Rattle.std.proofs.Math.IntN.{negsuc}
use Rattle.rules_calls.specs.Results.{signed_result}
use Rattle.rules_table.specs.declared.Mapping.{Mapping}
use Rattle.rules_table.specs.declared.Head.{Head}
use Rattle.rules_table.specs.Layout.{table_of}
use Rattle.rules_calls.specs.declared.Answer.{Answer}
use Rattle.rules_calls.specs.declared.Change.TheVariants as Changes
use Rattle.rules_calls.specs.declared.Edit.{Edit}
use Rattle.rules_calls.specs.declared.Order.{Order}
use Rattle.rules_calls.specs.Answers.{outcome}
use Rattle.rules_index.specs.Board.{good_board, index_after, board_edit, board_done, board_host}
use Rattle.rules_lent.specs.Lent.{head_after, records_after, board_of}
use Rattle.rules_lent.specs.Entries.{LentCall, LentHost}
use Rattle.laws_refusal.specs.Edits.{errno-of}
use Rattle.laws_board.specs.Refused.{silent-board, silent-board_host, board_result, board_refused, board_bad, board_host-bad}

kept : (h : Head) (ms : List Mapping) (ix : List ℕ) (e : Edit) → e.change ≡ Changes.Nothing → (head_after e h ≡ h) × (records_after e ms ≡ ms) × (index_after e.change ms ix ≡ ix)
unfolding head_after records_after
kept h ms ix e n = (rw n, rw n, rw n)

-- ---- commands

module _ (h : Head) (ms : List Mapping) (ix : List ℕ) (request : ℕ) (cmd area : List ℕ) (r : ℤ) (h' : Head) (ms' : List Mapping) (ix' cmd' area' : List ℕ)
    (l : LentCall h ms ix request cmd area r h' ms' ix' cmd' area') where
  -- the entry's result is the door's
  door : (board_done (board_of h ms ix) request cmd area).answer.result ≡ r
  unfolding outcome
  door = ap (λ (a : Answer). a.result) (board_result (board_of h ms ix) request cmd area) ∙ sym l.result

  -- head, records and index stay
  table_stays : (k : ℕ) → r ≡ negsuc k → (h' ≡ h) × (ms' ≡ ms) × (ix' ≡ ix)
  unfolding outcome
  table_stays k e =
      let d = board_edit (board_of h ms ix) request cmd area in
      let q = kept h ms ix d (silent-board (board_of h ms ix) request cmd area (errno-of (table_of h ms) d k (sym l.result ∙ e))) in
      (l.head ∙ q.0, l.records ∙ q.1, l.index ∙ q.2)

  -- THE LAW
  pub lent-refused : (k : ℕ) → r ≡ negsuc k → (k ≡ 89 → ⊥) → (h' ≡ h) × (ms' ≡ ms) × (ix' ≡ ix) × (cmd' ≡ cmd) × (area' ≡ area)
  lent-refused k e n =
      let q = board_refused (board_of h ms ix) request cmd area k (door ∙ e) n in
      let s = table_stays k e in
      (s.0, s.1, s.2, l.reply ∙ q.1, l.ranges ∙ q.2)

  -- -90 leaves head, records and index as well
  pub lent-90 : r ≡ negsuc 89 → (h' ≡ h) × (ms' ≡ ms) × (ix' ≡ ix)
  lent-90 e = table_stays 89 e

  -- THE LAW
  pub lent-bad : good_board (board_of h ms ix) ≡ false → (r ≡ negsuc 116) × (h' ≡ h) × (ms' ≡ ms) × (ix' ≡ ix) × (cmd' ≡ cmd) × (area' ≡ area)
  lent-bad g =
      let q = board_bad (board_of h ms ix) g request cmd area in
      let e = sym door ∙ q.0 in
      let s = table_stays 116 e in
      (e, s.0, s.1, s.2, l.reply ∙ q.1.1, l.ranges ∙ q.1.2)

-- ---- host calls

module _ (h : Head) (ms : List Mapping) (ix : List ℕ) (o : Order) (words : List ℕ) (r : ℤ) (h' : Head) (ms' : List Mapping) (ix' words' : List ℕ)
    (l : LentHost h ms ix o words r h' ms' ix' words') where
  -- THE LAWS: a refusal leaves the words too
  pub lent-host_refused : (k : ℕ) → r ≡ negsuc k → (h' ≡ h) × (ms' ≡ ms) × (ix' ≡ ix) × (words' ≡ words)
  unfolding outcome
  lent-host_refused k e =
      let d = board_host (board_of h ms ix) o in
      let n = errno-of (table_of h ms) d k (sym l.result ∙ e) in
      let q = kept h ms ix d (silent-board_host (board_of h ms ix) o n) in
      (l.head ∙ q.0, l.records ∙ q.1, l.index ∙ q.2, l.told ∙ rw (ne_eqb d.errno 0 n))

  pub lent-host_bad : good_board (board_of h ms ix) ≡ false → (r ≡ negsuc 116) × (h' ≡ h) × (ms' ≡ ms) × (ix' ≡ ix) × (words' ≡ words)
  unfolding signed_result
  lent-host_bad g =
      let e : r ≡ negsuc 116 = l.result ∙ ap (λ (x : Edit). signed_result x.errno) (board_host-bad (board_of h ms ix) g o).0 in
      let q = lent-host_refused 116 e in
      (e, q.0, q.1, q.2, q.3)
