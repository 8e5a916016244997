-- A refusal leaves table, index, command bytes and range area; and a bad table, or an index other than that of its mappings, is 117 at every call.
use Rattle.std.specs.Prelude.{ℕ, ◌≡◌, refl, Bool, true, false, ◌&&◌, List}
use Rattle.std.proofs.Common.{sym, ◌∙◌, arith}
use Rattle.std.proofs.Math.Path.{ap}
use Rattle.std.proofs.Math.IntN.{negsuc}
use Rattle.lists.specs.Tests.{by-test, contrary, and_both}
use Rattle.rules_table.specs.Good.{good}
use Rattle.rules_calls.specs.declared.Answer.{Answer}
use Rattle.rules_calls.specs.declared.Change.TheVariants.{Nothing}
use Rattle.rules_calls.specs.declared.Edit.{Edit}
use Rattle.rules_calls.specs.declared.Order.{Order}
use Rattle.rules_calls.specs.Results.{signed_result}
use Rattle.rules_calls.specs.Requests.{lookup}
use Rattle.rules_calls.specs.Edits.{refuse, applied}
use Rattle.rules_calls.specs.Answers.{outcome}
use Rattle.rules_calls.specs.Gate.{gate}
use Rattle.rules_calls.specs.Orders.{bind_order, attach_order, detach_order, reach_order, host_edit}
use Rattle.rules_calls.specs.Call.{call_edit}
use Rattle.rules_index.specs.Index.{agrees}
use Rattle.rules_index.specs.Board.{Board, good_board, guarded, board_edit, board_done, board_host, board_after}
use Rattle.rules_history.specs.Calls.{Call}
use Rattle.rules_lent.specs.Boards.{edit_of, host_answer, board_reply}
use Rattle.edits.specs.Replies.{row_kept, row-edit}
use Rattle.laws_refusal.specs.Edits.{Silent, silent-settle, negative-id, errno-of, errno-90}
use Rattle.laws_refusal.specs.Silent.{silent-call, silent-host}
use Rattle.laws_refusal.specs.EveryCall.{sent}
use Rattle.laws_refusal.specs.BadTable.{bad-edit, bad-host}
use Rattle.index.specs.Boards.{guarded-other}

-- an edit that changes nothing
still : (b : Board) (e : Edit) → e.change ≡ Nothing → board_after b e ≡ b
unfolding board_after applied
still b e n = rw n

pub silent-board : (b : Board) (request : ℕ) (bytes area : List ℕ) → Silent (board_edit b request bytes area)
unfolding board_edit guarded
silent-board b request bytes area = silent-settle (gate (agrees b.index b.table.mappings) 0) (call_edit b.table request bytes area) (silent-call b.table request bytes area)

pub silent-board_host : (b : Board) (o : Order) → Silent (board_host b o)
unfolding board_host guarded
silent-board_host b o = silent-settle (gate (agrees b.index b.table.mappings) 0) (host_edit b.table o) (silent-host b.table o)

-- ---- refusals

-- table, index, command bytes and range area are as they were
abbrev pub Same : Board → ℕ → List ℕ → List ℕ → Type 0
Same b request bytes area = (board_after b (board_edit b request bytes area) ≡ b) × ((board_done b request bytes area).bytes ≡ bytes) × ((board_done b request bytes area).area ≡ area)

module _ (b : Board) (request : ℕ) (bytes area : List ℕ) where
  -- the answer is the edit, applied
  pub board_result : (board_done b request bytes area).answer ≡ outcome b.table (board_edit b request bytes area)
  unfolding board_done
  board_result = row-edit (lookup request) b.table (board_edit b request bytes area) bytes area

  refused-errno : (k : ℕ) → (board_done b request bytes area).answer.result ≡ negsuc k → (outcome b.table (board_edit b request bytes area)).result ≡ negsuc k
  refused-errno k r = ap (λ (a : Answer). a.result) (sym board_result) ∙ r

  -- THE LAWS
  pub board_refused : (k : ℕ) → (board_done b request bytes area).answer.result ≡ negsuc k → (k ≡ 89 → ⊥) → Same b request bytes area
  unfolding board_done
  board_refused k r n =
      let e = board_edit b request bytes area in
      let q = refused-errno k r in
      let z = errno-of b.table e k q in
      let p = row_kept b.table e bytes area z (errno-90 b.table e k q n) (lookup request) in
      (still b e (silent-board b request bytes area z), p.0, p.1)

  -- -90 leaves table and index as well
  pub board_90 : (board_done b request bytes area).answer.result ≡ negsuc 89 → board_after b (board_edit b request bytes area) ≡ b
  board_90 r = still b (board_edit b request bytes area) (silent-board b request bytes area (errno-of b.table (board_edit b request bytes area) 89 (refused-errno 89 r)))

pub board_host-refused : (b : Board) (o : Order) → ((board_host b o).errno ≡ 0 → ⊥) → board_after b (board_host b o) ≡ b
board_host-refused b o z = still b (board_host b o) (silent-board_host b o z)

-- each of the eleven calls: no refusal but 90 changes the board or the command
host_refused : (b : Board) (o : Order) (k : ℕ) → host_answer (board_host b o) ≡ negsuc k → board_after b (board_host b o) ≡ b
host_refused b o k r = board_host-refused b o (negative-id (board_host b o).errno (board_host b o).value k r)

pub board_every_refused : (b : Board) (c : Call) (k : ℕ) → (board_reply c b).result ≡ negsuc k → (k ≡ 89 → ⊥) → (board_after b (edit_of c b) ≡ b) × ((board_reply c b).bytes ≡ sent c)
unfolding outcome
board_every_refused b (Call.Command request bytes area) k r n = let q = board_refused b request bytes area k (ap (λ (a : Answer). a.result) (board_result b request bytes area) ∙ r) n in (q.0, q.1)
board_every_refused b (Call.Bind bitmap l) k r n = (host_refused b (bind_order bitmap l) k r, refl)
board_every_refused b (Call.Attach d s) k r n = (host_refused b (attach_order d s) k r, refl)
board_every_refused b (Call.Detach d) k r n = (host_refused b (detach_order d) k r, refl)
board_every_refused b (Call.Reach d a m write) k r n = (board_host-refused b (reach_order d a m write) (errno-of b.table (board_host b (reach_order d a m write)) k r), refl)

-- ---- 117

-- a board that is not good has a bad table or another index
bad-cases : {C : Type 0} → (b : Board) → good_board b ≡ false → (good b.table ≡ false → C) → (agrees b.index b.table.mappings ≡ false → C) → C
unfolding good_board
bad-cases b g f h =
    by-test (good b.table)
    (λ t. by-test (agrees b.index b.table.mappings) (λ a. contrary (good b.table && agrees b.index b.table.mappings) (and_both (good b.table) (agrees b.index b.table.mappings) t a) g) h)
    f

guard_bad : (b : Board) (e : Edit) → (good b.table ≡ false → e ≡ refuse 117) → good_board b ≡ false → guarded b e ≡ refuse 117
unfolding guarded
guard_bad b e f g =
    bad-cases b g
    (λ z. rw (f z) (by-test (agrees b.index b.table.mappings) (λ a. rw a) (λ a. rw a)))
    (λ a. guarded-other b e a)

module _ (b : Board) (g : good_board b ≡ false) where
  pub bad-board : (request : ℕ) (bytes area : List ℕ) → board_edit b request bytes area ≡ refuse 117
  unfolding board_edit
  bad-board request bytes area = guard_bad b (call_edit b.table request bytes area) (bad-edit b.table request bytes area) g

  -- THE LAWS: a command, a host call
  pub board_bad : (request : ℕ) (bytes area : List ℕ) → ((board_done b request bytes area).answer.result ≡ negsuc 116) × Same b request bytes area
  unfolding outcome signed_result
  board_bad request bytes area =
      let r : (board_done b request bytes area).answer.result ≡ negsuc 116 = ap (λ (a : Answer). a.result) (board_result b request bytes area) ∙ ap (λ (e : Edit). signed_result e.errno) (bad-board request bytes area) in
      (r, board_refused b request bytes area 116 r (λ z. omega (arith, z)))

  pub board_host-bad : (o : Order) → (board_host b o ≡ refuse 117) × (board_after b (board_host b o) ≡ b)
  unfolding board_host
  board_host-bad o =
      let e : board_host b o ≡ refuse 117 = guard_bad b (host_edit b.table o) (bad-host b.table o) g in
      (e, still b (board_host b o) (ap (λ (x : Edit). x.change) e))

  -- each of the eleven calls
  pub board_117 : (c : Call) → ((board_reply c b).result ≡ negsuc 116) × (board_after b (edit_of c b) ≡ b)
  unfolding signed_result
  board_117 (Call.Command request bytes area) = (ap (λ (e : Edit). signed_result e.errno) (bad-board request bytes area), (board_bad request bytes area).1.0)
  board_117 (Call.Bind bitmap r) = let q = board_host-bad (bind_order bitmap r) in (ap host_answer q.0, q.1)
  board_117 (Call.Attach d s) = let q = board_host-bad (attach_order d s) in (ap host_answer q.0, q.1)
  board_117 (Call.Detach d) = let q = board_host-bad (detach_order d) in (ap host_answer q.0, q.1)
  board_117 (Call.Reach d a n write) = let q = board_host-bad (reach_order d a n write) in (ap (λ (e : Edit). signed_result e.errno) q.0, q.1)

-- an index of another length, order or listing is such a board
other-bad : (b : Board) → agrees b.index b.table.mappings ≡ false → good_board b ≡ false
unfolding good_board
other-bad b a = rw a (and_false (good b.table))
  where
    and_false : (x : Bool) → (x && false) ≡ false
    and_false true = refl
    and_false false = refl

pub board_other : (b : Board) → agrees b.index b.table.mappings ≡ false → (request : ℕ) (bytes area : List ℕ) → ((board_done b request bytes area).answer.result ≡ negsuc 116) × Same b request bytes area
board_other b a request bytes area = board_bad b (other-bad b a) request bytes area

-- so a change is made of a good board alone
pub board_changes : (b : Board) (request : ℕ) (bytes area : List ℕ) → ((board_edit b request bytes area).change ≡ Nothing → ⊥) → good_board b ≡ true
board_changes b request bytes area n = by-test (good_board b) (λ g. g) (λ g. absurd (n (ap (λ (e : Edit). e.change) (bad-board b g request bytes area))))
