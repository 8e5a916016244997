-- A refusal writes nothing, at the door: for every request number and any bytes, and for every host call, an answer below zero other than -90 leaves the table, the command
-- and the range area as they were.
use Rattle.std.specs.Prelude.{ℕ, ◌≡◌, refl, List, [], negsuc}
use Rattle.std.proofs.Common.{sym, ap, ◌∙◌}
use Rattle.rangelists.specs.Listed.{Reserved}
use Rattle.rules_table.specs.declared.Table.{Table}
use Rattle.rules_calls.specs.declared.Answer.{Answer}
use Rattle.rules_calls.specs.Requests.{lookup}
use Rattle.rules_calls.specs.Answers.{outcome}
use Rattle.rules_calls.specs.Orders.{bind_order, attach_order, detach_order, host_edit}
use Rattle.rules_calls.specs.Named.{bind_call, attach_call, detach_call}
use Rattle.rules_calls.specs.Call.{Done, call_done, call_edit}
use Rattle.rules_history.specs.Calls.{Call, reply_of, table_after}
use Rattle.edits.specs.Replies.{row_kept, call-edit}
use Rattle.laws_refusal.specs.Edits.{outcome-refused, outcome_id-refused, errno-of, errno-90}
use Rattle.laws_refusal.specs.Silent.{silent-call, silent-host}

-- table, command and range area are as they were
abbrev pub Same : Table → List ℕ → List ℕ → Done → Type 0
Same t bytes area d = (d.answer.table ≡ t) × (d.bytes ≡ bytes) × (d.area ≡ area)

-- THE LAW
pub call-refused : (t : Table) (request : ℕ) (bytes area : List ℕ) (k : ℕ) → (call_done t request bytes area).answer.result ≡ negsuc k → (k ≡ 89 → ⊥) → Same t bytes area (call_done t request bytes area)
unfolding call_done
call-refused t request bytes area k r n =
    let e = call_edit t request bytes area in
    let same = call-edit t request bytes area in
    let q : (outcome t e).result ≡ negsuc k = ap (λ (a : Answer). a.result) (sym same) ∙ r in
    let p = row_kept t e bytes area (errno-of t e k q) (errno-90 t e k q n) (lookup request) in
    (ap (λ (a : Answer). a.table) same ∙ outcome-refused t e (silent-call t request bytes area) k q, p.0, p.1)

-- ---- the host calls

module _ (t : Table) (k : ℕ) where
  pub bind_refused : (bitmap : ℕ) (l : Reserved) → (bind_call t bitmap l).result ≡ negsuc k → (bind_call t bitmap l).table ≡ t
  unfolding bind_call
  bind_refused bitmap l r = outcome_id-refused t (host_edit t (bind_order bitmap l)) (silent-host t (bind_order bitmap l)) k r

  pub attach_refused : (d s : ℕ) → (attach_call t d s).result ≡ negsuc k → (attach_call t d s).table ≡ t
  unfolding attach_call
  attach_refused d s r = outcome-refused t (host_edit t (attach_order d s)) (silent-host t (attach_order d s)) k r

  pub detach_refused : (d : ℕ) → (detach_call t d).result ≡ negsuc k → (detach_call t d).table ≡ t
  unfolding detach_call
  detach_refused d r = outcome-refused t (host_edit t (detach_order d)) (silent-host t (detach_order d)) k r

-- ---- every call: no refusal but 90 changes the table or the command

-- the command bytes
abbrev pub sent : Call → List ℕ
sent (Call.Command request bytes area) = bytes
sent (Call.Bind bitmap l) = []
sent (Call.Attach d s) = []
sent (Call.Detach d) = []
sent (Call.Reach d a n write) = []

-- THE LAW
pub every_refused : (c : Call) (t : Table) (k : ℕ) → (reply_of c t).result ≡ negsuc k → (k ≡ 89 → ⊥) → (table_after c t ≡ t) × ((reply_of c t).bytes ≡ sent c)
every_refused (Call.Command request bytes area) t k e n = let q = call-refused t request bytes area k e n in (q.0, q.1)
every_refused (Call.Bind bitmap l) t k e n = (bind_refused t k bitmap l e, refl)
every_refused (Call.Attach d s) t k e n = (attach_refused t k d s e, refl)
every_refused (Call.Detach d) t k e n = (detach_refused t k d e, refl)
every_refused (Call.Reach d a n write) t k e m = (refl, refl)
