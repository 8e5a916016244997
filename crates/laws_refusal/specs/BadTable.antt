-- A bad table: every call on it answers 117 and leaves everything, by value.
use Rattle.std.specs.Prelude.{ℕ, ◌≡◌, refl, false, List, negsuc}
use Rattle.std.proofs.Common.{ap, ◌∙◌, arith}
use Rattle.rules_calls.specs.declared.Order.{Order}
use Rattle.rules_calls.specs.declared.Answer.{Answer}
use Rattle.rules_calls.specs.Results.{signed_result}
use Rattle.rules_table.specs.declared.Table.{Table}
use Rattle.rules_table.specs.Good.{good}
use Rattle.rules_calls.specs.Edits.{refuse, applied}
use Rattle.rules_calls.specs.Answers.{outcome, outcome_id}
use Rattle.rules_calls.specs.Gate.{gate_errno, table_errno}
use Rattle.rules_calls.specs.Named.{reach_call, attach_call, detach_call, bind_call}
use Rattle.rules_calls.specs.Orders.{bind_order, attach_order, detach_order, reach_order, host_edit}
use Rattle.rules_calls.specs.Call.{call_done, call_edit}
use Rattle.edits.specs.Replies.{call-edit}
use Rattle.rules_history.specs.Calls.{Call, reply_of, table_after}
use Rattle.laws_refusal.specs.EveryCall.{Same, call-refused}

pub bad-edit : (t : Table) (request : ℕ) (bytes area : List ℕ) → good t ≡ false → call_edit t request bytes area ≡ refuse 117
unfolding call_edit gate_errno
bad-edit t request bytes area g = rw g

bad-answer : (t : Table) (request : ℕ) (bytes area : List ℕ) → good t ≡ false → (call_done t request bytes area).answer ≡ record { result = negsuc 116; table = t }
unfolding outcome applied signed_result
bad-answer t request bytes area g = call-edit t request bytes area ∙ ap (outcome t) (bad-edit t request bytes area g)

pub bad-host : (t : Table) (o : Order) → good t ≡ false → host_edit t o ≡ refuse 117
unfolding host_edit table_errno
bad-host t o g = rw g

-- THE LAWS
pub bad-117 : (c : Call) (t : Table) → good t ≡ false → ((reply_of c t).result ≡ negsuc 116) × (table_after c t ≡ t)
unfolding bind_call attach_call detach_call reach_call outcome outcome_id applied signed_result
bad-117 (Call.Command request bytes area) t g = let e = bad-answer t request bytes area g in (ap (λ (a : Answer). a.result) e, ap (λ (a : Answer). a.table) e)
bad-117 (Call.Bind bitmap r) t g = (rw (bad-host t (bind_order bitmap r) g), rw (bad-host t (bind_order bitmap r) g))
bad-117 (Call.Attach d s) t g = (rw (bad-host t (attach_order d s) g), rw (bad-host t (attach_order d s) g))
bad-117 (Call.Detach d) t g = (rw (bad-host t (detach_order d) g), rw (bad-host t (detach_order d) g))
bad-117 (Call.Reach d a n write) t g = (rw (bad-host t (reach_order d a n write) g), refl)

-- a command leaves its bytes and the range area too
pub bad-call : (t : Table) (request : ℕ) (bytes area : List ℕ) → good t ≡ false → ((call_done t request bytes area).answer.result ≡ negsuc 116) × Same t bytes area (call_done t request bytes area)
bad-call t request bytes area g = let e = (bad-117 (Call.Command request bytes area) t g).0 in (e, call-refused t request bytes area 116 e (λ z. omega (arith, z)))
