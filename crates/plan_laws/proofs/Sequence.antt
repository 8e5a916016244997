-- Laws of a plan: the ledger of its calls and their answers tells the table that its run leaves, and each of its lines.
use Rattle.std.specs.Prelude.{ℕ, zero, suc, ◌+◌, ◌≤◌, ◌^◌, ◌≡◌, refl, Bool, true, false, List, [], ◌∷◌, ◌++◌, map, ltb, Result, Ok, Err, is_ok, replicate, pos}
use Rattle.std.specs.Int.Signed.{lt_z}
use Rattle.std.proofs.Common.{sym, ap, ◌∙◌, append_assoc, ltb-false}
use Rattle.lists.specs.Tests.{by-test}
use Rattle.rules_calls.specs.Named.{bind_call, attach_call}
use Rattle.rules_calls.specs.Results.{signed_result}
use Rattle.rules_table.specs.declared.Table.{Table}
use Rattle.rules_table.specs.Records.{fresh_table}
use Rattle.rules_table.specs.Good.{good}
use Rattle.table.specs.Sound.{good-sound}
use Rattle.table.specs.Fresh.{fresh-good}
use Rattle.rules_calls.specs.declared.Answer.{Answer}
use Rattle.rules_calls.specs.Answers.{fresh_answer}
use Rattle.rules_calls.specs.Call.{call_done}
use Rattle.rules_history.specs.Calls.{Call, reply_of, table_after, after, trace}
use Rattle.rules_history.specs.Ledger.{Ledger, empty, feed, ledger_of}
use Rattle.laws_history.specs.Rel.{Rel}
use Rattle.laws_history.specs.Told.{told}
use Rattle.rules_history.specs.Told.{Told}
use Rattle.laws_history.specs.History.{step-rel, step-good, fresh-rel, run-good, run-rel, demand_3_told}
use Rattle.plan_shape.specs.Plan.{Device, Pair, Order, Plan}
use Rattle.plan_setup.specs.Setting.{left, setup_by, onward, with_space, with_device, with_pair, with_spaces, with_devices, with_pairs, set_up}
use Rattle.plan_commands.specs.Ran.{answer_to}
use Rattle.plan.specs.Running.{line_by, lines_from, lines_of}
use Rattle.plan_laws.specs.Sequence.{space_call, device_call, pair_call, order_call, setup_calls, plan_calls, table_of, Set, line_told, lines_told}

-- one sequence after another
after-append : (cs ds : List Call) (t : Table) → after (cs ++ ds) t ≡ after ds (after cs t)
unfolding after
after-append [] ds t = refl
after-append (c ∷ cs) ds t = after-append cs ds (table_after c t)

set_onward : (s : Result Table Table) (f : Table → Result Table Table) (cs ds : List Call) (t : Table) → Set s cs t → ((u : Table) → Set (f u) ds u) → Set (onward s f) (cs ++ ds) t
unfolding onward
set_onward (Err v) f cs ds t h k = record { table = λ e. absurd (cc) }
set_onward (Ok v) f cs ds t h k = record { table = λ e. (k v).table e ∙ ap (after ds) (h.table refl) ∙ sym (after-append cs ds t) }

-- a call leaves the table of its answer, refused or not
settled-left : (a : Answer) → left (setup_by a) ≡ a.table
unfolding setup_by
settled-left a = by-test (lt_z a.result (pos 0)) (λ h. rw h refl) (λ h. rw h refl)

space-set : (t : Table) → Set (with_space t) (space_call ∷ []) t
unfolding with_space after
space-set t = record { table = λ e. settled-left _ }

device-set : (d : Device) (t : Table) → Set (with_device d t) (device_call d ∷ []) t
unfolding with_device after bind_call
device-set d t = record { table = λ e. settled-left _ }

pair_set : (p : Pair) (t : Table) → Set (with_pair p t) (pair_call p ∷ []) t
unfolding with_pair after attach_call
pair_set p t = record { table = λ e. settled-left _ }

-- nothing is done
kept-set : (t : Table) → Set (Ok t) [] t
unfolding after
kept-set t = record { table = λ e. refl }

spaces-set : (n : ℕ) (t : Table) → Set (with_spaces n t) (replicate n space_call) t
unfolding with_spaces
spaces-set zero t = kept-set t
spaces-set (suc n) t = set_onward (with_space t) (with_spaces n) (space_call ∷ []) (replicate n space_call) t (space-set t) (spaces-set n)

devices-set : (ds : List Device) (t : Table) → Set (with_devices ds t) (map device_call ds) t
unfolding with_devices
devices-set [] t = kept-set t
devices-set (d ∷ ds) t = set_onward (with_device d t) (with_devices ds) (device_call d ∷ []) (map device_call ds) t (device-set d t) (devices-set ds)

pairs_set : (ps : List Pair) (t : Table) → Set (with_pairs ps t) (map pair_call ps) t
unfolding with_pairs
pairs_set [] t = kept-set t
pairs_set (p ∷ ps) t = set_onward (with_pair p t) (with_pairs ps) (pair_call p ∷ []) (map pair_call ps) t (pair_set p t) (pairs_set ps)

-- the limit that is permitted, and the fresh table
fresh_set : (limit : ℕ) → Set (setup_by (fresh_answer limit)) [] (fresh_table limit)
unfolding fresh_answer after
fresh_set limit = record { table = λ e. settled-left _ }

-- the whole setup
pub setup_set : (p : Plan) → Set (set_up p) (setup_calls p) (fresh_table p.limit)
unfolding set_up setup_calls
setup_set p =
    rw (← append_assoc (replicate p.spaces space_call) (map device_call p.bound) (map pair_call p.attached))
    (set_onward (onward (onward (setup_by (fresh_answer p.limit)) (with_spaces p.spaces)) (with_devices p.bound)) (with_pairs p.attached) (replicate p.spaces space_call ++ map device_call p.bound) (map pair_call p.attached) (fresh_table p.limit)
    (set_onward (onward (setup_by (fresh_answer p.limit)) (with_spaces p.spaces)) (with_devices p.bound) (replicate p.spaces space_call) (map device_call p.bound) (fresh_table p.limit)
    (set_onward (setup_by (fresh_answer p.limit)) (with_spaces p.spaces) [] (replicate p.spaces space_call) (fresh_table p.limit) (fresh_set p.limit) (spaces-set p.spaces))
    (devices-set p.bound))
    (pairs_set p.attached))

-- the commands
orders-after : (os : List Order) (t : Table) → table_of t os ≡ after (map order_call os) t
unfolding table_of answer_to after
orders-after [] t = refl
orders-after (o ∷ os) t = orders-after os (call_done t o.request o.bytes o.area).answer.table

-- a limit above 2^36 is refused
fresh-permitted : (limit : ℕ) → is_ok (setup_by (fresh_answer limit)) ≡ true → limit ≤ 2 ^ 36
unfolding setup_by fresh_answer signed_result
fresh-permitted limit e = by-test (ltb (2 ^ 36) limit) (λ h. let z : ◌≡◌ {A = Bool} false true = rw h at e in absurd (cc)) (λ h. ltb-false (2 ^ 36) limit h)

-- a setup that is not refused has a permitted limit
onward-refused : (s : Result Table Table) (f : Table → Result Table Table) → is_ok (onward s f) ≡ true → is_ok s ≡ true
unfolding onward
onward-refused (Err t) f e = e
onward-refused (Ok t) f e = refl

pub limit-permitted : (p : Plan) → is_ok (set_up p) ≡ true → p.limit ≤ 2 ^ 36
unfolding set_up
limit-permitted p e =
    fresh-permitted p.limit
    (onward-refused (setup_by (fresh_answer p.limit)) (with_spaces p.spaces)
    (onward-refused (onward (setup_by (fresh_answer p.limit)) (with_spaces p.spaces)) (with_devices p.bound)
    (onward-refused (onward (onward (setup_by (fresh_answer p.limit)) (with_spaces p.spaces)) (with_devices p.bound)) (with_pairs p.attached) e)))

-- THE LAW: where a plan's setup is not refused, the table after its commands is that of the plan's calls on a fresh table, so demand 3 holds of it
pub plan_after : (p : Plan) → is_ok (set_up p) ≡ true → table_of (left (set_up p)) p.commands ≡ after (plan_calls p) (fresh_table p.limit)
unfolding plan_calls
plan_after p e = orders-after p.commands (left (set_up p)) ∙ ap (after (map order_call p.commands)) ((setup_set p).table e) ∙ sym (after-append (setup_calls p) (map order_call p.commands) (fresh_table p.limit))

pub plan-told : (p : Plan) → is_ok (set_up p) ≡ true → Told (ledger_of (trace (plan_calls p) (fresh_table p.limit)) empty) (table_of (left (set_up p)) p.commands)
plan-told p e = rw (plan_after p e) (demand_3_told p.limit (limit-permitted p e) (plan_calls p))

-- ---- the lines

from_told : (os : List Order) (t : Table) (l : Ledger) (k : ℕ) → good t ≡ true → Rel l t → lines_from k t os ≡ lines_told k l (trace (map order_call os) t)
unfolding lines_from lines_told trace line_by line_told answer_to
from_told [] t l k g q = refl
from_told (o ∷ os) t l k g q =
    let u : Table = table_after (order_call o) t in
    let m : Ledger = feed (record { call = order_call o; reply = reply_of (order_call o) t }) l in
    let v : good u ≡ true = step-good (order_call o) t g in
    let r : Rel m u = step-rel (order_call o) l t g q in
    rw (← (told m u (good-sound u v) r).charged, ← from_told os u m (k + 1) v r) refl

-- THE LAW of the lines: each is what the calls, their answers and the ledger tell
pub lines-told : (p : Plan) → is_ok (set_up p) ≡ true → lines_of p ≡ lines_told 0 (ledger_of (trace (setup_calls p) (fresh_table p.limit)) empty) (trace (map order_call p.commands) (after (setup_calls p) (fresh_table p.limit)))
unfolding lines_of
lines-told p e =
    let f = fresh_table p.limit in
    let g : good f ≡ true = fresh-good p.limit (limit-permitted p e) in
    ap (λ (t : Table). lines_from 0 t p.commands) ((setup_set p).table e)
    ∙ from_told p.commands (after (setup_calls p) f) (ledger_of (trace (setup_calls p) f) empty) 0 (run-good (setup_calls p) f g) (run-rel (setup_calls p) f empty g (fresh-rel p.limit))
