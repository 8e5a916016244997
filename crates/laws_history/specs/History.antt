-- Demand 3, whole: any fresh table, every sequence of the eleven calls, refused ones and unknown requests among them, whatever bytes and numbers each is lent.
use Rattle.std.specs.Prelude.{ℕ, zero, suc, ◌≤◌, ◌<◌, ◌^◌, ◌≡◌, Bool, ◌&&◌, List, [], ◌∷◌, get_or, replicate, Option, Some, None}
use Rattle.std.proofs.Math.Path.{refl}
use Rattle.std.proofs.Common.{sym, ap, subst, ◌∙◌, arith}
use Rattle.std.proofs.Math.Bool.{true, false}
use Rattle.lists.specs.Tests.{contrary, only_if}
use Rattle.lists.specs.Search.{any}
use Rattle.lists.specs.Each.{Each-replicate}
use Rattle.lists.specs.Sums.{sum_of, sum_of-nil, sum_of-replicate}
use Rattle.rangelists.specs.Listed.{Reserved}
use Rattle.rules_calls.specs.declared.Command.{Command}
use Rattle.rules_calls.specs.declared.Command.TheVariants as Named
use Rattle.rules_calls.specs.Requests.{number, lookup}
use Rattle.rules_table.specs.declared.Object.{Object}
use Rattle.rules_table.specs.declared.Mapping.{Mapping}
use Rattle.rules_table.specs.declared.Table.{Table}
use Rattle.rules_table.specs.Records.{zero_mapping, free_object, is_space, object_at, used, space_at, fresh_table}
use Rattle.rules_table.specs.Charge.{backs, mapping_pages, charge}
use Rattle.rules_table.specs.Good.{good}
use Rattle.table.specs.Sound.{good-sound}
use Rattle.table.specs.Fresh.{fresh-good}
use Rattle.rules_calls.specs.declared.Edit.{Edit}
use Rattle.rules_calls.specs.declared.Answer.{Answer}
use Rattle.rules_calls.specs.Edits.{applied}
use Rattle.rules_calls.specs.Answers.{outcome, outcome_id}
use Rattle.laws_good.specs.SpaceGood.{alloc-good, destroy_good, allow-good}
use Rattle.laws_good.specs.MappingGood.{map_good, copy_good, unmap_good}
use Rattle.rules_calls.specs.Named.{allow_answer, alloc_call, alloc_answer, alloc_bytes, destroy_answer, unmap_call, unmap_answer, unmap_bytes, copy_call, copy_answer, copy_bytes, map_call, map_answer, map_bytes, attach_call, detach_call, bind_call}
use Rattle.laws_good.specs.HostGood.{bind_good, attach_good, detach_good}
use Rattle.rules_calls.specs.Call.{Done, command_done, row_done, call_done, call_edit}
use Rattle.opening.specs.Opened.{row_number}
use Rattle.edits.specs.Replies.{ranges-stays, unlisted-stays, call-edit}
use Rattle.laws_refusal.specs.Calls.{alloc-refused, destroy_refused, map_refused, copy_refused, unmap_refused}
use Rattle.rules_history.specs.Calls.{Call, reply_of, table_after, trace, after}
use Rattle.rules_history.specs.Ledger.{Entry, Ledger, empty, tick, accepts, call_fed, feed, ledger_of, row_fed, command_fed}
use Rattle.laws_history.specs.Rel.{view, weigh, pages_by, had, Rel, rel_tick}
use Rattle.laws_history.specs.Told.{told}
use Rattle.rules_history.specs.Told.{Told, Demand3}
use Rattle.laws_history.specs.Calm.{Calm, calm_same, allow-calm, bind_calm, attach_calm, detach_calm}
use Rattle.laws_history.specs.Steps.{same-tick, below, not_below, map_fed, copy_fed, unmap_fed}
use Rattle.laws_history.specs.Objects.{alloc-fed, destroy_fed}

calm_tick : (l : Ledger) (t u : Table) → Rel l t → Calm t u → Rel (tick l) u
calm_tick l t u q c = rel_tick l t u q c.mappings c.spaces

-- a call by what the result tells: accepted, or refused and the table is as it was
abbrev fed_by : Bool → Command → List ℕ → List ℕ → Ledger → Ledger
fed_by true c bytes written l = command_fed c bytes written l
fed_by false c bytes written l = tick l

abbrev row_fed_by : Bool → Option Command → List ℕ → List ℕ → Ledger → Ledger
row_fed_by true r bytes written l = row_fed r bytes written l
row_fed_by false r bytes written l = tick l

module _ (l : Ledger) (t : Table) (g : good t ≡ true) (q : Rel l t) (bytes area : List ℕ) where
  map_step : (b : Bool) → accepts (map_answer t bytes).result ≡ b → Rel (fed_by b Named.Map bytes (map_bytes t bytes) l) (map_answer t bytes).table
  unfolding map_answer outcome
  map_step true e = map_fed l t (good-sound t g) q bytes (not_below (map_call t bytes).errno e)
  map_step false e = let k = below (map_call t bytes).errno e in same-tick l t (map_answer t bytes).table q (map_refused t bytes k.0 k.1).0

  copy_step : (b : Bool) → accepts (copy_answer t bytes).result ≡ b → Rel (fed_by b Named.Copy bytes (copy_bytes t bytes) l) (copy_answer t bytes).table
  unfolding copy_answer outcome
  copy_step true e = copy_fed l t (good-sound t g) q bytes (not_below (copy_call t bytes).errno e)
  copy_step false e = let k = below (copy_call t bytes).errno e in same-tick l t (copy_answer t bytes).table q (copy_refused t bytes k.0 k.1).0

  unmap_step : (b : Bool) → accepts (unmap_answer t bytes).result ≡ b → Rel (fed_by b Named.Unmap bytes (unmap_bytes t bytes) l) (unmap_answer t bytes).table
  unfolding unmap_answer outcome
  unmap_step true e = unmap_fed l t q bytes (not_below (unmap_call t bytes).errno e)
  unmap_step false e = let k = below (unmap_call t bytes).errno e in same-tick l t (unmap_answer t bytes).table q (unmap_refused t bytes k.0 k.1).0

  alloc_step : (b : Bool) → accepts (alloc_answer t bytes).result ≡ b → Rel (fed_by b Named.IoasAlloc bytes (alloc_bytes t bytes) l) (alloc_answer t bytes).table
  unfolding alloc_answer outcome
  alloc_step true e = alloc-fed l t (good-sound t g) q bytes (not_below (alloc_call t bytes).errno e)
  alloc_step false e = let k = below (alloc_call t bytes).errno e in same-tick l t (alloc_answer t bytes).table q (alloc-refused t bytes k.0 k.1).0

  destroy_step : (b : Bool) → accepts (destroy_answer t bytes).result ≡ b → Rel (fed_by b Named.Destroy bytes bytes l) (destroy_answer t bytes).table
  unfolding destroy_answer outcome
  destroy_step true e = destroy_fed l t (good-sound t g) q bytes (not_below _ e)
  destroy_step false e = let k = below _ e in same-tick l t (destroy_answer t bytes).table q (destroy_refused t bytes k.0 k.1)

  -- what a call leaves, after the ledger was fed it by its row
  abbrev Stepped : Bool → Option Command → Done → Type 0
  Stepped b r d = accepts d.answer.result ≡ b → Rel (row_fed_by b r bytes d.bytes l) d.answer.table

  -- each command at its own number
  abbrev at : Command → ℕ → Done
  at c request = command_done c t (call_edit t request bytes area) bytes area

  command-step : (c : Command) (b : Bool) → accepts (at c (number c)).answer.result ≡ b → Rel (fed_by b c bytes (at c (number c)).bytes l) (at c (number c)).answer.table
  unfolding destroy_answer alloc_answer alloc_bytes allow_answer copy_answer copy_bytes map_answer map_bytes unmap_answer unmap_bytes
  command-step Named.Destroy b e = destroy_step b e
  command-step Named.IoasAlloc b e = alloc_step b e
  command-step Named.AllowIovas true e = calm_tick l t _ q (allow-calm t bytes area)
  command-step Named.AllowIovas false e = calm_tick l t _ q (allow-calm t bytes area)
  command-step Named.Copy b e = copy_step b e
  command-step Named.IovaRanges true e = same-tick l t _ q (ranges-stays t bytes area)
  command-step Named.IovaRanges false e = same-tick l t _ q (ranges-stays t bytes area)
  command-step Named.Map b e = map_step b e
  command-step Named.Unmap b e = unmap_step b e

  row_step : (r : Option Command) (request : ℕ) → lookup request ≡ r → (b : Bool) → Stepped b r (row_done r t (call_edit t request bytes area) bytes area)
  row_step None request f true e = same-tick l t _ q (unlisted-stays t request bytes area f)
  row_step None request f false e = same-tick l t _ q (unlisted-stays t request bytes area f)
  row_step (Some c) request f true e = subst (λ (n : ℕ). Stepped true (Some c) (at c n)) (row_number request c f) (command-step c true) e
  row_step (Some c) request f false e = subst (λ (n : ℕ). Stepped false (Some c) (at c n)) (row_number request c f) (command-step c false) e

  call_step : (request : ℕ) (b : Bool) → accepts (call_done t request bytes area).answer.result ≡ b → Rel (call_fed b (Call.Command request bytes area) (call_done t request bytes area).bytes l) (call_done t request bytes area).answer.table
  unfolding call_done
  call_step request true e = row_step (lookup request) request refl true e
  call_step request false e = row_step (lookup request) request refl false e

bind_ticks : (bitmap : ℕ) (r : Reserved) (l : Ledger) (b : Bool) → call_fed b (Call.Bind bitmap r) [] l ≡ tick l
bind_ticks bitmap r l true = refl
bind_ticks bitmap r l false = refl

attach_ticks : (d s : ℕ) (l : Ledger) (b : Bool) → call_fed b (Call.Attach d s) [] l ≡ tick l
attach_ticks d s l true = refl
attach_ticks d s l false = refl

detach_ticks : (d : ℕ) (l : Ledger) (b : Bool) → call_fed b (Call.Detach d) [] l ≡ tick l
detach_ticks d l true = refl
detach_ticks d l false = refl

reach-ticks : (d a n : ℕ) (write : Bool) (l : Ledger) (b : Bool) → call_fed b (Call.Reach d a n write) [] l ≡ tick l
reach-ticks d a n write l true = refl
reach-ticks d a n write l false = refl

-- a host call: the ledger only counts it
host_step : (l : Ledger) (t u : Table) (c : Call) (b : Bool) → Rel l t → Calm t u → ((b : Bool) → call_fed b c [] l ≡ tick l) → Rel (call_fed b c [] l) u
host_step l t u c b q k e = rw (e b) (calm_tick l t u q k)

-- every call, whatever it answers
pub step-rel : (c : Call) (l : Ledger) (t : Table) → good t ≡ true → Rel l t → Rel (feed (record { call = c; reply = reply_of c t }) l) (table_after c t)
unfolding feed
step-rel (Call.Command request bytes area) l t g q = call_step l t g q bytes area request (accepts (call_done t request bytes area).answer.result) refl
step-rel (Call.Bind bitmap reserved) l t g q = host_step l t (table_after (Call.Bind bitmap reserved) t) (Call.Bind bitmap reserved) (accepts (reply_of (Call.Bind bitmap reserved) t).result) q (bind_calm t bitmap reserved) (λ b. bind_ticks bitmap reserved l b)
step-rel (Call.Attach d s) l t g q = host_step l t (table_after (Call.Attach d s) t) (Call.Attach d s) (accepts (reply_of (Call.Attach d s) t).result) q (attach_calm t d s) (λ b. attach_ticks d s l b)
step-rel (Call.Detach d) l t g q = host_step l t (table_after (Call.Detach d) t) (Call.Detach d) (accepts (reply_of (Call.Detach d) t).result) q (detach_calm t d) (λ b. detach_ticks d l b)
step-rel (Call.Reach d a n write) l t g q = host_step l t t (Call.Reach d a n write) (accepts (reply_of (Call.Reach d a n write) t).result) q (calm_same t) (λ b. reach-ticks d a n write l b)

-- no call makes a bad table out of a good one
module _ (t : Table) (bytes area : List ℕ) (g : good t ≡ true) where
  abbrev left : ℕ → Table
  left request = (outcome t (call_edit t request bytes area)).table

  command-good : (c : Command) → good (left (number c)) ≡ true
  unfolding destroy_answer alloc_answer alloc_call allow_answer copy_answer copy_call map_answer map_call unmap_answer unmap_call
  command-good Named.Destroy = destroy_good t g bytes
  command-good Named.IoasAlloc = alloc-good t g bytes
  command-good Named.AllowIovas = allow-good t g bytes area
  command-good Named.Copy = copy_good t g bytes
  command-good Named.IovaRanges = rw (ranges-stays t bytes area) g
  command-good Named.Map = map_good t g bytes
  command-good Named.Unmap = unmap_good t g bytes

  row-good : (r : Option Command) (request : ℕ) → lookup request ≡ r → good (left request) ≡ true
  row-good None request f = rw (unlisted-stays t request bytes area f) g
  row-good (Some c) request f = subst (λ (n : ℕ). good (left n) ≡ true) (row_number request c f) (command-good c)

pub step-good : (c : Call) (t : Table) → good t ≡ true → good (table_after c t) ≡ true
step-good (Call.Command request bytes area) t g = subst (λ (a : Answer). good a.table ≡ true) (sym (call-edit t request bytes area)) (row-good t bytes area g (lookup request) request refl)
step-good (Call.Bind bitmap reserved) t g = bind_good t g bitmap reserved
step-good (Call.Attach d s) t g = attach_good t g d s
step-good (Call.Detach d) t g = detach_good t g d
step-good (Call.Reach d a n write) t g = g

-- ---- the start: nothing in the ledger, nothing in the table

free-at : (n i : ℕ) → get_or (replicate n free_object) i free_object ≡ free_object
free-at zero i = refl
free-at (suc n) zero = refl
free-at (suc n) (suc i) = free-at n i

space-none : (limit s : ℕ) → space_at (fresh_table limit).objects s ≡ false
unfolding fresh_table space_at object_at
space-none limit zero = refl
space-none limit (suc i) = ap (λ (o : Object). is_space o.kind) (free-at 32 i)

none-used : (b n : ℕ) → any (λ m. used m && backs b m) (replicate n zero_mapping) ≡ false
unfolding any used
none-used b zero = refl
none-used b (suc n) = none-used b n

pub fresh-rel : (limit : ℕ) → Rel empty (fresh_table limit)
unfolding empty fresh_table weigh had used
fresh-rel limit = record {
  who = λ b. 0;
  weighs = λ w. nothing w;
  apart = λ b c hb hc e. contrary false (sym (none-had b) ∙ hb) refl;
  known = Each-replicate (λ m. used m ≡ true → pages_by 0 [] ≡ mapping_pages m) 128 zero_mapping (λ u. contrary false u refl);
  past = tt;
  lately = Each-replicate (λ (m : Mapping). used m ≡ true → 0 < 0) 128 zero_mapping (λ u. contrary false u refl);
  spaces = λ s. sym (space-none limit s);
  bytes = λ s e. contrary false e refl;
}
  where
    nothing : (w : Entry → ℕ) → sum_of w [] ≡ sum_of (λ m. only_if (used m) (w (view (λ b. 0) m))) (replicate 128 zero_mapping)
    nothing w = sum_of-nil w ∙ sym (sum_of-replicate (λ m. only_if (used m) (w (view (λ b. 0) m))) 128 zero_mapping refl)

    none-had : (b : ℕ) → any (λ m. used m && backs b m) (replicate 128 zero_mapping) ≡ false
    none-had b = none-used b 128

-- ---- the sequence

pub run-good : (cs : List Call) (t : Table) → good t ≡ true → good (after cs t) ≡ true
unfolding after
run-good [] t g = g
run-good (c ∷ cs) t g = run-good cs (table_after c t) (step-good c t g)

pub run-rel : (cs : List Call) (t : Table) (l : Ledger) → good t ≡ true → Rel l t → Rel (ledger_of (trace cs t) l) (after cs t)
unfolding ledger_of trace after
run-rel [] t l g q = q
run-rel (c ∷ cs) t l g q = run-rel cs (table_after c t) (feed (record { call = c; reply = reply_of c t }) l) (step-good c t g) (step-rel c l t g q)

-- after any sequence of calls on a fresh table, the ledger, fed by the calls and their answers alone, tells the table's addresses with the memory and the rights behind them,
-- its bytes and its charge
pub demand_3_told : (limit : ℕ) → limit ≤ 2 ^ 36 → (cs : List Call) → Told (ledger_of (trace cs (fresh_table limit)) empty) (after cs (fresh_table limit))
demand_3_told limit h cs = let g = fresh-good limit h in told _ _ (good-sound _ (run-good cs (fresh_table limit) g)) (run-rel cs (fresh_table limit) empty g (fresh-rel limit))

-- ---- the limit stays what it was

applied-limit : (t : Table) (e : Edit) → (applied t e).limit ≡ t.limit
unfolding applied
applied-limit t e = refl

bind_limit : (t : Table) (bitmap : ℕ) (l : Reserved) → (bind_call t bitmap l).table.limit ≡ t.limit
unfolding bind_call outcome_id
bind_limit t bitmap l = applied-limit t _

attach_limit : (t : Table) (d s : ℕ) → (attach_call t d s).table.limit ≡ t.limit
unfolding attach_call outcome
attach_limit t d s = applied-limit t _

detach_limit : (t : Table) (d : ℕ) → (detach_call t d).table.limit ≡ t.limit
unfolding detach_call outcome
detach_limit t d = applied-limit t _

step-limit : (c : Call) (t : Table) → (table_after c t).limit ≡ t.limit
unfolding outcome
step-limit (Call.Command request bytes area) t = ap (λ (a : Answer). a.table.limit) (call-edit t request bytes area) ∙ applied-limit t (call_edit t request bytes area)
step-limit (Call.Bind bitmap reserved) t = bind_limit t bitmap reserved
step-limit (Call.Attach d s) t = attach_limit t d s
step-limit (Call.Detach d) t = detach_limit t d
step-limit (Call.Reach d a n write) t = refl

after-limit : (cs : List Call) (t : Table) → (after cs t).limit ≡ t.limit
unfolding after
after-limit [] t = refl
after-limit (c ∷ cs) t = after-limit cs (table_after c t) ∙ step-limit c t

-- so the charge never passes the limit that the table was made with
pub never-past : (limit : ℕ) → limit ≤ 2 ^ 36 → (cs : List Call) → charge (after cs (fresh_table limit)).mappings ≤ limit
unfolding fresh_table
never-past limit h cs = let e = after-limit cs (fresh_table limit) in let k = (demand_3_told limit h cs).limited in omega (arith, e, k)

-- THE THEOREM: demand 3, whole. After any sequence of calls on a fresh table the ledger tells the table, the table is good, and the charge keeps to the limit that it was made with
pub demand_3 : (limit : ℕ) → limit ≤ 2 ^ 36 → (cs : List Call) → Demand3 limit (ledger_of (trace cs (fresh_table limit)) empty) (after cs (fresh_table limit))
demand_3 limit h cs = record { agrees = demand_3_told limit h cs; stays = run-good cs (fresh_table limit) (fresh-good limit h); within = never-past limit h cs }
