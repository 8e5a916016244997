-- What the bench runner promises of a plan.
use Rattle.std.specs.Prelude.{◌≡◌, true, List, map, Option, is_some, unwrap_or, is_ok, ℕ, ◌≤◌, min, length, take}
use Rattle.std.proofs.Common.{sym, ap, ◌∙◌, arith, length-take}
use Rattle.std.proofs.lemmas.List.{length-map}
use Rattle.lists.specs.Tests.{and_right}
use Rattle.rules_table.specs.Records.{fresh_table}
use Rattle.rules_history.specs.Calls.{after, trace}
use Rattle.rules_history.specs.Ledger.{empty, ledger_of}
use Rattle.rules_history.specs.Told.{Told}
use Rattle.plan_shape.specs.Plan.{Plan, plan_of, whole}
use Rattle.plan_setup.specs.Setting.{left, set_up}
use Rattle.plan_commands.specs.declared.Line as Kept
use Rattle.plan.specs.Running.{kept_of, is_ready, lines_of, shown}
use Rattle.plan_laws.specs.Sequence.{order_call, setup_calls, plan_calls, table_of, lines_told}
use Rattle.plan_laws.proofs.Sequence.{plan-told, lines-told}

-- demand 3 of a plan: the ledger of its calls and their answers tells the table that its run leaves, and each of its lines
pub record PlanTold (p : Plan) : Type 0 where
  pub table : Told (ledger_of (trace (plan_calls p) (fresh_table p.limit)) empty) (table_of (left (set_up p)) p.commands)
  pub lines : lines_of p ≡ lines_told 0 (ledger_of (trace (setup_calls p) (fresh_table p.limit)) empty) (trace (map order_call p.commands) (after (setup_calls p) (fresh_table p.limit)))

-- a plan is shown exactly if it is whole and its setup is not refused; the lines given are those that it shows; demand 3 holds of it
pub record Shows (bs : List ℕ) (o : Option ℕ) (ls : List Kept.Line) : Type 0 where
  pub good : is_some o ≡ is_ready bs
  pub count : unwrap_or o 0 ≡ length (shown bs)
  pub lines : take (unwrap_or o 0) ls ≡ map kept_of (shown bs)
  pub told : is_some o ≡ true → PlanTold (plan_of bs)

ready_setup : (bs : List ℕ) → is_ready bs ≡ true → is_ok (set_up (plan_of bs)) ≡ true
unfolding is_ready
ready_setup bs e = and_right (whole bs) (is_ok (set_up (plan_of bs))) e

-- a plan that is ready is told
pub ready_told : (bs : List ℕ) → is_ready bs ≡ true → PlanTold (plan_of bs)
ready_told bs e = let r = ready_setup bs e in record { table = plan-told (plan_of bs) r; lines = lines-told (plan_of bs) r }

-- what the run of a plan gives is what is promised
pub shows_of : (bs : List ℕ) (o : Option ℕ) (ls : List Kept.Line) → (is_some o ≡ is_ready bs) × (unwrap_or o 0 ≡ length (shown bs)) × (take (unwrap_or o 0) ls ≡ map kept_of (shown bs)) → Shows bs o ls
shows_of bs o ls h = record { good = h.0; count = h.1; lines = h.2; told = λ e. ready_told bs (sym h.0 ∙ e) }

-- as many lines were given as there are, so the slice has room for them
pub shows_fits : (bs : List ℕ) (o : Option ℕ) (ls : List Kept.Line) → Shows bs o ls → unwrap_or o 0 ≤ length ls
shows_fits bs o ls h =
    let l : min (unwrap_or o 0) (length ls) ≡ length (shown bs) = sym (length-take (unwrap_or o 0) ls) ∙ ap length h.lines ∙ length-map (shown bs) kept_of in
    omega (arith, l, h.count)
