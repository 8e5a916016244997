-- A plan is ready where it is whole and its setup is not refused. Then its commands run one by one, each on the table of the one before it.
use Rattle.std.specs.Prelude.{ℕ, ◌+◌, Bool, true, false, ◌&&◌, List, [], ◌∷◌, Option, Some, None, Result, Ok, Err, is_ok, ℤ}
use Rattle.wire.specs.Fields.{field}
use Rattle.rules_table.specs.declared.Table.{Table}
use Rattle.rules_table.specs.Charge.{charge}
use Rattle.rules_calls.specs.declared.Answer.{Answer}
use Rattle.plan.specs.declared.Ready.{Ready}
use Rattle.plan_shape.specs.Plan.{commands_at, whole, Order, Plan, plan_of}
use Rattle.plan_setup.specs.Setting.{left, set_up}
use Rattle.plan_commands.specs.Ran.{answer_to}
use Rattle.plan_commands.specs.declared.Line as Kept

-- ---- before anything is printed

unfoldable pub good_plan : List ℕ → Table → Ready
good_plan bs t = record { at = commands_at bs + 4; count = field 4 bs (commands_at bs); table = t }

-- none where the plan is bad
abbrev pub judged : Bool → List ℕ → Result Table Table → Option Ready
judged true bs (Ok t) = Some (good_plan bs t)
judged true bs (Err t) = None
judged false bs s = None

-- whole, and not refused
unfoldable pub is_ready : List ℕ → Bool
is_ready bs = whole bs && is_ok (set_up (plan_of bs))

unfoldable pub ready_of : List ℕ → Option Ready
ready_of bs = judged (whole bs) bs (set_up (plan_of bs))

-- ---- the commands

-- a line of the output: the command's number from 0, the request, the result, the charge after it
pub record Line : Type 0 where
  pub number : ℕ
  pub request : ℕ
  pub result : ℤ
  pub charge : ℕ

-- what the program keeps of a line: all but its number, which is its place
abbrev pub kept_of : Line → Kept.Line
kept_of l = record { request = l.request; result = l.result; charge = l.charge }

unfoldable pub line_by : ℕ → Order → Answer → Line
line_by k o a = record { number = k; request = o.request; result = a.result; charge = charge a.table.mappings }

unfoldable pub lines_from : ℕ → Table → List Order → List Line
lines_from k t [] = []
lines_from k t (o ∷ os) = line_by k o (answer_to t o) ∷ lines_from (k + 1) (answer_to t o).table os

unfoldable pub lines_of : Plan → List Line
lines_of p = lines_from 0 (left (set_up p)) p.commands

abbrev pub shown_if : Bool → Plan → List Line
shown_if true p = lines_of p
shown_if false p = []

-- the lines that a plan shows: none where it is bad
unfoldable pub shown : List ℕ → List Line
shown bs = shown_if (is_ready bs) (plan_of bs)
