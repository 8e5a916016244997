-- What computing a case goes through, listed once: to unfold one of these names is to unfold all that it lists.
use Rattle.std.specs.Prelude.{Bool, List}
use Rattle.rules_table.specs.declared.Table.{Table}
use Rattle.rules_table.specs.Records.{fresh_table}
use Rattle.rules_calls.specs.Answers.{outcome_id}
use Rattle.rules_calls.specs.Bind.{binds}
use Rattle.rules_calls.specs.Attach.{attaches}
use Rattle.rules_calls.specs.Reach.{reaches}
use Rattle.rules_calls.specs.Call.{calls}
use Rattle.rules_calls.specs.Named.{bind_call, attach_call, reach_call}
use Rattle.rules_history.specs.Calls.{Call, after}
use Rattle.bench_set.specs.Rows.{Case, same_result, same_bytes, row_holds, rows_hold, case_holds}

-- the calls, one after the other, from a fresh table on
unfoldable pub going : List Call → Table → Table
unfolding after calls binds attaches reaches bind_call attach_call reach_call outcome_id fresh_table
going cs t = after cs t

unfoldable pub running : Case → Bool
unfolding case_holds rows_hold row_holds same_result same_bytes going
running c = case_holds c
