-- The bench set as equations: each row of each case, on the table that the rows before it left.
use Rattle.std.specs.Prelude.{List, [], ◌∷◌}
use Rattle.rules_table.specs.declared.Table.{Table}
use Rattle.rules_history.specs.Calls.{table_after}
use Rattle.bench_set.specs.Rows.{Row, Says}

abbrev pub RowsSay : List Row → Table → Type 0
RowsSay [] t = Unit {0}
RowsSay (r ∷ rs) t = Says r t × RowsSay rs (table_after r.call t)
