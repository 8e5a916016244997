-- Where every row of every case holds, the equations of the bench set do.
use Rattle.std.specs.Prelude.{◌^◌, ◌≡◌, true, List, [], ◌∷◌}
use Rattle.lists.specs.Tests.{and_left, and_right}
use Rattle.lists.specs.Each.{Each, Each-imp, Each-all}
use Rattle.rules_table.specs.declared.Table.{Table}
use Rattle.rules_table.specs.Records.{fresh_table}
use Rattle.rules_history.specs.Calls.{table_after}
use Rattle.bench_set.specs.Rows.{Row, Case, row_holds, rows_hold, case_holds, row-says}
use Rattle.bench_set.specs.Cases.{bench_set, bench_set-holds}
use Rattle.bench_set.specs.Says.{RowsSay}

rows-say : (rs : List Row) (t : Table) → rows_hold rs t ≡ true → RowsSay rs t
unfolding rows_hold
rows-say [] t e = tt
rows-say (r ∷ rs) t e = (row-says r t (and_left (row_holds r t) _ e), rows-say rs (table_after r.call t) (and_right (row_holds r t) _ e))

case-says : (c : Case) → case_holds c ≡ true → RowsSay c.rows (fresh_table (2 ^ 36))
unfolding case_holds
case-says c e = rows-say c.rows (fresh_table (2 ^ 36)) e

pub bench_says : Each (λ (c : Case). RowsSay c.rows (fresh_table (2 ^ 36))) bench_set
bench_says = Each-imp (λ (c : Case). case_holds c ≡ true) (λ (c : Case). RowsSay c.rows (fresh_table (2 ^ 36))) bench_set case-says (Each-all case_holds bench_set bench_set-holds)
