-- After the turn at place i the slice holds what is stored before place i + 1, and what it held from there on.
use Rattle.std.proofs.Common.{◌≡◌, ◌≤◌}
use Rattle.walks.specs.Stores.{stores}
use Rattle.rules_table.specs.Records.{zero_mapping}
use Rattle.lent_records.specs.Records.{stored}
use Rattle.lent_records.proofs.store.Given as goal

abbrev pub invariant-loop-i : goal.invariant-loop-i
invariant-loop-i l = record {
  within : l.i ≤ l.n;
  made : l.ms ≡ stores zero_mapping (stored l.c l.initial.ms) l.initial.ms l.i;
}
