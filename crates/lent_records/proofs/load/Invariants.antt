-- After i turns the array holds the words of the first i records, and these come back from their words.
use Rattle.std.proofs.Common.{◌≡◌, ◌≤◌}
use Rattle.walks.specs.Stores.{stores}
use Rattle.lent_records.specs.Loading.{blank, loaded, Back}
use Rattle.lent_records.proofs.load.Given as goal

abbrev pub invariant-loop-i : goal.invariant-loop-i
invariant-loop-i l = record {
  within : l.i ≤ l.n;
  made : l.ws ≡ stores blank (loaded l.ms l.initial.ws) l.initial.ws l.i;
  back : Back l.ms l.i;
}
