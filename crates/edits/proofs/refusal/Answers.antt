-- Nothing to change.
use mathlib.Core.Path.{ap}
use Rattle.rules_table.specs.declared.Object.{Object}
use Rattle.rules_calls.specs.declared.Change.TheVariants.{Nothing}
use Rattle.edits.proofs.refusal.Goals as goal

pub returns : goal.returns
returns c = ap (λ (o : Object). record { errno = c.args.errno; value = 0; change = Nothing; object = o }) c.free_object.ensures
