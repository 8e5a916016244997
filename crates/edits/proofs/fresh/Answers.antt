-- All records released; the limit decides.
use native.Mathlib.Omega.{arith}
use Rattle.edits.proofs.Storing.{fresh-table, fresh-refused, fresh-made}
use borrow.Author.Rules.{rules}
use Rattle.edits.proofs.fresh.Goals as goal

pub returns-then-limit-le-HIGHEST_LIMIT : goal.returns-then-limit-le-HIGHEST_LIMIT
returns-then-limit-le-HIGHEST_LIMIT c = fresh-made _ _ _ (omega arith) (fresh-table _ _ _ c.free_object.ensures c.zero_mapping.ensures) (search rules)

pub returns-else-limit-le-HIGHEST_LIMIT : goal.returns-else-limit-le-HIGHEST_LIMIT
returns-else-limit-le-HIGHEST_LIMIT c = fresh-refused _ _ _ (omega arith) (fresh-table _ _ _ c.free_object.ensures c.zero_mapping.ensures) (search rules)
