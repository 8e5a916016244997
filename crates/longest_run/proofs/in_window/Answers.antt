-- The two parts of what is blocked, one after the other.
use Rattle.rules_table.specs.Words.{objects_in}
use Rattle.layout_mappings.specs.Words.{records_of}
use Rattle.longest_run.proofs.Running.{window_is}
use Rattle.longest_run.proofs.in_window.Goals as goal

pub returns : goal.returns
returns c = let a = c.args in window_is (objects_in a.h.now) (records_of a.ws.now) _ _ _ _ _ _ _ _ _ _ c.run_from-lowest.ensures c.run_from-first.ensures c.better_of-better.ensures c.better_of-best.ensures c.past_reserved-past.ensures c.past_mapped.ensures
