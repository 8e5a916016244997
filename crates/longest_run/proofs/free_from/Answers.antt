-- What the reserved ranges leave, the mappings cut.
use mathlib.Core.Path.{◌∙◌}
use Rattle.rules_table.specs.Words.{objects_in}
use Rattle.layout_mappings.specs.Words.{records_of}
use Rattle.longest_run.proofs.Parting.{both-nowhere, both-free}
use Rattle.longest_run.proofs.free_from.Goals as goal

pub returns-in_err-upto : goal.returns-in_err-upto
returns-in_err-upto c = let a = c.args in c.from_residual.ensures ∙ both-nowhere (objects_in a.h.now) (records_of a.ws.now) _ _ _ c.free_reserved.ensures c.in_err-upto.was

pub returns : goal.returns
returns c = let a = c.args in both-free (objects_in a.h.now) (records_of a.ws.now) _ _ _ c.free_reserved.ensures _ c.in_ok-upto.was _ c.free_mapped.ensures
