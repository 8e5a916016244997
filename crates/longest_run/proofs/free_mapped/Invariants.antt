use Rattle.layout_mappings.specs.Words.{records_of}
use Rattle.longest_run.specs.Parts.{extent_for}
use Rattle.longest_run.proofs.Parting.{Freeing}
use Rattle.longest_run.proofs.free_mapped.Given as goal

abbrev pub invariant-loop-i : goal.invariant-loop-i
invariant-loop-i l = Freeing (extent_for l.s) (records_of l.ws) l.upto l.x l.e l.i
