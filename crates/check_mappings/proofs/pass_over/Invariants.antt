use Rattle.std.proofs.Common.{◌-◌}
use Rattle.layout_mappings.specs.Words.{records_of}
use Rattle.check_mappings.proofs.Passing.{Visiting}
use Rattle.check_mappings.proofs.pass_over.Given as goal

abbrev pub invariant-loop-i : goal.invariant-loop-i
invariant-loop-i l = Visiting l.pages (records_of l.ws) l.i l.used l.charge l.marks

abbrev pub decreases-loop-i : goal.decreases-loop-i
decreases-loop-i l = 128 - l.i
