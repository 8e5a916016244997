-- Test by test.
use Rattle.rules_table.specs.Records.{used}
use Rattle.rules_table.specs.Good.{differ}
use Rattle.std.proofs.Math.Bool.{and_assoc}
use Rattle.records.proofs.differs.Goals as goal

pub returns : goal.returns
unfolding differ used
returns c = simp and_assoc
