use Prim.Native.Nat.{◌≤◌}
use Rattle.reason_place.proofs.Seeking.{Seeking}
use Rattle.rules_table.specs.Records.{touches}
use Rattle.layout_mappings.specs.Words.{records_of}
use Rattle.reason_place.proofs.lowest_record.Given as goal

abbrev pub invariant-loop-i : goal.invariant-loop-i
invariant-loop-i l = (l.i ≤ 128) × Seeking (touches l.s l.r) (records_of l.ws) l.i
