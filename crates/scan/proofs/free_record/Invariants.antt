use Prim.Native.Nat.{◌≤◌}
use mathlib.Core.Path.{◌≡◌}
use lib.ListN.{length}
use Rattle.rules_table.specs.Charge.{free_mapping}
use Rattle.layout_mappings.specs.Words.{records_of}
use Rattle.scan.proofs.Surveying.{free_left}
use Rattle.scan.proofs.free_record.Given as goal

abbrev pub invariant-loop-i : goal.invariant-loop-i
invariant-loop-i l = (l.i ≤ length l.ws) × (free_left l.i (records_of l.ws) ≡ free_mapping (records_of l.ws))
