use mathlib.Core.Path.{◌≡◌}
use lib.ListN.{drop}
use Rattle.lists.specs.Search.{any}
use Rattle.rangelists.specs.Held.{ranges_of}
use Rattle.layout_mappings.specs.Words.{records_of}
use Rattle.check_reserved.specs.Clear.{strikes}
use Rattle.check_reserved.proofs.list_struck.Given as goal

abbrev pub invariant-loop-i : goal.invariant-loop-i
invariant-loop-i l = any (λ r. any (strikes l.s r) (records_of l.m.records.now)) (drop l.i (ranges_of l.l)) ≡ any (λ r. any (strikes l.s r) (records_of l.m.records.now)) (ranges_of l.l)
