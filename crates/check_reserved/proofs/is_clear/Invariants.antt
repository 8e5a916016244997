use mathlib.Core.Path.{◌≡◌}
use lib.ListN.{drop}
use Rattle.lists.specs.Search.{all}
use Rattle.rules_table.specs.Words.{objects_in}
use Rattle.layout_mappings.specs.Words.{records_of}
use Rattle.rules_table.specs.Spaces.{reserved_of}
use Rattle.rules_table.specs.Good.{when_used, clear_of}
use Rattle.check_reserved.specs.Clear.{clear_by}
use Rattle.check_reserved.proofs.is_clear.Given as goal

abbrev pub invariant-loop-i : goal.invariant-loop-i
invariant-loop-i l = clear_by (λ s. reserved_of (drop l.i (objects_in l.h)) s) (records_of l.m.records.now) ≡ all (λ m. when_used (clear_of (reserved_of (objects_in l.h) m.space)) m) (records_of l.m.records.now)
