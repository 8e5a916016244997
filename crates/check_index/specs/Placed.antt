-- A record in use has an address, and ends by U64MAX.
use Rattle.std.specs.Prelude.{Bool, ◌&&◌}
use Rattle.rules_table.specs.declared.Mapping.{Mapping}
use Rattle.rules_table.specs.Good.{when_used, length_fits, ends_fit}

unfoldable pub placed : Mapping → Bool
placed = when_used (λ m. length_fits m && ends_fit m)
