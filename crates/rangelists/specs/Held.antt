-- The ranges that an array of starts and an array of lasts hold, where the two go together.
use Rattle.std.specs.Prelude.{List}
use Rattle.ranges.specs.declared.Range.{Range}
use Rattle.rangelists.specs.declared.Ranges.{Ranges}
use Rattle.rangelists.specs.Listed.{places}

abbrev pub ranges_of : Ranges → List Range
ranges_of l = places l.starts.now l.lasts.now
