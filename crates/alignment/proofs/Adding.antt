-- The lowest multiple from a number on: the number itself, or what is lacking is added, where the sum fits.
use Rattle.alignment.specs.Multiples.{lowest-here, lowest-zero, lowest-next, lowest-past}

pub ruleset lowest_laws = (lowest-here, lowest-zero, lowest-next, lowest-past)
