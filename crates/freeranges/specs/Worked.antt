-- Lists of free ranges, computed: K8 and K9 of document 01's bench set as far as the list decides them, and the edges of readings R4, R5 and R6.
use Rattle.std.specs.Prelude.{◌≡◌, refl, [], ◌∷◌, length, take}
use Rattle.ranges.specs.Ranges.{U64MAX, range}
use Rattle.freeranges.specs.Free.{between, end_below, start_above, around, without, free_from, free_ranges}

-- K8: around the plan's device
pub k8 : free_ranges (range 0xFEE00000 0xFEEFFFFF ∷ []) ≡ range 0 0xFEDFFFFF ∷ range 0xFEF00000 0xFFFFFFFFFFFFFFFF ∷ []
unfolding free_ranges free_from without around end_below start_above between
k8 = refl

-- K9: room for one, and there are two
pub k9 : take 1 (free_ranges (range 0xFEE00000 0xFEEFFFFF ∷ [])) ≡ range 0 0xFEDFFFFF ∷ []
unfolding free_ranges free_from without around end_below start_above between
k9 = refl

pub k9-count : length (free_ranges (range 0xFEE00000 0xFEEFFFFF ∷ [])) ≡ 2
unfolding free_ranges free_from without around end_below start_above between
k9-count = refl

-- nothing is reserved
pub none-reserved : free_ranges [] ≡ range 0 U64MAX ∷ []
unfolding free_ranges free_from between
none-reserved = refl

-- everything is reserved, at once or in two halves
pub all-reserved : free_ranges (range 0 U64MAX ∷ []) ≡ []
unfolding free_ranges free_from without around end_below start_above between
all-reserved = refl

pub halves-reserved : free_ranges (range 0x8000000000000000 U64MAX ∷ range 0 0x7FFFFFFFFFFFFFFF ∷ []) ≡ []
unfolding free_ranges free_from without around end_below start_above between
halves-reserved = refl

-- overlapping and neighbouring ranges leave one gap, in any order
pub one-gap : free_ranges (range 10 20 ∷ range 21 30 ∷ range 15 25 ∷ []) ≡ range 0 9 ∷ range 31 U64MAX ∷ []
unfolding free_ranges free_from without around end_below start_above between
one-gap = refl

pub one-gap_turned : free_ranges (range 21 30 ∷ range 15 25 ∷ range 10 20 ∷ []) ≡ range 0 9 ∷ range 31 U64MAX ∷ []
unfolding free_ranges free_from without around end_below start_above between
one-gap_turned = refl

-- reserved at both ends: no empty range at 0, no wrap after the last address
pub both_ends : free_ranges (range 0 0 ∷ range U64MAX U64MAX ∷ []) ≡ range 1 0xFFFFFFFFFFFFFFFE ∷ []
unfolding free_ranges free_from without around end_below start_above between
both_ends = refl

-- a start above its last reserves nothing
pub empty-range : free_ranges (range 9 3 ∷ []) ≡ range 0 U64MAX ∷ []
unfolding free_ranges free_from without between
empty-range = refl
