-- Places, computed: the edges of document 01's MAP without an address.
use Rattle.std.specs.Prelude.{◌≡◌, refl, [], ◌∷◌, None, Some}
use Rattle.lists.specs.Search.{any}
use Rattle.ranges.specs.Ranges.{U64MAX, range, share, shared_start, shared_last, inside, passes, last_of, span}
use Rattle.alignment.specs.Multiples.{multiple, round_up}
use Rattle.placement.specs.Candidates.{permits, is_candidate, starts, lowest_of, place_of}

-- an allowed range is filled to its last byte
pub whole-range : place_of 1 0x100000 0 [] (range 0x100000 0x1FFFFF ∷ []) ≡ Some 0x100000
unfolding place_of lowest_of starts is_candidate permits any share shared_start shared_last inside passes last_of span multiple round_up
whole-range = refl

-- one byte more has no place
pub one_more : place_of 1 0x100001 0 [] (range 0x100000 0x1FFFFF ∷ []) ≡ None
unfolding place_of lowest_of starts is_candidate permits any share shared_start shared_last inside passes last_of span multiple round_up
one_more = refl

-- of a list in descending order the lowest range that fits is taken and not the first; the lowest of all is too short
pub lowest-range : place_of 0x1000 0x2000 0 [] (range 0x300000 0x3FFFFF ∷ range 0x200000 0x2FFFFF ∷ range 0x100000 0x100FFF ∷ []) ≡ Some 0x200000
unfolding place_of lowest_of starts is_candidate permits any share shared_start shared_last inside passes last_of span multiple round_up
lowest-range = refl

-- neighbours in an allow list are not joined
pub not_joined : place_of 1 0x1001 0 [] (range 0x1000 0x1FFF ∷ range 0x2000 0x2FFF ∷ []) ≡ None
unfolding place_of lowest_of starts is_candidate permits any share shared_start shared_last inside passes last_of span multiple round_up
not_joined = refl

-- only the last page is free
pub last-page : place_of 0x1000 0x1000 0 (range 0 0xFFFFFFFFFFFFEFFF ∷ []) [] ≡ Some 0xFFFFFFFFFFFFF000
unfolding place_of lowest_of starts is_candidate permits any share shared_start shared_last inside passes last_of span multiple round_up
last-page = refl

-- nothing is blocked, and only the last page is allowed
pub last-page_allowed : place_of 0x1000 0x1000 0 [] (range 0xFFFFFFFFFFFFF000 U64MAX ∷ []) ≡ Some 0xFFFFFFFFFFFFF000
unfolding place_of lowest_of starts is_candidate permits any share shared_start shared_last inside passes last_of span multiple round_up
last-page_allowed = refl

-- and holds no byte more
pub last-page_full : place_of 0x1000 0x1001 0 (range 0 0xFFFFFFFFFFFFEFFF ∷ []) [] ≡ None
unfolding place_of lowest_of starts is_candidate permits any share shared_start shared_last inside passes last_of span multiple round_up
last-page_full = refl

-- a blocked range up to the last address has nothing after it
pub all-blocked : place_of 0x1000 0x1000 0 (range 0 U64MAX ∷ []) [] ≡ None
unfolding place_of lowest_of starts is_candidate permits any share shared_start shared_last inside passes last_of span multiple round_up
all-blocked = refl

-- past two blocked ranges, and up to the next multiple
pub between : place_of 0x1000 0x1000 0x1000 (range 0x3000 0x3FFF ∷ range 0 0x1234 ∷ range 0x2800 0x2900 ∷ []) [] ≡ Some 0x4000
unfolding place_of lowest_of starts is_candidate permits any share shared_start shared_last inside passes last_of span multiple round_up
between = refl
