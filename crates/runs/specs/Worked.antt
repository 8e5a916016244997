-- Longest runs, computed.
use Rattle.std.specs.Prelude.{◌≡◌, refl, [], ◌∷◌, Some, None}
use Rattle.ranges.specs.Ranges.{U64MAX, range, share, shared_start, shared_last}
use Rattle.alignment.specs.Multiples.{multiple, round_up, lowest_multiple}
use Rattle.runs.specs.Runs.{run, ahead, cut_at, free_to, run_from, over, past_range, in_window, windows, longest_of}

-- nothing is blocked: all 2^64 addresses
all : longest_of 0x1000 0 [] [] ≡ Some (run 0 U64MAX)
unfolding longest_of windows in_window past_range over run_from free_to cut_at ahead lowest_multiple round_up multiple share shared_start shared_last
all = refl

-- neighbours in an allow list are not joined, and the lower of equals is told, though the list is in descending order
not_joined : longest_of 1 0 [] (range 0x2000 0x2FFF ∷ range 0x1000 0x1FFF ∷ []) ≡ Some (run 0x1000 0xFFF)
unfolding longest_of windows in_window past_range over run_from free_to cut_at ahead lowest_multiple round_up multiple share shared_start shared_last
not_joined = refl

-- a run ends before a blocked range, and need not end on a multiple
cut : longest_of 0x1000 0 (range 0 0xFFF ∷ range 0x2800 U64MAX ∷ []) [] ≡ Some (run 0x1000 0x17FF)
unfolding longest_of windows in_window past_range over run_from free_to cut_at ahead lowest_multiple round_up multiple share shared_start shared_last
cut = refl

-- the last page, to the last address
last : longest_of 0x1000 0 (range 0 0xFFFFFFFFFFFFEFFF ∷ []) [] ≡ Some (run 0xFFFFFFFFFFFFF000 0xFFF)
unfolding longest_of windows in_window past_range over run_from free_to cut_at ahead lowest_multiple round_up multiple share shared_start shared_last
last = refl

-- addresses are free, but no multiple is
none_free : longest_of 0x1000 0 (range 0 0x1000 ∷ range 0x2000 U64MAX ∷ []) [] ≡ None
unfolding longest_of windows in_window past_range over run_from free_to cut_at ahead lowest_multiple round_up multiple share shared_start shared_last
none_free = refl

-- a blocked range that holds no address blocks nothing
empty-range : longest_of 1 0 (range 8 7 ∷ []) (range 0 15 ∷ []) ≡ Some (run 0 15)
unfolding longest_of windows in_window past_range over run_from free_to cut_at ahead lowest_multiple round_up multiple share shared_start shared_last
empty-range = refl
