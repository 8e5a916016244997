-- The numbers that document 01 fixes, each by the name that the rules use.
use Rattle.std.specs.Prelude.{ℕ, ◌^◌}

-- the records of a table; a backing number is one of 1 to the number of mappings
abbrev pub object_count : ℕ
object_count = 32

abbrev pub mapping_count : ℕ
mapping_count = 128

-- the highest limit of the charge, in pages
abbrev pub most_limit : ℕ
most_limit = 2 ^ 36

-- the bytes of the longest mapping
abbrev pub most_length : ℕ
most_length = 2 ^ 40

-- the largest page that a device may ask for as its smallest
abbrev pub most_page : ℕ
most_page = 4096

-- the ranges that a device may reserve, and those of an allow list
abbrev pub most_reserved : ℕ
most_reserved = 4

abbrev pub most_allowed : ℕ
most_allowed = 8

-- the bytes of a range in the range area: its start, then its last
abbrev pub range_bytes : ℕ
range_bytes = 16
