-- The head of a table as 865 words of 64 bits, the lowest byte first: the limit, then 27 words for each object record. Word 0 of a record holds the kind, and above it the home; word 1
-- the bitmap; word 2 how many ranges are reserved, and above it how many are allowed; then 4 starts and 4 lasts of what is reserved, 8 starts and 8 lasts of what is allowed.
use Rattle.std.specs.Prelude.{ℕ, zero, suc, ◌+◌, ◌*◌, ◌/◌, ◌%◌, ◌≡◌, refl, List, [], ◌∷◌, map, get_or, replicate}
use Rattle.rules_table.specs.Limits.{object_count}
use Rattle.rules_table.specs.declared.Object.{Object}
use Rattle.rules_table.specs.declared.RawObject.{RawObject}
use Rattle.rules_table.specs.declared.Head.{Head}
use Rattle.rules_table.specs.Layout.{decoded}

-- the two halves of a word
abbrev pub low : ℕ → ℕ
low w = w % 4294967296

abbrev pub high : ℕ → ℕ
high w = w / 4294967296 % 4294967296

-- words in a row
abbrev pub four_at : List ℕ → ℕ → List ℕ
four_at h b = get_or h b 0 ∷ get_or h (b + 1) 0 ∷ get_or h (b + 2) 0 ∷ get_or h (b + 3) 0 ∷ []

abbrev pub eight_at : List ℕ → ℕ → List ℕ
eight_at h b = get_or h b 0 ∷ get_or h (b + 1) 0 ∷ get_or h (b + 2) 0 ∷ get_or h (b + 3) 0 ∷ get_or h (b + 4) 0 ∷ get_or h (b + 5) 0 ∷ get_or h (b + 6) 0 ∷ get_or h (b + 7) 0 ∷ []

-- the record whose words begin at b
abbrev pub raw_at : List ℕ → ℕ → RawObject
raw_at h b = record {
  kind = low (get_or h b 0);
  home = high (get_or h b 0);
  bitmap = get_or h (b + 1) 0;
  reserves = low (get_or h (b + 2) 0);
  allows = high (get_or h (b + 2) 0);
  starts = four_at h (b + 3);
  lasts = four_at h (b + 7);
  froms = eight_at h (b + 11);
  ends = eight_at h (b + 19);
}

-- n records from slot i on
unfoldable pub raws_from : List ℕ → ℕ → ℕ → List RawObject
raws_from h i zero = []
raws_from h i (suc n) = raw_at h (27 * i + 1) ∷ raws_from h (suc i) n

-- the head that the words are, and its objects
unfoldable pub head_in : List ℕ → Head
head_in h = record { limit = get_or h 0 0; objects = raws_from h 0 object_count }

abbrev pub objects_in : List ℕ → List Object
objects_in h = map decoded (head_in h).objects

-- ---- examples

-- a limit of 4; record 0 is a device at home in space 2 with a page of 4,096, one reserved range, no allow list
abbrev words : List ℕ
words = 4 ∷ (3 + 4294967296 * 2) ∷ 4096 ∷ 1 ∷ 0xFEE00000 ∷ 0 ∷ 0 ∷ 0 ∷ 0xFEEFFFFF ∷ 0 ∷ 0 ∷ 0 ∷ replicate 853 0

first-record : raw_at words 1 ≡ record { kind = 3; home = 2; bitmap = 4096; reserves = 1; allows = 0; starts = 0xFEE00000 ∷ 0 ∷ 0 ∷ 0 ∷ []; lasts = 0xFEEFFFFF ∷ 0 ∷ 0 ∷ 0 ∷ []; froms = replicate 8 0; ends = replicate 8 0 }
first-record = refl

-- the next one is released
next-record : ((head_in words).limit ∷ (raw_at words 28).kind ∷ (raw_at words 28).bitmap ∷ []) ≡ (4 ∷ 0 ∷ 0 ∷ [])
unfolding head_in
next-record = refl
