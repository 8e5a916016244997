-- A list of ranges as the records hold it (document 01, "Table"): arrays of starts and lasts with a count, and what the rules ask of such a list.
use Prim.Native.Nat.{ℕ, zero, suc, ◌+◌, ◌≤◌, ◌<◌, min}
use Rattle.std.specs.Prelude.{◌≡◌, refl, Bool, true, false, List, [], ◌∷◌, leb, length, get_or, replicate, take, drop, Option, None, Some, is_some}
use Rattle.std.proofs.Common.{sym, ap, ◌∙◌, le_of_suc-le-suc, not-suc-le-zero}
use native.Mathlib.Omega.{arith}
use Rattle.std.proofs.Math.ListN.{length-take}
use Rattle.std.proofs.Math.Seq.{get_or-take}
use Rattle.lists.specs.Search.{any, all, seek, seek-none, seek-any_false, seek-some_at, seek-some_before}
use Rattle.lists.specs.Pairs.{clashes, clashes-false_at, clashes-slot}
use Rattle.ranges.specs.declared.Range.{Range}
use Rattle.ranges.specs.Ranges.{range, holds, share, share-address, share-false}
use Rattle.rangelists.specs.declared.RangeList.{RangeList}

-- the ranges of an array of starts and an array of lasts, place by place
unfoldable pub places : List ℕ → List ℕ → List Range
places [] ls = []
places (s ∷ ss) [] = []
places (s ∷ ss) (l ∷ ls) = range s l ∷ places ss ls

-- the first n of them
unfoldable pub listed : ℕ → List ℕ → List ℕ → List Range
listed n ss ls = take n (places ss ls)

-- a list of at most n ranges: those in use, in the order given
unfoldable pub ranges_in : {n : ℕ} → RangeList n → List Range
ranges_in {n} l = listed (min l.count n) l.starts l.lasts

-- an empty one, with all its places zero
abbrev pub no_ranges : (n : ℕ) → RangeList n
no_ranges n = record { count = 0; starts = replicate n 0; lasts = replicate n 0 }

-- a device's reserved ranges, and a space's allow list
abbrev pub Reserved : Type 0
Reserved = RangeList 4

abbrev pub Allowed : Type 0
Allowed = RangeList 8

abbrev pub reserved : Reserved → List Range
reserved l = ranges_in l

abbrev pub allowed : Allowed → List Range
allowed l = ranges_in l

-- what past the end of such a list is read
abbrev pub zero_range : Range
zero_range = range 0 0

length-places : (n : ℕ) (ss ls : List ℕ) → n ≤ length ss → n ≤ length ls → n ≤ length (places ss ls)
unfolding places
length-places zero ss ls h k = omega arith
length-places (suc n) [] ls h k = h
length-places (suc n) (s ∷ ss) [] h k = k
length-places (suc n) (s ∷ ss) (l ∷ ls) h k = omega (arith, length-places n ss ls (le_of_suc-le-suc h) (le_of_suc-le-suc k))

get_d_places : (i : ℕ) (ss ls : List ℕ) → i < length ss → i < length ls → get_or (places ss ls) i zero_range ≡ range (get_or ss i 0) (get_or ls i 0)
unfolding places
get_d_places i [] ls h k = absurd (not-suc-le-zero h)
get_d_places i (s ∷ ss) [] h k = absurd (not-suc-le-zero k)
get_d_places zero (s ∷ ss) (l ∷ ls) h k = refl
get_d_places (suc i) (s ∷ ss) (l ∷ ls) h k = get_d_places i ss ls (le_of_suc-le-suc h) (le_of_suc-le-suc k)

module _ (n : ℕ) (ss ls : List ℕ) (hs : n ≤ length ss) (hl : n ≤ length ls) where
  pub length-listed : length (listed n ss ls) ≡ n
  unfolding listed
  length-listed = length-take n (places ss ls) ∙ (let h = length-places n ss ls hs hl in let e : min n (length (places ss ls)) ≡ n = omega arith in e)

  pub get_d_listed : (i : ℕ) → i < n → get_or (listed n ss ls) i zero_range ≡ range (get_or ss i 0) (get_or ls i 0)
  unfolding listed
  get_d_listed i h = get_or-take n (places ss ls) i zero_range h ∙ get_d_places i ss ls (omega arith) (omega arith)

-- ---- the first place whose range shares an address with r

-- from a place on
unfoldable pub touched_from : Range → ℕ → List Range → Option ℕ
touched_from r i rs = seek (share r) i (drop i rs)

unfoldable pub first_touched : Range → List Range → Option ℕ
first_touched r rs = touched_from r 0 rs

-- something is found exactly if some range shares an address with r
pub touched_from-any : (r : Range) (i : ℕ) (rs : List Range) → is_some (touched_from r i rs) ≡ any (share r) (drop i rs)
unfolding touched_from
touched_from-any r i rs = go (seek (share r) i (drop i rs)) (any (share r) (drop i rs)) refl refl
  where
    go : (o : Option ℕ) (b : Bool) → seek (share r) i (drop i rs) ≡ o → any (share r) (drop i rs) ≡ b → is_some o ≡ any (share r) (drop i rs)
    go None b e f = sym (seek-none (share r) i (drop i rs) e)
    go (Some n) true e f = sym f
    go (Some n) false e f = let g = seek-any_false (share r) i (drop i rs) f in let z : ◌≡◌ {A = ℕ} 0 1 = cc in absurd (omega arith)

pub first_touched-any : (r : Range) (rs : List Range) → is_some (first_touched r rs) ≡ any (share r) rs
unfolding first_touched
first_touched-any r rs = touched_from-any r 0 rs

-- the range at the place found shares an address with r, and none before it does
pub first_touched-at : (r : Range) (rs : List Range) (i : ℕ) → first_touched r rs ≡ Some i → share r (get_or rs i zero_range) ≡ true
unfolding first_touched touched_from
first_touched-at r rs i e = seek-some_at (share r) 0 rs zero_range i (e ∙ ap Some (zero_plus i))
  where
    zero_plus : (i : ℕ) → i ≡ 0 + i
    zero_plus i = omega arith

pub first_touched-before : (r : Range) (rs : List Range) (i j : ℕ) → first_touched r rs ≡ Some i → j < i → share r (get_or rs j zero_range) ≡ false
unfolding first_touched touched_from
first_touched-before r rs i j e h = seek-some_before (share r) 0 rs zero_range i j e (omega arith)

-- each start is at most its last
unfoldable pub ordered : Range → Bool
ordered r = leb r.start r.last

unfoldable pub valid : List Range → Bool
valid rs = all ordered rs

-- some two share an address
unfoldable pub overlap : List Range → Bool
overlap rs = clashes share rs

pub overlap-false : (rs : List Range) (i j a : ℕ) → overlap rs ≡ false → i < j → j < length rs → holds (get_or rs i zero_range) a ≡ true → holds (get_or rs j zero_range) a ≡ true → ⊥
unfolding overlap
overlap-false rs i j a e h k = share-false (get_or rs i zero_range) (get_or rs j zero_range) a (clashes-false_at share rs zero_range i j h k e)

pub overlap-true : (rs : List Range) → overlap rs ≡ true
    → (i : ℕ) × (j : ℕ) × (i < j) × (j < length rs) × ((a : ℕ) × (holds (get_or rs i zero_range) a ≡ true) × (holds (get_or rs j zero_range) a ≡ true))
unfolding overlap
overlap-true rs e = let w = clashes-slot share rs zero_range e in (w.0, w.1, w.2, w.3, share-address (get_or rs w.0 zero_range) (get_or rs w.1 zero_range) w.4)
