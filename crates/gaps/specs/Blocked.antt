-- What blocks a place of a space, and that it is the same seen through the index: the order in which the mappings are listed plays no part, nor do records that are not listed.
use Rattle.std.specs.Prelude.{ℕ, ◌+◌, ◌<◌, ◌≡◌, refl, Bool, true, ◌||◌, List, [], ◌∷◌, map, length, take, Option, None, Some}
use Rattle.std.proofs.Common.{sym, ap, ◌∙◌, arith, length-append}
use Rattle.std.proofs.Math.Bool.{false}
use Rattle.std.proofs.lemmas.List.{length-map}
use Rattle.lists.specs.Tests.{by-test, contrary, or_left, or_other}
use Rattle.lists.specs.Search.{any, any_append}
use Rattle.lists.specs.Sums.{count_of, keep, any-keep}
use Rattle.lists.specs.Counting.{count_of-cons, count_of-nil}
use Rattle.lists.specs.Update.{any-map}
use Rattle.lists.specs.Each.{Each}
use Rattle.ranges.specs.declared.Range.{Range}
use Rattle.ranges.specs.Ranges.{share, inside, span}
use Rattle.alignment.specs.Multiples.{Lowest, lowest-unique}
use Rattle.rangelists.specs.Listed.{allowed}
use Rattle.placement.specs.Candidates.{permits, Candidate, place_of}
use Rattle.placement.specs.Lowest.{place-lowest}
use Rattle.rules_table.specs.declared.Object.{Object}
use Rattle.rules_table.specs.declared.Mapping.{Mapping}
use Rattle.rules_table.specs.Records.{object_at, of_space, extent, touches}
use Rattle.rules_table.specs.Spaces.{alignment, reserved_of}
use Rattle.rules_calls.specs.Landing.{blocked_in, lowest_tried, automatic}
use Rattle.rules_index.specs.Index.{mapping_at, view}
use Rattle.index.specs.Listing.{Lists, lists-any}
use Rattle.index.specs.Touched.{free-touches}
use Rattle.index.specs.Verdict.{unlisted}
use Rattle.index_search.specs.Indexed.{Indexed}

-- the blocked ranges are touched exactly where a reserved range or a mapping of the space is
pub any-blocked : (os : List Object) (ms : List Mapping) (s : ℕ) (r : Range) → any (share r) (blocked_in os ms s) ≡ (any (share r) (reserved_of os s) || any (touches s r) ms)
unfolding blocked_in touches
any-blocked os ms s r =
    any_append (share r) (reserved_of os s) (map extent (keep (of_space s) ms))
    ∙ ap (λ (b : Bool). any (share r) (reserved_of os s) || b) (any-map (share r) extent (keep (of_space s) ms) ∙ any-keep (λ m. share r (extent m)) (of_space s) ms)

length-keep : {A : Type 0} (p : A → Bool) (xs : List A) → length (keep p xs) ≡ count_of p xs
unfolding keep
length-keep p [] = sym (count_of-nil p)
length-keep p (x ∷ xs) =
    by-test (p x)
    (λ t. rw (count_of-cons p x xs, t) (omega (arith, length-keep p xs)))
    (λ t. rw (count_of-cons p x xs, t) (omega (arith, length-keep p xs)))

-- there are as many as reserved ranges and mappings of the space
pub blocked_length : (os : List Object) (ms : List Mapping) (s : ℕ) → length (blocked_in os ms s) ≡ length (reserved_of os s) + count_of (of_space s) ms
unfolding blocked_in
blocked_length os ms s =
    length-append (reserved_of os s) (map extent (keep (of_space s) ms))
    ∙ ap (λ (n : ℕ). length (reserved_of os s) + n) (length-map (keep (of_space s) ms) extent ∙ length-keep (of_space s) ms)

-- ---- one window as an allow list

module _ (w r : Range) where
  pub permits-one : inside r w ≡ true → permits (w ∷ []) r ≡ true
  unfolding permits any
  permits-one e = or_left (inside r w) false e

  pub permits-only : permits (w ∷ []) r ≡ true → inside r w ≡ true
  unfolding permits any
  permits-only e = by-test (inside r w) (λ t. t) (λ t. contrary false (or_other (inside r w) false e t) refl)

-- ---- the place depends on what is touched, and on nothing else

pub lowest-same : (P Q : ℕ → Type 0) → ((x : ℕ) → P x → Q x) → ((x : ℕ) → Q x → P x) → (r : Option ℕ) → Lowest P r → Lowest Q r
lowest-same P Q f g None h = λ y c. h y (g y c)
lowest-same P Q f g (Some x) h = (f x h.0, λ y c. h.1 y (g y c))

module _ (a n low : ℕ) (allow : List Range) where
  moved : (bs cs : List Range) → ((r : Range) → any (share r) bs ≡ any (share r) cs) → (x : ℕ) → Candidate a n low bs allow x → Candidate a n low cs allow x
  moved bs cs same x c = record { exact = c.exact; from = c.from; ends = c.ends; clear = sym (same (span x n)) ∙ c.clear; permitted = c.permitted }

  place_same : (bs cs : List Range) → ((r : Range) → any (share r) bs ≡ any (share r) cs) → place_of a n low bs allow ≡ place_of a n low cs allow
  place_same bs cs same =
      lowest-unique (Candidate a n low cs allow) (place_of a n low bs allow) (place_of a n low cs allow)
      (lowest-same (Candidate a n low bs allow) (Candidate a n low cs allow) (moved bs cs same) (moved cs bs (λ r. sym (same r))) (place_of a n low bs allow) (place-lowest a n low bs allow))
      (place-lowest a n low cs allow)

  module _ (os : List Object) (s : ℕ) (h : 0 < s) where
    -- THE LAW: the place beside what the index lists is the place beside the records
    pub gap_is : (xs : List ℕ) (ms : List Mapping) → Lists xs ms → place_of a n low (blocked_in os ms s) allow ≡ place_of a n low (blocked_in os (view xs ms) s) allow
    gap_is xs ms l =
        place_same (blocked_in os ms s) (blocked_in os (view xs ms) s)
        (λ r.
        any-blocked os ms s r
        ∙ ap (λ (b : Bool). any (share r) (reserved_of os s) || b) (sym (lists-any xs ms l (touches s r) (free-touches s r h)))
        ∙ sym (any-blocked os (view xs ms) s r))

    -- so records that are not listed play no part
    pub place-unlisted : (count : ℕ) (ix : List ℕ) (ms ns : List Mapping) → Indexed count ix ms → Indexed count ix ns → Each (λ r. mapping_at ms r ≡ mapping_at ns r) (take count ix)
        → place_of a n low (blocked_in os ms s) allow ≡ place_of a n low (blocked_in os ns s) allow
    place-unlisted count ix ms ns i j e =
        gap_is (take count ix) ms i.lists
        ∙ ap (λ (ls : List Mapping). place_of a n low (blocked_in os ls s) allow) (unlisted (take count ix) ms ns e)
        ∙ sym (gap_is (take count ix) ns j.lists)

-- nor in what MAP and COPY find
pub automatic-unlisted : (os : List Object) (s n : ℕ) → 0 < s → (count : ℕ) (ix : List ℕ) (ms ns : List Mapping) → Indexed count ix ms → Indexed count ix ns
    → Each (λ r. mapping_at ms r ≡ mapping_at ns r) (take count ix) → automatic os ms s n ≡ automatic os ns s n
unfolding automatic
automatic-unlisted os s n h = place-unlisted (alignment os s) n lowest_tried (allowed (object_at os s).allow) os s h
