-- Lists of objects whose devices of space s weigh the same: the same reserved addresses, so the same free ranges, and the same alignment.
use Rattle.std.specs.Prelude.{ℕ, ◌≤◌, ◌≡◌, Bool, true, false, ◌&&◌, cond}
use Rattle.std.proofs.Math.Path.{refl}
use Rattle.std.proofs.Common.{sym, ap, ◌∙◌, arith}
use mathlib.Core.List.{List, [], ◌∷◌}
use Rattle.std.proofs.Math.Dec.{ltb}
use borrow.Author.Tests.{ltb-false, le-ltb}
use Rattle.lists.specs.Tests.{only_if, only_if-and, or_not_left, or_not_right, or_neither}
use Rattle.lists.specs.Search.{any, any-cong, any-nil}
use Rattle.lists.specs.Each.{Each-of}
use Rattle.lists.specs.Sums.{sum_of-cong, count_of, count_of-any}
use Rattle.ranges.specs.declared.Range.{Range}
use Rattle.ranges.specs.Ranges.{share, holds}
use Rattle.alignment.specs.Pages.{smallest_page}
use Rattle.alignment.specs.Highest.{highest}
use Rattle.rangelists.specs.Listed.{reserved}
use Rattle.freeranges.proofs.Free.{free-same}
use Rattle.rules_table.specs.declared.Object.{Object}
use Rattle.rules_table.specs.Records.{attached_to}
use Rattle.rules_table.specs.Spaces.{page_for, alignment, reserved_for, reserved_of}
use Rattle.table.specs.Aligned.{alignment-pos, any-reserved_of}
use Rattle.rules_table.specs.Good.{lists_touch}
use Rattle.rules_calls.specs.Ranges.{free_of}
use Rattle.rules_history.specs.Alike.{devices_weigh}

-- how many devices of the space pass a test of their page sizes and ranges
count-weigh : (p : ℕ → List Range → Bool) (s : ℕ) (os : List Object)
    → count_of (λ o. attached_to s o.kind && p o.bitmap (reserved o.reserved)) os ≡ devices_weigh (λ b rs. only_if (p b rs) 1) s os
unfolding count_of devices_weigh
count-weigh p s os =
    sum_of-cong (λ o. only_if (attached_to s o.kind && p o.bitmap (reserved o.reserved)) 1)
    (λ o. only_if (attached_to s o.kind) (only_if (p o.bitmap (reserved o.reserved)) 1)) os
    (Each-of _ os (λ o. sym (only_if-and (attached_to s o.kind) (p o.bitmap (reserved o.reserved)) 1)))

-- some range that an object reserves in the space passes
reserved-test : (p : Range → Bool) (s : ℕ) (o : Object) → any p (reserved_for s o) ≡ (attached_to s o.kind && any p (reserved o.reserved))
unfolding reserved_for
reserved-test p s o = go (attached_to s o.kind)
  where
    go : (b : Bool) → any p (cond b (reserved o.reserved) []) ≡ (b && any p (reserved o.reserved))
    go true = refl
    go false = any-nil p

-- from 1 on, only a device of the space asks for more
page-test : (n s : ℕ) (o : Object) → 1 ≤ n → ltb n (page_for s o) ≡ (attached_to s o.kind && ltb n (smallest_page o.bitmap))
unfolding page_for
page-test n s o h = go (attached_to s o.kind)
  where
    go : (b : Bool) → ltb n (cond b (smallest_page o.bitmap) 1) ≡ (b && ltb n (smallest_page o.bitmap))
    go true = refl
    go false = le-ltb n 1 h

-- the highest is at most n exactly if none is above n
module _ {A : Type 0} (f : A → ℕ) (n : ℕ) where
  none_above : (xs : List A) → highest f xs ≤ n → any (λ x. ltb n (f x)) xs ≡ false
  unfolding highest any
  none_above [] h = refl
  none_above (x ∷ xs) h = or_neither (ltb n (f x)) (any (λ x. ltb n (f x)) xs) (le-ltb n (f x) (omega arith)) (none_above xs (omega arith))

  highest-below : (xs : List A) → 1 ≤ n → any (λ x. ltb n (f x)) xs ≡ false → highest f xs ≤ n
  unfolding highest any
  highest-below [] h e = h
  highest-below (x ∷ xs) h e =
      let a : f x ≤ n = ltb-false n (f x) (or_not_left (ltb n (f x)) (any (λ x. ltb n (f x)) xs) e) in
      omega (arith, a, highest-below xs h (or_not_right (ltb n (f x)) (any (λ x. ltb n (f x)) xs) e))

-- a list that asks nothing above what the other asks
alignment-most : (os qs : List Object) (s : ℕ) → ((n : ℕ) → 1 ≤ n → any (λ o. ltb n (page_for s o)) os ≡ any (λ o. ltb n (page_for s o)) qs) → alignment os s ≤ alignment qs s
unfolding alignment
alignment-most os qs s h =
    highest-below (page_for s) (highest (page_for s) qs) os (alignment-pos qs s)
    (h (highest (page_for s) qs) (alignment-pos qs s) ∙ none_above (page_for s) (highest (page_for s) qs) qs (omega arith))

module _ (s : ℕ) (os qs : List Object) (h : (w : ℕ → List Range → ℕ) → devices_weigh w s os ≡ devices_weigh w s qs) where
  -- THE LAW: a test of some device of the space
  pub any-device : (p : ℕ → List Range → Bool)
      → any (λ o. attached_to s o.kind && p o.bitmap (reserved o.reserved)) os ≡ any (λ o. attached_to s o.kind && p o.bitmap (reserved o.reserved)) qs
  any-device p =
      sym (count_of-any (λ o. attached_to s o.kind && p o.bitmap (reserved o.reserved)) os)
      ∙ ap (ltb 0) (count-weigh p s os ∙ h (λ b rs. only_if (p b rs) 1) ∙ sym (count-weigh p s qs))
      ∙ count_of-any (λ o. attached_to s o.kind && p o.bitmap (reserved o.reserved)) qs

  -- so one of some reserved range
  pub any-reserved : (p : Range → Bool) → any p (reserved_of os s) ≡ any p (reserved_of qs s)
  any-reserved p = tested os ∙ any-device (λ b rs. any p rs) ∙ sym (tested qs)
    where
      tested : (ls : List Object) → any p (reserved_of ls s) ≡ any (λ o. attached_to s o.kind && any p (reserved o.reserved)) ls
      tested ls = any-reserved_of p ls s ∙ any-cong (λ o. any p (reserved_for s o)) (λ o. attached_to s o.kind && any p (reserved o.reserved)) ls (reserved-test p s)

  pub touch_alike : (ls : List Range) → lists_touch (reserved_of os s) ls ≡ lists_touch (reserved_of qs s) ls
  unfolding lists_touch
  touch_alike ls = any-reserved (λ r. any (share r) ls)

  pub free_ranges-alike : free_of os s ≡ free_of qs s
  unfolding free_of
  free_ranges-alike = free-same (reserved_of os s) (reserved_of qs s) (λ a. any-reserved (λ r. holds r a))

  pages-alike : (n : ℕ) → 1 ≤ n → any (λ o. ltb n (page_for s o)) os ≡ any (λ o. ltb n (page_for s o)) qs
  pages-alike n k = tested os ∙ any-device (λ b rs. ltb n (smallest_page b)) ∙ sym (tested qs)
    where
      tested : (ls : List Object) → any (λ o. ltb n (page_for s o)) ls ≡ any (λ o. attached_to s o.kind && ltb n (smallest_page o.bitmap)) ls
      tested ls = any-cong (λ o. ltb n (page_for s o)) (λ o. attached_to s o.kind && ltb n (smallest_page o.bitmap)) ls (λ o. page-test n s o k)

  pub alignment-alike : alignment os s ≡ alignment qs s
  alignment-alike = omega (arith, alignment-most os qs s pages-alike, alignment-most qs os s (λ n k. sym (pages-alike n k)))
