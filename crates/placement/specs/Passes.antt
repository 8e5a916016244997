-- A pass over one list of ranges and then, from where it ended, over another is a pass over both; the jumps add up.
use Rattle.std.specs.Prelude.{ℕ, ◌+◌, ◌≤◌, ◌<◌, ◌≡◌, false, List, [], ◌∷◌, ◌++◌, leb, length, Option, None, Some}
use Rattle.std.proofs.Common.{sym, ◌∙◌, subst, arith, leb-true, le-leb}
use Rattle.lists.specs.Tests.{only_if, only_if-mono, or_not_left, or_not_right, or_neither}
use Rattle.lists.specs.Search.{any, any-nil, any-cons, any_append}
use Rattle.lists.specs.Each.{Each-of}
use Rattle.lists.specs.Sums.{sum_of-append, sum_of-le, count_of}
use Rattle.ranges.specs.declared.Range.{Range}
use Rattle.ranges.specs.Ranges.{share, span}
use Rattle.placement.specs.Jumps.{past_of, jumps_to, ending, Free, Onward, Never, Swept}
use Rattle.placement.specs.Sweeping.{ending-most, onward-here, onward_then, onward-never, past-free, past-onward, past-still}

pub ending-append : (x : ℕ) (xs ys : List Range) → ending x (xs ++ ys) ≡ ending x xs + ending x ys
unfolding ending count_of
ending-append x xs ys = sum_of-append (λ (r : Range). only_if (leb x r.last) 1) xs ys

pub ending-later : (x y : ℕ) (rs : List Range) → x ≤ y → ending y rs ≤ ending x rs
unfolding ending count_of
ending-later x y rs h =
    sum_of-le (λ (r : Range). only_if (leb y r.last) 1) (λ (r : Range). only_if (leb x r.last) 1) rs
    (Each-of _ rs (λ r. only_if-mono (leb y r.last) (leb x r.last) 1 (λ e. le-leb x r.last (omega (arith, leb-true y r.last e)))))

module _ (a n : ℕ) (xs ys : List Range) where
  free-left : (z : ℕ) → Free a n (xs ++ ys) z → Free a n xs z
  free-left z f = record {
    exact = f.exact;
    ends = f.ends;
    clear = or_not_left (any (share (span z n)) xs) (any (share (span z n)) ys) (sym (any_append (share (span z n)) xs ys) ∙ f.clear);
  }

  free-right : (z : ℕ) → Free a n (xs ++ ys) z → Free a n ys z
  free-right z f = record {
    exact = f.exact;
    ends = f.ends;
    clear = or_not_right (any (share (span z n)) xs) (any (share (span z n)) ys) (sym (any_append (share (span z n)) xs ys) ∙ f.clear);
  }

  onward-left : (x y j : ℕ) → Onward a n xs x y j → Onward a n (xs ++ ys) x y j
  onward-left x y j o = record {
    from = o.from;
    below = o.below;
    exact = o.exact;
    least = λ z f h. o.least z (free-left z f) h;
    fewer = omega (arith, o.fewer, ending-append x xs ys, ending-append y xs ys, ending-later x y ys o.from);
  }

  onward-right : (x y j : ℕ) → Onward a n ys x y j → Onward a n (xs ++ ys) x y j
  onward-right x y j o = record {
    from = o.from;
    below = o.below;
    exact = o.exact;
    least = λ z f h. o.least z (free-right z f) h;
    fewer = omega (arith, o.fewer, ending-append x xs ys, ending-append y xs ys, ending-later x y xs o.from);
  }

  never-right : (x j : ℕ) → Never a n ys x j → Never a n (xs ++ ys) x j
  never-right x j o = record { none = λ z f h. o.none z (free-right z f) h; fewer = omega (arith, o.fewer, ending-append x xs ys) }

  -- no free place is left: what comes after does not make one
  pub never-left : (x j : ℕ) → Never a n xs x j → Never a n (xs ++ ys) x j
  never-left x j o = record { none = λ z f h. o.none z (free-left z f) h; fewer = omega (arith, o.fewer, ending-append x xs ys) }

  -- THE LAW: on from where the first pass ended
  pub swept-then : (x y : ℕ) (s : Option ℕ) (j k : ℕ) → Swept a n xs x (Some y) j → Swept a n ys y s k → Swept a n (xs ++ ys) x s (j + k)
  swept-then x y None j k p q = onward-never a n (xs ++ ys) x y j k (onward-left x y j p.0) (never-right y k q)
  swept-then x y (Some z) j k p q = (
    onward_then a n (xs ++ ys) x y z j k (onward-left x y j p.0) (onward-right y z k q.0),
    λ e.
        let f : y ≡ x = omega (arith, e, p.0.from, q.0.from) in
        let g : z ≡ y = omega (arith, e, f) in
        any_append (share (span x n)) xs ys
        ∙ or_neither (any (share (span x n)) xs) (any (share (span x n)) ys) (p.1 f) (subst (λ (u : ℕ). any (share (span u n)) ys ≡ false) f (q.1 g)),
  )

-- a pass over nothing
pub swept-nil : (a n x : ℕ) → x < 0x1_0000_0000_0000_0000 → Swept a n [] x (Some x) 0
swept-nil a n x h = (onward-here a n [] x h, λ e. any-nil (share (span x n)))

-- a pass over one range
pub swept-one : (a n x : ℕ) (q : Range) (s : Option ℕ) → x < 0x1_0000_0000_0000_0000 → s ≡ past_of a n x q → (y : ℕ) → s ≡ Some y
    → Swept a n (q ∷ []) x (Some y) (jumps_to x y)
swept-one a n x q s h e y f = (
  past-onward a n (q ∷ []) q 0 x (omega arith) y h (sym e ∙ f),
  λ g.
      any-cons (share (span x n)) q []
      ∙ or_neither (share (span x n) q) (any (share (span x n)) []) (past-still a n (q ∷ []) q 0 x (omega arith) y h (sym e ∙ f) g)
      (any-nil (share (span x n))),
)

pub never-one : (a n x : ℕ) (q : Range) (s : Option ℕ) → s ≡ past_of a n x q → s ≡ None → Never a n (q ∷ []) x 0
never-one a n x q s e f = past-free a n (q ∷ []) q 0 x (omega arith) (sym e ∙ f)

-- there are at most as many jumps as ranges
pub swept-most : (a n : ℕ) (rs : List Range) (x : ℕ) (s : Option ℕ) (j : ℕ) → Swept a n rs x s j → j ≤ length rs
swept-most a n rs x None j p = omega (arith, p.fewer, ending-most x rs)
swept-most a n rs x (Some y) j p = omega (arith, p.0.fewer, ending-most x rs)
