-- Jumps, one after another: the tests of one range, a pass over all of them, and how many ranges are left behind.
use Prim.Native.Nat.{ℕ, zero, suc, ◌+◌, ◌-◌, ◌≤◌, ◌<◌, zero-le, min}
use Rattle.std.proofs.Math.Path.{◌≡◌, sym, subst}
use Rattle.std.specs.Prelude.{refl, Bool, not, ◌&&◌, ltb, eqb, length, get_or, drop, Option, None, Some}
use Rattle.std.proofs.Common.{ap, ◌∙◌, le_of_suc-le-suc, not-suc-le-zero, arith}
use Rattle.std.proofs.Math.Bool.{true, false}
use mathlib.Core.List.{List, [], ◌∷◌}
use Rattle.std.proofs.Math.Dec.{leb}
use borrow.Author.Tests.{leb-true, le-leb, lt-leb, le-ltb, ltb-true, ltb-false, eq-eqb, ne_eqb, not-true, not-false}
use Rattle.lists.specs.Tests.{by-test, same_test, and_left, and_right, and_both, and_not_right, only_if, only_if-mono}
use Rattle.lists.specs.Search.{any, any-false_at, any-on, any-end}
use Rattle.lists.specs.Each.{Each-of}
use Rattle.lists.specs.Sums.{sum_of, sum_of-le, count_of, count_of-length}
use Rattle.ranges.specs.declared.Range.{Range}
use Rattle.ranges.specs.Ranges.{U64MAX, share, inside, passes, passes-false, last_of, span}
use Rattle.ranges.proofs.Spans.{last_of-fits}
use Rattle.alignment.specs.Multiples.{multiple, round_up, Lowest, MultipleFrom, lowest_multiple, lowest-is}
use Rattle.rangelists.specs.Listed.{zero_range}
use Rattle.placement.specs.Lowest.{touch_reaches, touch_ends}
use Rattle.placement.specs.Jumps.{past_of, jumps_to, ending, Free, Onward, Never, Swept, room_at, lower_of}

-- ---- a number from 2^64 on has no multiple below 2^64

pub lowest_none : (a x : ℕ) → 0x1_0000_0000_0000_0000 ≤ x → lowest_multiple a x ≡ None
unfolding lowest_multiple round_up
lowest_none a x h =
    rw (and_not_right (multiple a (round_up a x)) (ltb (round_up a x) 0x1_0000_0000_0000_0000) (le-ltb (round_up a x) 0x1_0000_0000_0000_0000 (omega arith)))

-- ---- the branches of `past` and `jumps_to`, whether there is room, and the lower of two places

module _ (a n x : ℕ) (q r : Range) (e : r ≡ span x n) (t : Bool) (f : t ≡ share r q) where
  touched : (b : Bool) → t ≡ b → share (span x n) q ≡ b
  touched b g = ap (λ (r : Range). share r q) (sym e) ∙ sym f ∙ g

  pub past-here : not t ≡ true → Some x ≡ past_of a n x q
  unfolding past_of
  past-here g = rw (touched false (not-true t g))

  pub past_end : not t ≡ false → q.last ≡ U64MAX → None ≡ past_of a n x q
  unfolding past_of
  past_end g h = rw (touched true (not-false t g)) (sym (lowest_none a (q.last + 1) (omega arith)))

  pub past-on : (s : Option ℕ) → not t ≡ false → s ≡ lowest_multiple a (q.last + 1) → s ≡ past_of a n x q
  unfolding past_of
  past-on s g h = rw (touched true (not-false t g)) h

module _ (x y : ℕ) where
  pub jumps_none : x ≡ y → 0 ≡ jumps_to x y
  unfolding jumps_to
  jumps_none e = rw (eq-eqb x y e)

  pub jumps_one : (x ≡ y → ⊥) → 1 ≡ jumps_to x y
  unfolding jumps_to
  jumps_one e = rw (ne_eqb x y e)

  pub jumps_most : jumps_to x y ≤ 1
  unfolding jumps_to
  jumps_most = by-test (eqb x y) (λ t. rw t (omega arith)) (λ t. rw t (omega arith))

-- the last of the bytes is past that of the window, or it is not
module _ (n x : ℕ) (w : Range) where
  fits : x + (n - 1) ≤ U64MAX → passes x n ≡ false
  unfolding passes
  fits h = le-ltb U64MAX (x + (n - 1)) h

  pub room-over : w.last < x + (n - 1) → false ≡ room_at n x w
  unfolding room_at inside span
  room-over h =
      sym (by-test (passes x n)
      (λ e. rw e)
      (λ e. and_not_right (not (passes x n)) (inside (span x n) w) (and_not_right (leb w.start x) (leb (last_of x n) w.last) (lt-leb (last_of x n) w.last (omega (arith, h, last_of-fits x n e))))))

  pub room_within : x + (n - 1) ≤ w.last → w.last ≤ U64MAX → leb w.start x ≡ room_at n x w
  unfolding room_at inside span
  room_within h k =
      let p = fits (omega (arith, h, k)) in
      let l = le-leb (last_of x n) w.last (omega (arith, h, last_of-fits x n p)) in
      same_test (leb w.start x) (not (passes x n) && inside (span x n) w)
      (λ t. and_both (not (passes x n)) (inside (span x n) w) (rw p) (and_both (leb w.start x) (leb (last_of x n) w.last) t l))
      (λ t. and_left (leb w.start x) (leb (last_of x n) w.last) (and_right (not (passes x n)) (inside (span x n) w) t))

module _ (r s : Option ℕ) where
  pub lower-first : (x : ℕ) → r ≡ Some x → s ≡ None → Some x ≡ lower_of r s
  lower-first x e f = rw (e, f)

  pub lower-both : (x y m : ℕ) → r ≡ Some x → s ≡ Some y → m ≡ min x y → Some m ≡ lower_of r s
  lower-both x y m e f g = rw (e, f, g)

-- ---- how many ranges still end at a place or above it

module _ {A : Type 0} (p q : A → Bool) (h : (x : A) → p x ≡ true → q x ≡ true) where
  count_of-mono : (xs : List A) → count_of p xs ≤ count_of q xs
  unfolding count_of
  count_of-mono xs = sum_of-le (λ x. only_if (p x) 1) (λ x. only_if (q x) 1) xs (Each-of _ xs (λ x. only_if-mono (p x) (q x) 1 (h x)))

  -- some element passes only the second
  count_of-less : (xs : List A) (d : A) (i : ℕ) → i < length xs → p (get_or xs i d) ≡ false → q (get_or xs i d) ≡ true → count_of p xs < count_of q xs
  unfolding count_of sum_of
  count_of-less [] d i l e f = absurd (not-suc-le-zero l)
  count_of-less (x ∷ xs) d zero l e f = rw (e, f) (omega (arith, count_of-mono xs))
  count_of-less (x ∷ xs) d (suc i) l e f = omega (arith, only_if-mono (p x) (q x) 1 (h x), count_of-less xs d i (le_of_suc-le-suc l) e f)

module _ (rs : List Range) (x y : ℕ) (h : x ≤ y) where
  later : (r : Range) → leb y r.last ≡ true → leb x r.last ≡ true
  later r e = le-leb x r.last (omega (arith, leb-true y r.last e))

  ending-less : (d : Range) (i : ℕ) → i < length rs → x ≤ (get_or rs i d).last → (get_or rs i d).last < y → ending y rs < ending x rs
  unfolding ending
  ending-less d i l e f =
      count_of-less (λ (r : Range). leb y r.last) (λ (r : Range). leb x r.last) later rs d i l (lt-leb y (get_or rs i d).last f)
      (le-leb x (get_or rs i d).last e)

pub ending-most : (x : ℕ) (rs : List Range) → ending x rs ≤ length rs
unfolding ending
ending-most x rs = count_of-length (λ (r : Range). leb x r.last) rs

-- ---- one jump after another

module _ (a n : ℕ) (rs : List Range) where
  pub onward-here : (x : ℕ) → x < 0x1_0000_0000_0000_0000 → Onward a n rs x x 0
  onward-here x h = record { from = omega arith; below = h; exact = λ e. e; least = λ z f k. k; fewer = omega arith }

  pub onward_then : (x y z j k : ℕ) → Onward a n rs x y j → Onward a n rs y z k → Onward a n rs x z (j + k)
  onward_then x y z j k o p = record {
    from = omega (arith, o.from, p.from);
    below = p.below;
    exact = λ e. p.exact (o.exact e);
    least = λ v f h. p.least v f (o.least v f h);
    fewer = omega (arith, o.fewer, p.fewer);
  }

  pub onward-never : (x y j k : ℕ) → Onward a n rs x y j → Never a n rs y k → Never a n rs x (j + k)
  onward-never x y j k o p = record { none = λ v f h. p.none v f (o.least v f h); fewer = omega (arith, o.fewer, p.fewer) }

-- ---- the range at place i, where the search stands at x

module _ (a n : ℕ) (rs : List Range) (d : Range) (i x : ℕ) (l : i < length rs) where
  -- a free place from x on lies past a range that x touches
  free-past : share (span x n) (get_or rs i d) ≡ true → (z : ℕ) → Free a n rs z → x ≤ z → MultipleFrom a ((get_or rs i d).last + 1) z
  free-past e z f h =
      let p = touch_ends n x (get_or rs i d) e z h f.ends (any-false_at (share (span z n)) rs d i l f.clear) in
      record { exact = f.exact; from = omega arith; below = omega (arith, passes-false z n f.ends) }

  pub past-free : past_of a n x (get_or rs i d) ≡ None → Never a n rs x 0
  unfolding past_of
  past-free e = record {
    none = λ z f h.
        by-test (share (span x n) (get_or rs i d))
        (λ t.
        let m = free-past t z f h in
        let s : lowest_multiple a ((get_or rs i d).last + 1) ≡ None = sym (rw t) ∙ e in
        subst (Lowest (MultipleFrom a ((get_or rs i d).last + 1))) s (lowest-is a ((get_or rs i d).last + 1) (omega (arith, m.from, m.below))) z m)
        (λ t. let s : Some x ≡ None = sym (rw t) ∙ e in let z : ◌≡◌ {A = ℕ} 0 1 = cc in absurd (omega arith));
    fewer = zero-le;
  }

  module _ (y : ℕ) (b : x < 0x1_0000_0000_0000_0000) (e : past_of a n x (get_or rs i d) ≡ Some y) where
    -- x touches it: y is the lowest multiple past it
    past-jump : share (span x n) (get_or rs i d) ≡ true → Lowest (MultipleFrom a ((get_or rs i d).last + 1)) (Some y)
    unfolding past_of
    past-jump t =
        let s : lowest_multiple a ((get_or rs i d).last + 1) ≡ Some y = sym (rw t) ∙ e in
        by-test (ltb ((get_or rs i d).last + 1) 0x1_0000_0000_0000_0000)
        (λ u. subst (Lowest (MultipleFrom a ((get_or rs i d).last + 1))) s (lowest-is a ((get_or rs i d).last + 1) (ltb-true ((get_or rs i d).last + 1) 0x1_0000_0000_0000_0000 u)))
        (λ u. let w = lowest_none a ((get_or rs i d).last + 1) (ltb-false ((get_or rs i d).last + 1) 0x1_0000_0000_0000_0000 u) in let z : ◌≡◌ {A = ℕ} 0 1 = cc in absurd (omega arith))

    past-stay : share (span x n) (get_or rs i d) ≡ false → y ≡ x
    unfolding past_of
    past-stay t = let s : Some x ≡ Some y = sym (rw t) ∙ e in cc

    past-above : share (span x n) (get_or rs i d) ≡ true → x < y
    past-above t = omega (arith, (past-jump t).0.from, touch_reaches n x (get_or rs i d) t)

    pub past-onward : Onward a n rs x y (jumps_to x y)
    past-onward =
        by-test (share (span x n) (get_or rs i d))
        (λ t.
        let m = past-jump t in
        let h = past-above t in
        let r = touch_reaches n x (get_or rs i d) t in
        record {
          from = omega arith;
          below = m.0.below;
          exact = λ q. m.0.exact;
          least = λ z f k. m.1 z (free-past t z f k);
          fewer = omega (arith, jumps_one x y (λ q. omega (arith, q)), ending-less rs x y (omega arith) d i l r (omega (arith, m.0.from)));
        })
        (λ t. let s = past-stay t in rw (s, ← jumps_none x x refl) (onward-here a n rs x b))

    pub past-still : y ≡ x → share (span x n) (get_or rs i d) ≡ false
    past-still s = by-test (share (span x n) (get_or rs i d)) (λ t. let h = past-above t in absurd (omega arith)) (λ t. t)

-- ---- a pass over a list, at place i

-- from `from` to x by so many jumps. Where it has not moved, what is left of the ranges tells whether any is touched
pub record Sweeping (a size : ℕ) (rs : List Range) (from x jumps i : ℕ) : Type 0 where
  pub onward : Onward a size rs from x jumps
  pub still : x ≡ from → any (share (span from size)) (drop i rs) ≡ any (share (span from size)) rs

pub sweep_start : (a size : ℕ) (rs : List Range) (from : ℕ) → from < 0x1_0000_0000_0000_0000 → Sweeping a size rs from from 0 0
sweep_start a size rs from h = record { onward = onward-here a size rs from h; still = λ e. refl }

module _ (a size : ℕ) (rs : List Range) (from x jumps i : ℕ) (v : Sweeping a size rs from x jumps i) where
  pub sweep_small : jumps ≤ length rs
  sweep_small = omega (arith, v.onward.fewer, ending-most from rs)

  module _ (h : i < length rs) where
    pub sweep_never : past_of a size x (get_or rs i zero_range) ≡ None → Never a size rs from jumps
    sweep_never f = let z : jumps + 0 ≡ jumps = omega arith in rw (← z) (onward-never a size rs from x jumps 0 v.onward (past-free a size rs zero_range i x h f))

    pub sweep_on : (y : ℕ) → past_of a size x (get_or rs i zero_range) ≡ Some y → Sweeping a size rs from y (jumps + jumps_to x y) (i + 1)
    sweep_on y f = record {
      onward = onward_then a size rs from x y jumps (jumps_to x y) v.onward step;
      still = λ q.
          let k : y ≡ x = omega (arith, v.onward.from, step.from) in
          let m : x ≡ from = omega (arith, k, q) in
          any-on (share (span from size)) rs i (v.still m) zero_range h
          (subst (λ (u : ℕ). share (span u size) (get_or rs i zero_range) ≡ false) m (past-still a size rs zero_range i x h y v.onward.below f k));
    }
      where
        step : Onward a size rs x y (jumps_to x y)
        step = past-onward a size rs zero_range i x h y v.onward.below f

  pub sweep_end : length rs ≤ i → Swept a size rs from (Some x) jumps
  sweep_end h = (v.onward, λ e. sym (any-end (share (span from size)) rs i (v.still e) h))
