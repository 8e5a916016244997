-- How many ranges there are: at most one more than are reserved, and no list of ranges that has the same addresses is shorter.
use Rattle.std.specs.Prelude.{ℕ, suc, ◌+◌, ◌-◌, ◌≤◌, ◌<◌, ◌≡◌, refl, true, false, ◌&&◌, not, List, [], ◌∷◌, ◌++◌, leb, ltb, length}
use Rattle.std.proofs.Common.{sym, ◌∙◌, append-nil, arith, leb-true, leb-false, le-leb, lt-ltb, le-ltb}
use Rattle.std.proofs.lemmas.Bool.{lt-leb}
use Rattle.lists.specs.Tests.{by-test, contrary, or_not_left, or_not_right, only_if, only_if-mono}
use Rattle.lists.specs.Search.{any}
use Rattle.lists.specs.Sums.{count_of, sum_of, count_of-length, sum_of-le}
use Rattle.lists.specs.Each.{Each-of}
use Rattle.ranges.specs.declared.Range.{Range}
use Rattle.ranges.specs.Ranges.{holds, holds-from, holds-upto, holds_of}
use Rattle.freeranges.specs.Free.{U64END, held, between, end_below, start_above, around, without, free_from, free_ranges, Spaced, held-nil, held_cons, none_below, past_first}
use Rattle.freeranges.proofs.Free.{spaced-free_from, free-has, free-spaced}

-- ---- at most one more than are reserved

between-length : (s e : ℕ) (rest : List Range) → length (between s e ++ rest) ≤ 1 + length rest
unfolding between
between-length s e rest = by-test (ltb s e) (λ t. rw t (omega arith)) (λ t. rw t (omega arith))

between_none : (s e : ℕ) (rest : List Range) → e ≤ s → between s e ++ rest ≡ rest
unfolding between
between_none s e rest h = rw (le-ltb s e h)

between-whole : (g : Range) (rest : List Range) → g.start ≤ g.last → between g.start (g.last + 1) ++ rest ≡ g ∷ rest
unfolding between
between-whole g rest h = let e : g.last + 1 - 1 ≡ g.last = omega arith in rw (lt-ltb g.start (g.last + 1) (omega arith), e)

-- a range that ends below all of them takes nothing out
around-below : (r : Range) → r.start ≤ r.last → (low : ℕ) (gs : List Range) → r.last < low → Spaced low gs → around r gs ≡ gs
unfolding around end_below start_above
around-below r ok low [] h s = refl
around-below r ok low (g ∷ gs) h s =
    let k : low ≤ g.start = s.0 in
    let m : start_above r g ≡ g.start = omega arith in
    rw (
      between_none g.start (end_below r g) (between (start_above r g) (g.last + 1) ++ around r gs) (omega arith),
      m,
      around-below r ok (g.last + 2) gs (omega arith) s.2,
    )
    (between-whole g gs s.1)

-- only the range that reaches over r's last is cut in two, and none behind it is touched
around-length : (r : Range) → r.start ≤ r.last → (low : ℕ) (gs : List Range) → Spaced low gs → length (around r gs) ≤ 1 + length gs
unfolding around end_below start_above
around-length r ok low [] s = omega arith
around-length r ok low (g ∷ gs) s =
    by-test (leb g.last r.last)
    (λ t. let h = leb-true g.last r.last t in
    rw (between_none (start_above r g) (g.last + 1) (around r gs) (omega arith))
    (omega (arith, between-length g.start (end_below r g) (around r gs), around-length r ok (g.last + 2) gs s.2)))
    (λ t. let h = leb-false g.last r.last t in
    rw (around-below r ok (g.last + 2) gs (omega arith) s.2)
    (omega (
      arith,
      between-length g.start (end_below r g) (between (start_above r g) (g.last + 1) ++ gs),
      between-length (start_above r g) (g.last + 1) gs,
    )))

free_from-length : (x : ℕ) (rs : List Range) → length (free_from x rs) ≤ 1 + length rs
unfolding free_from without
free_from-length x [] = rw (← append-nil (between x U64END)) (between-length x U64END [])
free_from-length x (r ∷ rs) =
    by-test (leb r.start r.last)
    (λ e. rw e (omega (arith, around-length r (leb-true r.start r.last e) x (free_from x rs) (spaced-free_from x rs), free_from-length x rs)))
    (λ e. rw e (omega (arith, free_from-length x rs)))

-- at most one more range than are reserved
pub free-length : (rs : List Range) → length (free_ranges rs) ≤ 1 + length rs
unfolding free_ranges
free-length rs = free_from-length 0 rs

-- ---- the fewest

-- how many of the ranges start at low or above
unfoldable starts_from : ℕ → List Range → ℕ
starts_from low gs = count_of (λ g. leb low g.start) gs

starts-all : (low : ℕ) (gs : List Range) → starts_from low gs ≤ length gs
unfolding starts_from
starts-all low gs = count_of-length (λ g. leb low g.start) gs

starts-cons : (low : ℕ) (g : Range) (gs : List Range) → starts_from low (g ∷ gs) ≡ only_if (leb low g.start) 1 + starts_from low gs
unfolding starts_from count_of sum_of
starts-cons low g gs = refl

module _ (low high : ℕ) (up : low ≤ high) where
  above : (g : Range) → only_if (leb high g.start) 1 ≤ only_if (leb low g.start) 1
  above g = only_if-mono (leb high g.start) (leb low g.start) 1 (λ t. let h = leb-true high g.start t in le-leb low g.start (omega arith))

  starts-above : (gs : List Range) → starts_from high gs ≤ starts_from low gs
  unfolding starts_from count_of
  starts-above gs = sum_of-le (λ g. only_if (leb high g.start) 1) (λ g. only_if (leb low g.start) 1) gs (Each-of (λ g. only_if (leb high g.start) 1 ≤ only_if (leb low g.start) 1) gs above)

  -- one that holds an address s between the two starts there, where none holds the address before low
  starts-between : (s : ℕ) → low ≤ s → s < high → (gs : List Range) → held gs s ≡ true → ((a : ℕ) → a + 1 ≡ low → held gs a ≡ false) → suc (starts_from high gs) ≤ starts_from low gs
  starts-between s p q [] h edge = contrary (held [] s) h (held-nil s)
  starts-between s p q (g ∷ gs) h edge =
      by-test (holds g s)
      (λ e. let k = holds-from g s e in
      let l = holds-upto g s e in
      let from : low ≤ g.start = by-test (leb low g.start)
      (λ t. leb-true low g.start t)
      (λ t. let u = leb-false low g.start t in
      contrary (holds g (low - 1)) (holds_of g (low - 1) (omega arith) (omega arith)) (or_not_left (holds g (low - 1)) (held gs (low - 1)) (sym (held_cons (low - 1) g gs) ∙ edge (low - 1) (omega arith)))) in
      let one : only_if (leb low g.start) 1 ≡ 1 = rw (le-leb low g.start from) in
      let none : only_if (leb high g.start) 1 ≡ 0 = rw (lt-leb high g.start (omega arith)) in
      omega (arith, one, none, starts-cons low g gs, starts-cons high g gs, starts-above gs))
      (λ e.
      omega (
        arith,
        above g,
        starts-cons low g gs,
        starts-cons high g gs,
        starts-between s p q gs (sym (rw (held_cons s g gs, e)) ∙ h) (λ a t. or_not_right (holds g a) (held gs a) (sym (held_cons a g gs) ∙ edge a t)),
      ))

-- each range of a spaced list takes one off
fewer : (low : ℕ) (xs gs : List Range) → Spaced low xs → ((a : ℕ) → low ≤ a → held gs a ≡ held xs a) → ((a : ℕ) → a + 1 ≡ low → held gs a ≡ false) → length xs ≤ starts_from low gs
fewer low [] gs s same edge = omega arith
fewer low (x ∷ xs) gs s same edge =
    let h : low ≤ x.start = s.0 in
    let k : x.start ≤ x.last = s.1 in
    let rest : length xs ≤ starts_from (x.last + 2) gs = fewer (x.last + 2) xs gs s.2
    (λ a p. same a (omega arith) ∙ past_first a x xs (omega arith))
    (λ a e. same a (omega arith) ∙ past_first a x xs (omega arith) ∙ none_below a (x.last + 2) xs s.2 (omega arith)) in
    let more : suc (starts_from (x.last + 2) gs) ≤ starts_from low gs = starts-between low (x.last + 2) (omega arith) x.start h (omega arith) gs
    (same x.start h ∙ rw (held_cons x.start x xs, holds_of x x.start (omega arith) k)) edge in
    omega arith

-- no list of ranges that has these addresses and no other is shorter
pub free-fewest : (rs gs : List Range) → ((a : ℕ) → any (λ g. holds g a) gs ≡ (ltb a U64END && not (any (λ r. holds r a) rs))) → length (free_ranges rs) ≤ length gs
free-fewest rs gs h =
    omega (arith, fewer 0 (free_ranges rs) gs (free-spaced rs) (λ a k. h a ∙ sym (free-has rs a)) (λ a e. absurd (omega arith)), starts-all 0 gs)
