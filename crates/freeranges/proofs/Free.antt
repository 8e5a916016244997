-- What is not reserved: the list has the addresses that nothing reserves, ascending, and no other such list has them.
use Rattle.std.specs.Prelude.{ℕ, suc, ◌+◌, ◌-◌, ◌≤◌, ◌<◌, ◌≡◌, Bool, ◌&&◌, ◌||◌, leb, ltb}
use Rattle.std.proofs.Math.Path.{refl, sym, ap}
use Rattle.std.proofs.Common.{◌∙◌, subst}
use Rattle.std.proofs.Math.Bool.{true, false, not}
use mathlib.Core.List.{List, [], ◌∷◌, ◌++◌, append-nil}
use native.Mathlib.Omega.{arith}
use borrow.Author.Tests.{leb-true, leb-false, le-leb, ltb-true, ltb-false}
use Rattle.lists.specs.Tests.{by-test, contrary, leb_and_iff, and_left, and_not_right, or_right}
use Rattle.lists.specs.Search.{any}
use Rattle.lists.specs.Each.{Each}
use Rattle.ranges.specs.declared.Range.{Range}
use Rattle.ranges.specs.Ranges.{range, holds, holds-from, holds-upto, holds_of}
use Rattle.freeranges.specs.Free.{U64END, held, between, end_below, start_above, around, without, free_from, free_ranges, Spaced, run, run-below, run_out, run-same, held-nil, held_cons, spaced-lower, same-ranges}

-- ---- which addresses

module _ (g : Range) (a : ℕ) where
  run_holds : holds g a ≡ run g.start (g.last + 1) a
  unfolding holds run
  run_holds = leb_and_iff g.start a a g.last g.start a (suc a) (g.last + 1) (λ h k. (omega arith, omega arith)) (λ h k. (omega arith, omega arith))

module _ (a : ℕ) where
  held-between : (s e : ℕ) (rest : List Range) → held (between s e ++ rest) a ≡ (run s e a || held rest a)
  unfolding between
  held-between s e rest =
      by-test (ltb s e)
      (λ t. let h = ltb-true s e t in let q : e - 1 + 1 ≡ e = omega arith in rw (t, held_cons a (range s (e - 1)) rest, run_holds (range s (e - 1)) a, q))
      (λ t. let h = ltb-false s e t in rw (t, run_out s e a (λ p q. omega arith)))

-- an address of r is in none of the parts around r, and any other is in them as it was before
module _ (r : Range) (ok : r.start ≤ r.last) (a : ℕ) where
  around-in : (gs : List Range) → holds r a ≡ true → held (around r gs) a ≡ false
  unfolding around end_below start_above
  around-in [] t = held-nil a
  around-in (g ∷ gs) t =
      let h = holds-from r a t in
      let k = holds-upto r a t in
      rw (
        held-between a g.start (end_below r g) (between (start_above r g) (g.last + 1) ++ around r gs),
        held-between a (start_above r g) (g.last + 1) (around r gs),
        run_out g.start (end_below r g) a (λ p q. omega arith),
        run_out (start_above r g) (g.last + 1) a (λ p q. omega arith),
      )
      (around-in gs t)

  -- a lies on one side of r
  side : (g : Range) → holds r a ≡ false → (b : Bool) → (run g.start (end_below r g) a || (run (start_above r g) (g.last + 1) a || b)) ≡ (holds g a || b)
  unfolding end_below start_above
  side g t b =
      by-test (leb r.start a)
      (λ e. let h = leb-true r.start a e in
      let k : r.last < a = by-test (leb a r.last) (λ u. contrary (holds r a) (holds_of r a h (leb-true a r.last u)) t) (λ u. leb-false a r.last u) in
      rw (
        run_out g.start (end_below r g) a (λ p q. omega arith),
        run_holds g a,
        run-same (start_above r g) (g.last + 1) g.start (g.last + 1) a (λ p q. (omega arith, q)) (λ p q. (omega arith, q)),
      ))
      (λ e. let h = leb-false r.start a e in
      rw (
        run_out (start_above r g) (g.last + 1) a (λ p q. omega arith),
        run_holds g a,
        run-same g.start (end_below r g) g.start (g.last + 1) a (λ p q. (p, omega arith)) (λ p q. (p, omega arith)),
      ))

  around-out : (gs : List Range) → holds r a ≡ false → held (around r gs) a ≡ held gs a
  unfolding around
  around-out [] t = refl
  around-out (g ∷ gs) t =
      rw (
        held-between a g.start (end_below r g) (between (start_above r g) (g.last + 1) ++ around r gs),
        held-between a (start_above r g) (g.last + 1) (around r gs),
        around-out gs t,
        held_cons a g gs,
      )
      (side g t (held gs a))

module _ (a : ℕ) where
  held-without : (r : Range) (gs : List Range) → held (without r gs) a ≡ (held gs a && not (holds r a))
  unfolding without
  held-without r gs =
      by-test (holds r a)
      (λ t. let ok : r.start ≤ r.last = omega (arith, holds-from r a t, holds-upto r a t) in rw (t, le-leb r.start r.last ok) (around-in r ok a gs t ∙ sym (and_not_right (held gs a) false refl)))
      (λ t. rw t (by-test (leb r.start r.last) (λ e. rw e (around-out r (leb-true r.start r.last e) a gs t ∙ kept (held gs a))) (λ e. rw e (kept (held gs a)))))
    where
      kept : (b : Bool) → b ≡ (b && true)
      kept true = refl
      kept false = refl

  -- from x on, an address is in the list exactly if no range reserves it
  pub held-free_from : (x : ℕ) (rs : List Range) → held (free_from x rs) a ≡ (run x U64END a && not (held rs a))
  unfolding free_from
  held-free_from x [] = ap (λ (gs : List Range). held gs a) (sym (append-nil (between x U64END))) ∙ held-between a x U64END [] ∙ rw (held-nil a) (plain (run x U64END a))
    where
      plain : (b : Bool) → (b || false) ≡ (b && true)
      plain true = refl
      plain false = refl
  held-free_from x (r ∷ rs) = held-without r (free_from x rs) ∙ rw (held-free_from x rs, held_cons a r rs) (joined (run x U64END a) (held rs a) (holds r a))
    where
      joined : (b h w : Bool) → ((b && not h) && not w) ≡ (b && not (w || h))
      joined false h w = refl
      joined true true true = refl
      joined true true false = refl
      joined true false true = refl
      joined true false false = refl

-- ---- in which order

-- a run put before ranges that begin after a gap
spaced-between : (low s e : ℕ) (rest : List Range) → low ≤ s → Spaced low rest → Spaced (e + 1) rest → Spaced low (between s e ++ rest)
unfolding between
spaced-between low s e rest h p q =
    by-test (ltb s e)
    (λ t. let k = ltb-true s e t in rw t (h, omega arith, spaced-lower (e + 1) (e - 1 + 2) rest (omega arith) q))
    (λ t. rw t p)

spaced-around : (r : Range) → r.start ≤ r.last → (low : ℕ) (gs : List Range) → Spaced low gs → Spaced low (around r gs)
unfolding around end_below start_above
spaced-around r ok low [] s = s
spaced-around r ok low (g ∷ gs) s =
    let rest : Spaced (g.last + 2) (around r gs) = spaced-around r ok (g.last + 2) gs s.2 in
    let h : low ≤ g.start = s.0 in
    let k : g.start ≤ g.last = s.1 in
    let high : (m : ℕ) → m ≤ start_above r g → m ≤ g.last + 2 → Spaced m (between (start_above r g) (g.last + 1) ++ around r gs)
    = λ m u v. spaced-between m (start_above r g) (g.last + 1) (around r gs) u (spaced-lower (g.last + 2) m (around r gs) v rest)
    (spaced-lower (g.last + 2) (g.last + 1 + 1) (around r gs) (omega arith) rest) in
    spaced-between low g.start (end_below r g) (between (start_above r g) (g.last + 1) ++ around r gs) h
    (high low (omega arith) (omega arith)) (high (end_below r g + 1) (omega arith) (omega arith))

pub spaced-free_from : (x : ℕ) (rs : List Range) → Spaced x (free_from x rs)
unfolding free_from without
spaced-free_from x [] = subst (Spaced x) (append-nil (between x U64END)) (spaced-between x x U64END [] (omega arith) tt tt)
spaced-free_from x (r ∷ rs) =
    by-test (leb r.start r.last)
    (λ e. rw e (spaced-around r (leb-true r.start r.last e) x (free_from x rs) (spaced-free_from x rs)))
    (λ e. rw e (spaced-free_from x rs))

-- ---- what `freeRanges` is

module _ (rs : List Range) where
  -- an address lies in one of the ranges exactly if no range reserves it
  pub free-has : (a : ℕ) → any (λ g. holds g a) (free_ranges rs) ≡ (ltb a U64END && not (any (λ r. holds r a) rs))
  unfolding free_ranges run
  free-has a = held-free_from a 0 rs ∙ rw (le-leb 0 a (omega arith))

  -- ascending, none empty, no two adjacent
  pub free-spaced : Spaced 0 (free_ranges rs)
  unfolding free_ranges
  free-spaced = spaced-free_from 0 rs

  -- a list of which both hold is this one
  pub free-only : (gs : List Range) → Spaced 0 gs → ((a : ℕ) → any (λ g. holds g a) gs ≡ (ltb a U64END && not (any (λ r. holds r a) rs))) → gs ≡ free_ranges rs
  free-only gs s h = same-ranges 0 0 gs (free_ranges rs) s free-spaced (λ a. h a ∙ sym (free-has a))

-- only which addresses are reserved counts: not the order, not how often, not how they are cut into ranges
pub free-same : (rs qs : List Range) → ((a : ℕ) → any (λ r. holds r a) rs ≡ any (λ r. holds r a) qs) → free_ranges rs ≡ free_ranges qs
free-same rs qs h = free-only qs (free_ranges rs) (free-spaced rs) (λ a. free-has rs a ∙ rw (h a))

-- a spaced list that has only addresses: each last is one
ends-below : (low : ℕ) (gs : List Range) → Spaced low gs → ((a : ℕ) → held gs a ≡ true → a < U64END) → Each (λ g. g.last < U64END) gs
ends-below low [] s f = tt
ends-below low (g ∷ gs) s f = (
  f g.last (rw (held_cons g.last g gs, holds_of g g.last s.1 (omega arith))),
  ends-below (g.last + 2) gs s.2 (λ a t. f a (rw (held_cons a g gs) (or_right (holds g a) (held gs a) t))),
)

pub free_from-fits : (x : ℕ) (rs : List Range) → Each (λ g. g.last < U64END) (free_from x rs)
free_from-fits x rs = ends-below x (free_from x rs) (spaced-free_from x rs) (λ a t. run-below x U64END a (and_left (run x U64END a) (not (held rs a)) (sym (held-free_from a x rs) ∙ t)))
