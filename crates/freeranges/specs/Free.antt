-- What is not reserved (document 01, IOVA_RANGES): begin with all addresses, and take each reserved range out. The laws in proofs/, Free
-- and Fewest, say that the list has the addresses that nothing reserves, ascending, that no other such list has them, and that no list of ranges that has
-- them is shorter.
use Rattle.std.specs.Prelude.{ℕ, suc, ◌+◌, ◌-◌, ◌≤◌, ◌<◌, min, max, ◌≡◌, Bool, ◌&&◌, ◌||◌, cond, leb, ltb}
use Rattle.std.proofs.Math.Path.{refl, sym, ap}
use Rattle.std.proofs.Common.{◌∙◌}
use Rattle.std.proofs.Math.Bool.{true, false}
use mathlib.Core.List.{List, [], ◌∷◌, ◌++◌}
use native.Mathlib.Omega.{arith}
use borrow.Author.Tests.{leb-true, leb-false, le-leb, lt-ltb, ltb-true}
use Rattle.lists.specs.Tests.{by-test, contrary, leb_and_iff, and_left, and_right, and_both}
use Rattle.lists.specs.Search.{any, any-nil, any-cons}
use Rattle.ranges.specs.declared.Range.{Range}
use Rattle.ranges.specs.Ranges.{range, holds, holds-from, holds-upto, holds_of}

-- one past the last address
abbrev pub U64END : ℕ
U64END = 0x1_0000_0000_0000_0000

-- one of the ranges holds the address a
abbrev pub held : List Range → ℕ → Bool
held rs a = any (λ r. holds r a) rs

-- the addresses from s on and below e, as one range or none
unfoldable pub between : ℕ → ℕ → List Range
between s e = cond (ltb s e) (range s (e - 1) ∷ []) []

-- where the part of g below r ends, and where the part above r starts
unfoldable pub end_below : Range → Range → ℕ
end_below r g = min r.start (g.last + 1)

unfoldable pub start_above : Range → Range → ℕ
start_above r g = max g.start (r.last + 1)

-- of each range, the part below r and the part above r
unfoldable pub around : Range → List Range → List Range
around r [] = []
around r (g ∷ gs) = between g.start (end_below r g) ++ (between (start_above r g) (g.last + 1) ++ around r gs)

-- r taken out; a range that starts above its last holds nothing
unfoldable pub without : Range → List Range → List Range
without r gs = cond (leb r.start r.last) (around r gs) gs

-- what is not reserved, from x on
unfoldable pub free_from : ℕ → List Range → List Range
free_from x [] = between x U64END
free_from x (r ∷ rs) = without r (free_from x rs)

-- what is not reserved
unfoldable pub free_ranges : List Range → List Range
free_ranges rs = free_from 0 rs

-- ascending from low on, none empty, and at least one address between two neighbours
abbrev pub Spaced : ℕ → List Range → Type 0
Spaced low [] = Unit {0}
Spaced low (g ∷ gs) = (low ≤ g.start) × (g.start ≤ g.last) × Spaced (g.last + 2) gs

-- ---- which addresses

-- a is one of the addresses from s on and below e
unfoldable pub run : ℕ → ℕ → ℕ → Bool
run s e a = leb s a && ltb a e

module _ (s e a : ℕ) where
  run-from : run s e a ≡ true → s ≤ a
  unfolding run
  run-from t = leb-true s a (and_left (leb s a) (ltb a e) t)

  pub run-below : run s e a ≡ true → a < e
  unfolding run
  run-below t = ltb-true a e (and_right (leb s a) (ltb a e) t)

  pub run_of : s ≤ a → a < e → run s e a ≡ true
  unfolding run
  run_of h k = and_both (leb s a) (ltb a e) (le-leb s a h) (lt-ltb a e k)

  pub run_out : (s ≤ a → a < e → ⊥) → run s e a ≡ false
  run_out f = by-test (run s e a) (λ t. absurd (f (run-from t) (run-below t))) (λ t. t)

-- two runs that agree at a
pub run-same : (s e p q a : ℕ) → (s ≤ a → a < e → (p ≤ a) × (a < q)) → (p ≤ a → a < q → (s ≤ a) × (a < e)) → run s e a ≡ run p q a
unfolding run
run-same s e p q a f g = leb_and_iff s a (suc a) e p a (suc a) q f g

module _ (g : Range) (a : ℕ) where
  pub holds-out : (g.start ≤ a → a ≤ g.last → ⊥) → holds g a ≡ false
  holds-out f = by-test (holds g a) (λ t. absurd (f (holds-from g a t) (holds-upto g a t))) (λ t. t)

module _ (a : ℕ) where
  pub held-nil : held [] a ≡ false
  held-nil = any-nil (λ r. holds r a)

  pub held_cons : (g : Range) (gs : List Range) → held (g ∷ gs) a ≡ (holds g a || held gs a)
  held_cons g gs = any-cons (λ r. holds r a) g gs

-- ---- in which order

pub spaced-lower : (low lower : ℕ) (gs : List Range) → lower ≤ low → Spaced low gs → Spaced lower gs
spaced-lower low lower [] h s = s
spaced-lower low lower (g ∷ gs) h s = (omega arith, s.1, s.2)

-- ---- and no other spaced list has the same addresses

pub none_below : (a low : ℕ) (gs : List Range) → Spaced low gs → a < low → held gs a ≡ false
none_below a low [] s h = held-nil a
none_below a low (g ∷ gs) s h = rw (held_cons a g gs, holds-out g a (λ k l. omega arith)) (none_below a (g.last + 2) gs s.2 (omega arith))

-- past its first range a list has what its rest has
pub past_first : (a : ℕ) (g : Range) (gs : List Range) → g.last < a → held (g ∷ gs) a ≡ held gs a
past_first a g gs h = rw (held_cons a g gs, holds-out g a (λ k l. omega arith))

held_start : (g : Range) (gs : List Range) → g.start ≤ g.last → held (g ∷ gs) g.start ≡ true
held_start g gs h = rw (held_cons g.start g gs, holds_of g g.start (omega arith) h)

abbrev pub SameHeld : List Range → List Range → Type 0
SameHeld xs ys = (a : ℕ) → held xs a ≡ held ys a

-- of two lists with the same addresses, the second begins no later, and its first range ends no later
module _ (low low' : ℕ) (r : Range) (rs : List Range) (q : Range) (qs : List Range) (sr : Spaced low (r ∷ rs)) (sq : Spaced low' (q ∷ qs)) (same : SameHeld (r ∷ rs) (q ∷ qs)) where
  start_le : q.start ≤ r.start
  start_le =
      by-test (leb q.start r.start)
      (λ e. leb-true q.start r.start e)
      (λ e. let h = leb-false q.start r.start e in
      contrary (held (q ∷ qs) r.start) (sym (same r.start) ∙ held_start r rs sr.1) (none_below r.start q.start (q ∷ qs) (omega arith, sq.1, sq.2) h))

  last-le : r.start ≡ q.start → q.last ≤ r.last
  last-le z =
      by-test (leb q.last r.last)
      (λ e. leb-true q.last r.last e)
      (λ e. let h = leb-false q.last r.last e in
      contrary (held (q ∷ qs) (r.last + 1))
      (rw (held_cons (r.last + 1) q qs, holds_of q (r.last + 1) (let k = sr.1 in omega arith) (omega arith)))
      (sym (same (r.last + 1)) ∙ past_first (r.last + 1) r rs (omega arith) ∙ none_below (r.last + 1) (r.last + 2) rs sr.2 (omega arith)))

same-range : (r q : Range) → r.start ≡ q.start → r.last ≡ q.last → r ≡ q
same-range r q e f = ap (λ (s : ℕ). range s r.last) e ∙ ap (λ (l : ℕ). range q.start l) f

pub same-ranges : (low low' : ℕ) (xs ys : List Range) → Spaced low xs → Spaced low' ys → SameHeld xs ys → xs ≡ ys
same-ranges low low' [] [] sx sy same = refl
same-ranges low low' [] (q ∷ qs) sx sy same = contrary (held (q ∷ qs) q.start) (held_start q qs sy.1) (sym (same q.start) ∙ held-nil q.start)
same-ranges low low' (r ∷ rs) [] sx sy same = contrary (held (r ∷ rs) r.start) (held_start r rs sx.1) (same r.start ∙ held-nil r.start)
same-ranges low low' (r ∷ rs) (q ∷ qs) sx sy same =
    let back : SameHeld (q ∷ qs) (r ∷ rs) = λ a. sym (same a) in
    let s1 = start_le low low' r rs q qs sx sy same in
    let s2 = start_le low' low q qs r rs sy sx back in
    let es : r.start ≡ q.start = omega arith in
    let l1 = last-le low low' r rs q qs sx sy same es in
    let l2 = last-le low' low q qs r rs sy sx back (sym es) in
    let el : r.last ≡ q.last = omega arith in
    let rest : SameHeld rs qs = λ a. by-test (leb a r.last)
    (λ t. let h = leb-true a r.last t in none_below a (r.last + 2) rs sx.2 (omega arith) ∙ sym (none_below a (q.last + 2) qs sy.2 (omega arith)))
    (λ t. let h = leb-false a r.last t in sym (past_first a r rs (omega arith)) ∙ same a ∙ past_first a q qs (omega arith)) in
    ap (λ (x : Range). x ∷ rs) (same-range r q es el) ∙ ap (λ (l : List Range). q ∷ l) (same-ranges (r.last + 2) (q.last + 2) rs qs sx.2 sy.2 rest)
