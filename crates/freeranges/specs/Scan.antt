-- What the search for the next free range asks of the reserved ranges, and what it gives.
use Rattle.std.specs.Prelude.{ℕ, ◌+◌, ◌-◌, ◌≤◌, ◌<◌, min, true, ◌&&◌, cond, List, [], ◌∷◌, leb, ltb, Option, None, Some}
use Rattle.std.proofs.Math.Path.{◌≡◌, refl}
use Rattle.std.proofs.Common.{sym, ◌∙◌, arith}
use Rattle.std.proofs.Math.Bool.{false}
use borrow.Author.Tests.{leb-true, leb-false, le-leb, lt-leb, lt-ltb, le-ltb, ltb-true, ltb-false}
use Rattle.lists.specs.Tests.{by-test, contrary, and_not_right, or_right, or_not_left, or_not_right}
use Rattle.lists.specs.Search.{find, find_none, find-some, find-some_any}
use Rattle.ranges.specs.declared.Range.{Range}
use Rattle.ranges.specs.Ranges.{U64MAX, holds, holds-from, holds-upto, holds_of}
use Rattle.freeranges.specs.Free.{U64END, held, free_from, held-nil, held_cons, holds-out}

-- ---- what holds x

-- a range as what it covers: up to its last
abbrev pub upto : Option Range → Option ℕ
upto None = None
upto (Some r) = Some r.last

-- the last of the first range that holds x
unfoldable pub cover_of : List Range → ℕ → Option ℕ
cover_of rs x = upto (find (λ r. holds r x) rs)

module _ (rs : List Range) (x : ℕ) where
  -- clear: no range holds x
  pub cover_clear : None ≡ cover_of rs x → held rs x ≡ false
  unfolding cover_of
  cover_clear e = go (find (λ r. holds r x) rs) refl e
    where
      go : (o : Option Range) → find (λ r. holds r x) rs ≡ o → None ≡ upto o → held rs x ≡ false
      go None q w = find_none (λ r. holds r x) rs q
      go (Some r) q w = let z : ◌≡◌ {A = ℕ} 0 1 = cc in absurd (omega arith)

  -- up to l: all from x to l are reserved
  module _ (l : ℕ) (e : Some l ≡ cover_of rs x) where
    upto-range : (r : Range) × (find (λ r. holds r x) rs ≡ Some r) × (l ≡ r.last)
    unfolding cover_of
    upto-range = go (find (λ r. holds r x) rs) refl e
      where
        go : (o : Option Range) → find (λ r. holds r x) rs ≡ o → Some l ≡ upto o → (r : Range) × (find (λ r. holds r x) rs ≡ Some r) × (l ≡ r.last)
        go None q w = let z : ◌≡◌ {A = ℕ} 0 1 = cc in absurd (omega arith)
        go (Some r) q w = (r, q, cc)

    pub cover_from : x ≤ l
    cover_from = let w = upto-range in omega (arith, w.2, holds-upto w.0 x (find-some (λ r. holds r x) rs w.0 w.1))

    pub cover_held : (a : ℕ) → x ≤ a → a ≤ l → held rs a ≡ true
    cover_held a h k =
        let w = upto-range in
        let f = holds-from w.0 x (find-some (λ r. holds r x) rs w.0 w.1) in
        by-test (held rs a)
        (λ t. t)
        (λ t. contrary (holds w.0 a) (holds_of w.0 a (omega arith) (omega (arith, w.2))) (find-some_any (λ r. holds r x) (λ r. holds r a) rs w.0 w.1 t))

-- ---- where a run of free addresses ends

-- because of r: below its start, if r holds an address and starts above x
unfoldable pub end_for : ℕ → Range → ℕ
end_for x r = cond (leb r.start r.last && ltb x r.start) (r.start - 1) U64MAX

-- the lowest of these
unfoldable pub run_end : List Range → ℕ → ℕ
run_end [] x = U64MAX
run_end (r ∷ rs) x = min (end_for x r) (run_end rs x)

module _ (x : ℕ) (r : Range) where
  pub end_empty : r.last < r.start → U64MAX ≡ end_for x r
  unfolding end_for
  end_empty h = rw (lt-leb r.start r.last h)

  pub end_passed : r.start ≤ x → U64MAX ≡ end_for x r
  unfolding end_for
  end_passed h = rw (and_not_right (leb r.start r.last) (ltb x r.start) (le-ltb x r.start h))

  pub end_ahead : r.start ≤ r.last → x < r.start → r.start - 1 ≡ end_for x r
  unfolding end_for
  end_ahead h k = rw (le-leb r.start r.last h, lt-ltb x r.start k)

  -- x or above; and where it is not the last address, r starts just behind it
  abbrev End : Type 0
  End = (x ≤ U64MAX → x ≤ end_for x r) × (end_for x r < U64MAX → (end_for x r + 1 ≡ r.start) × (r.start ≤ r.last))

  end_is : End
  end_is =
      by-test (leb r.start r.last)
      (λ e. let v = leb-true r.start r.last e in
      by-test (ltb x r.start)
      (λ f. let k = ltb-true x r.start f in let q = end_ahead v k in (λ h. omega arith, λ h. (omega arith, v)))
      (λ f. let q = end_passed (ltb-false x r.start f) in (λ h. omega arith, λ h. absurd (omega arith))))
      (λ e. let q = end_empty (leb-false r.start r.last e) in (λ h. omega arith, λ h. absurd (omega arith)))

module _ (x : ℕ) where
  pub run_end-nil : run_end [] x ≡ U64MAX
  unfolding run_end
  run_end-nil = refl

  pub run_end-cons : (r : Range) (rs : List Range) → run_end (r ∷ rs) x ≡ min (end_for x r) (run_end rs x)
  unfolding run_end
  run_end-cons r rs = refl

  pub run_end-most : (rs : List Range) → run_end rs x ≤ U64MAX
  run_end-most [] = omega (arith, run_end-nil)
  run_end-most (r ∷ rs) = omega (arith, run_end-cons r rs, run_end-most rs)

  pub run_end-from : (rs : List Range) → x ≤ U64MAX → x ≤ run_end rs x
  run_end-from [] h = omega (arith, run_end-nil)
  run_end-from (r ∷ rs) h = omega (arith, run_end-cons r rs, (end_is x r).0 h, run_end-from rs h)

  -- where x is free, so is all up to there
  pub run_end-free : (rs : List Range) → held rs x ≡ false → (a : ℕ) → x ≤ a → a ≤ run_end rs x → held rs a ≡ false
  run_end-free [] n a h k = held-nil a
  run_end-free (r ∷ rs) n a h k =
      let out : holds r x ≡ false = or_not_left (holds r x) (held rs x) (sym (held_cons x r rs) ∙ n) in
      let rest : held rs x ≡ false = or_not_right (holds r x) (held rs x) (sym (held_cons x r rs) ∙ n) in
      let e = run_end-cons r rs in
      rw (
        held_cons a r rs,
        holds-out r a (λ p q.
            let ahead : x < r.start = by-test (leb r.start x) (λ t. contrary (holds r x) (holds_of r x (leb-true r.start x t) (omega arith)) out) (λ t. leb-false r.start x t) in
            let u = end_ahead x r (omega arith) ahead in omega arith),
      )
      (run_end-free rs rest a h (omega arith))

  -- and what comes next is reserved
  pub run_end-stop : (rs : List Range) → run_end rs x + 1 < U64END → held rs (run_end rs x + 1) ≡ true
  run_end-stop [] h = absurd (omega (arith, run_end-nil))
  run_end-stop (r ∷ rs) h =
      let c = run_end-cons r rs in
      by-test (leb (end_for x r) (run_end rs x))
      (λ t. let k = leb-true (end_for x r) (run_end rs x) t in
      let s : (end_for x r + 1 ≡ r.start) × (r.start ≤ r.last) = (end_is x r).1 (omega arith) in
      let e : run_end (r ∷ rs) x + 1 ≡ r.start = omega arith in
      rw (e, held_cons r.start r rs, holds_of r r.start (omega arith) s.1))
      (λ t. let k = leb-false (end_for x r) (run_end rs x) t in
      let e : run_end (r ∷ rs) x ≡ run_end rs x = omega arith in
      rw (e, held_cons (run_end rs x + 1) r rs) (or_right (holds r (run_end rs x + 1)) (held rs (run_end rs x + 1)) (run_end-stop rs (omega arith))))

-- ---- the next free range

-- the first of some ranges
unfoldable pub gap_of : List Range → Option Range
gap_of [] = None
gap_of (g ∷ gs) = Some g

pub gap_none : None ≡ gap_of []
unfolding gap_of
gap_none = refl

pub gap_first : (g : Range) (gs : List Range) → Some g ≡ gap_of (g ∷ gs)
unfolding gap_of
gap_first g gs = refl

gap_nothing : (gs : List Range) → None ≡ gap_of gs → gs ≡ []
unfolding gap_of
gap_nothing [] e = refl
gap_nothing (g ∷ gs) e = let z : ◌≡◌ {A = ℕ} 0 1 = cc in absurd (omega arith)

-- nothing is free from x on
module _ (rs : List Range) (x : ℕ) where
  pub free-nothing : None ≡ gap_of (free_from x rs) → free_from x rs ≡ []
  free-nothing e = gap_nothing (free_from x rs) e
