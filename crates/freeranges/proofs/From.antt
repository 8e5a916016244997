-- The free ranges from x on: reserved addresses may be skipped, a run of free ones that ends is the first range, and behind a first range the rest is
-- what is free from there on.
use Rattle.std.specs.Prelude.{ℕ, ◌+◌, ◌≤◌, ◌<◌, ◌≡◌, refl, Bool, true, false, ◌&&◌, ◌||◌, not, List, [], ◌∷◌, leb}
use Rattle.std.proofs.Common.{sym, ap, ◌∙◌, subst, arith, leb-true, leb-false}
use Rattle.lists.specs.Tests.{by-test, contrary, and_not_left, and_not_right}
use Rattle.lists.specs.Each.{Each}
use Rattle.ranges.specs.declared.Range.{Range}
use Rattle.ranges.specs.Ranges.{range, holds, holds-from, holds-upto, holds_of}
use Rattle.freeranges.specs.Free.{U64END, held, free_from, Spaced, run, run_of, run_out, run-same, held-nil, held_cons, spaced-lower, none_below, past_first, same-ranges}
use Rattle.freeranges.proofs.Free.{held-free_from, spaced-free_from, free_from-fits}
use Rattle.freeranges.specs.From.{First}
use Rattle.freeranges.specs.Scan.{gap_of}
use Rattle.std.specs.Prelude.{Some}

-- one place of the search for another, where all from the one to the other is reserved
pub skipped : (rs : List Range) (x y : ℕ) → x ≤ y → ((a : ℕ) → x ≤ a → a < y → a < U64END → held rs a ≡ true) → free_from x rs ≡ free_from y rs
skipped rs x y up full =
    same-ranges x x (free_from x rs) (free_from y rs) (spaced-free_from x rs) (spaced-lower y x (free_from y rs) up (spaced-free_from y rs))
    (λ a. held-free_from a x rs ∙ at a ∙ sym (held-free_from a y rs))
  where
    at : (a : ℕ) → (run x U64END a && not (held rs a)) ≡ (run y U64END a && not (held rs a))
    at a =
        by-test (held rs a)
        (λ t. rw t (and_not_right (run x U64END a) false refl ∙ sym (and_not_right (run y U64END a) false refl)))
        (λ t.
        ap (λ (b : Bool). b && not (held rs a))
        (run-same x U64END y U64END a
        (λ h k. (by-test (leb y a) (λ e. leb-true y a e) (λ e. contrary (held rs a) (full a h (leb-false y a e) k) t), k))
        (λ h k. (omega arith, k))))

-- nothing is free past the last address
pub none-past : (rs : List Range) → free_from U64END rs ≡ []
none-past rs =
    same-ranges U64END 0 (free_from U64END rs) [] (spaced-free_from U64END rs) tt
    (λ a. held-free_from a U64END rs ∙ and_not_left (run U64END U64END a) (not (held rs a)) (run_out U64END U64END a (λ h k. omega arith)) ∙ sym (held-nil a))

-- x to l is free and ends there: it is the first range
module _ (rs : List Range) (x l : ℕ) (some : x ≤ l) (fits : l < U64END) (free : (a : ℕ) → x ≤ a → a ≤ l → held rs a ≡ false) (stop : l + 1 < U64END → held rs (l + 1) ≡ true) where
  after : Spaced (l + 2) (free_from (l + 1) rs)
  after = rw (skipped rs (l + 1) (l + 2) (omega arith) (λ a h k f. let e : a ≡ l + 1 = omega arith in rw e (stop (omega arith)))) (spaced-free_from (l + 2) rs)

  at : (a : ℕ) → (run x U64END a && not (held rs a)) ≡ (holds (range x l) a || (run (l + 1) U64END a && not (held rs a)))
  at a =
      by-test (holds (range x l) a)
      (λ e. let h = holds-from (range x l) a e in let k = holds-upto (range x l) a e in rw (e, run_of x U64END a h (omega arith), free a h k))
      (λ e.
      rw e
      (ap (λ (b : Bool). b && not (held rs a))
      (run-same x U64END (l + 1) U64END a
      (λ h k. (by-test (leb a l) (λ t. contrary (holds (range x l) a) (holds_of (range x l) a h (leb-true a l t)) e) (λ t. let u = leb-false a l t in omega arith), k))
      (λ h k. (omega arith, k)))))

  pub first_run : free_from x rs ≡ range x l ∷ free_from (l + 1) rs
  first_run =
      same-ranges x x (free_from x rs) (range x l ∷ free_from (l + 1) rs) (spaced-free_from x rs) (omega arith, some, after)
      (λ a. held-free_from a x rs ∙ at a ∙ sym (held_cons a (range x l) (free_from (l + 1) rs) ∙ rw (held-free_from a (l + 1) rs)))

-- whatever stands first
module _ (rs : List Range) (x s l : ℕ) (gs : List Range) (e : free_from x rs ≡ range s l ∷ gs) where
  spaced : Spaced x (range s l ∷ gs)
  spaced = subst (Spaced x) e (spaced-free_from x rs)

  fitting : Each (λ g. g.last < U64END) (range s l ∷ gs)
  fitting = subst (Each (λ g. g.last < U64END)) e (free_from-fits x rs)

  behind : gs ≡ free_from (l + 1) rs
  behind =
      same-ranges (l + 2) (l + 1) gs (free_from (l + 1) rs) spaced.2 (spaced-free_from (l + 1) rs)
      (λ a. by-test (leb a l)
      (λ t. let h = leb-true a l t in
      none_below a (l + 2) gs spaced.2 (omega arith) ∙ sym (none_below a (l + 1) (free_from (l + 1) rs) (spaced-free_from (l + 1) rs) (omega arith)))
      (λ t. let h = leb-false a l t in
      let p = spaced.0 in
      let q = spaced.1 in
      sym (past_first a (range s l) gs h) ∙ ap (λ (xs : List Range). held xs a) (sym e) ∙ held-free_from a x rs
      ∙ ap (λ (b : Bool). b && not (held rs a)) (run-same x U64END (l + 1) U64END a (λ u k. (omega arith, k)) (λ u k. (omega arith, k)))
      ∙ sym (held-free_from a (l + 1) rs)))

  pub first_of : First rs x s l
  first_of = record { from = spaced.0; some = spaced.1; fits = fitting.0; first = e ∙ ap (λ (xs : List Range). range s l ∷ xs) behind }

-- ---- the next free range

gap_at : (gs : List Range) (s l : ℕ) → Some (range s l) ≡ gap_of gs → (hs : List Range) × (gs ≡ range s l ∷ hs)
unfolding gap_of
gap_at [] s l e = let z : ◌≡◌ {A = ℕ} 0 1 = cc in absurd (omega arith)
gap_at (g ∷ gs) s l e =
    let p : s ≡ g.start = cc in
    let q : l ≡ g.last = cc in
    (gs, sym (ap (λ (a : ℕ). range a l ∷ gs) p ∙ ap (λ (a : ℕ). range g.start a ∷ gs) q))

-- something is free from x on: a first range is
module _ (rs : List Range) (x : ℕ) where
  pub free-first : (s l : ℕ) → Some (range s l) ≡ gap_of (free_from x rs) → First rs x s l
  free-first s l e = let w = gap_at (free_from x rs) s l e in first_of rs x s l w.0 w.1
