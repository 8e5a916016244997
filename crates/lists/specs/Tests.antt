-- Truth values: cases on a test, what a joined test tells, tests with one truth, and numbers that count only where a test holds.
use Rattle.std.specs.Prelude.{ℕ, ◌+◌, ◌≤◌, ◌<◌, ◌≡◌, refl, Bool, true, false, not, ◌&&◌, ◌||◌, leb, eqb}
use Rattle.std.proofs.Common.{zero-le, sym, ◌∙◌, le_refl, arith, leb-true, leb-false, le-leb, eqb-true, ltb-true, ltb-false}
use Rattle.std.proofs.lemmas.Bool.{eqb-false, not-true, not-false}

-- by cases on a test, with what it gave
pub by-test : {C : Type 0} (b : Bool) → (b ≡ true → C) → (b ≡ false → C) → C
by-test true f g = f refl
by-test false f g = g refl

-- no test gives both
pub contrary : {C : Type 0} (b : Bool) → b ≡ true → b ≡ false → C
contrary b p q = let z : ◌≡◌ {A = ℕ} 0 1 = cc in absurd (omega arith)

-- two tests are one where each gives the other
pub same_test : (p q : Bool) → (p ≡ true → q ≡ true) → (q ≡ true → p ≡ true) → p ≡ q
same_test true q f g = sym (f refl)
same_test false true f g = g refl
same_test false false f g = refl

pub leb_iff : (a b c d : ℕ) → (a ≤ b → c ≤ d) → (c ≤ d → a ≤ b) → leb a b ≡ leb c d
leb_iff a b c d f g =
    by-test (leb a b)
    (λ p. by-test (leb c d) (λ q. p ∙ sym q) (λ q. let h : c ≤ d = f (leb-true a b p) in let k : d < c = leb-false c d q in absurd (omega arith)))
    (λ p. by-test (leb c d) (λ q. let h : a ≤ b = g (leb-true c d q) in let k : b < a = leb-false a b p in absurd (omega arith)) (λ q. p ∙ sym q))

pub not_zero : (a : ℕ) → not (eqb a 0) ≡ true → 0 < a
not_zero a e = let n = eqb-false a 0 (not-true (eqb a 0) e) in omega (arith, n)

pub and_left : (a b : Bool) → (a && b) ≡ true → a ≡ true
and_left true b e = refl
and_left false b e = e

pub and_right : (a b : Bool) → (a && b) ≡ true → b ≡ true
and_right true b e = e
and_right false b e = contrary false e refl

pub and_both : (a b : Bool) → a ≡ true → b ≡ true → (a && b) ≡ true
and_both a b p q = rw (p, q)

-- two pairs of comparisons are one where each pair gives the other
pub leb_and_iff : (a b c d e f g h : ℕ) → (a ≤ b → c ≤ d → (e ≤ f) × (g ≤ h)) → (e ≤ f → g ≤ h → (a ≤ b) × (c ≤ d)) → (leb a b && leb c d) ≡ (leb e f && leb g h)
leb_and_iff a b c d e f g h to back =
    same_test (leb a b && leb c d) (leb e f && leb g h)
    (λ t. let r = to (leb-true a b (and_left (leb a b) (leb c d) t)) (leb-true c d (and_right (leb a b) (leb c d) t)) in and_both (leb e f) (leb g h) (le-leb e f r.0) (le-leb g h r.1))
    (λ t. let r = back (leb-true e f (and_left (leb e f) (leb g h) t)) (leb-true g h (and_right (leb e f) (leb g h) t)) in and_both (leb a b) (leb c d) (le-leb a b r.0) (le-leb c d r.1))

pub and_not_left : (a b : Bool) → a ≡ false → (a && b) ≡ false
and_not_left a b p = rw p

pub and_not_right : (a b : Bool) → b ≡ false → (a && b) ≡ false
and_not_right true b p = p
and_not_right false b p = refl

pub or_left : (a b : Bool) → a ≡ true → (a || b) ≡ true
or_left a b p = rw p

pub or_right : (a b : Bool) → b ≡ true → (a || b) ≡ true
or_right true b p = refl
or_right false b p = p

pub or_not_left : (a b : Bool) → (a || b) ≡ false → a ≡ false
or_not_left false b e = refl
or_not_left true b e = e

pub or_not_right : (a b : Bool) → (a || b) ≡ false → b ≡ false
or_not_right false b e = e
or_not_right true b e = contrary true refl e

pub or_neither : (a b : Bool) → a ≡ false → b ≡ false → (a || b) ≡ false
or_neither a b p q = rw (p, q)

-- one of the two holds: the second where the first does not
pub or_other : (a b : Bool) → (a || b) ≡ true → a ≡ false → b ≡ true
or_other true b e f = contrary true refl f
or_other false b e f = e

-- what a joined test says of its parts, for `search`
pub ruleset told = (and_left, and_right, or_not_left, or_not_right, not-true, not-false, eqb-true, leb-true, ltb-true, leb-false, ltb-false)

-- n where the test holds, 0 where not
abbrev pub only_if : Bool → ℕ → ℕ
only_if true n = n
only_if false n = 0

pub only_if-true : (b : Bool) (n : ℕ) → b ≡ true → only_if b n ≡ n
only_if-true b n e = rw e

pub only_if-false : (b : Bool) (n : ℕ) → b ≡ false → only_if b n ≡ 0
only_if-false b n e = rw e

pub only_if-le : (b : Bool) (n : ℕ) → only_if b n ≤ n
only_if-le true n = le_refl n
only_if-le false n = zero-le

pub only_if-mono : (p q : Bool) (n : ℕ) → (p ≡ true → q ≡ true) → only_if p n ≤ only_if q n
only_if-mono true q n h = rw (h refl) (le_refl n)
only_if-mono false q n h = zero-le

pub only_if-and : (p q : Bool) (n : ℕ) → only_if p (only_if q n) ≡ only_if (p && q) n
only_if-and true q n = refl
only_if-and false q n = refl

-- what a test takes out and what it leaves
pub only_if-split : (b : Bool) (n : ℕ) → only_if b n + only_if (not b) n ≡ n
only_if-split true n = omega arith
only_if-split false n = omega arith

pub only_if-zero : (b : Bool) → only_if b 1 ≡ 0 → b ≡ false
only_if-zero true e = absurd (omega arith)
only_if-zero false e = refl
