-- The rules of a record in use, as numbers: so that the code may ask them one after the other.
use Rattle.std.proofs.Common.{◌≡◌, ℕ, ◌+◌, ◌-◌, ◌/◌, ◌%◌, ◌^◌, ◌<◌, ◌≤◌, Bool, true, false, not, ◌||◌, eqb, sym, refl, ap, ◌∙◌, mod-lt, div-one, arith, ltb-true, le-ltb, lt-ltb, eq-eqb, ne_eqb, eqb-true, le-leb, leb-true}
use borrow.Author.Tests.{eqb-false, not-true}
use Rattle.lists.specs.Tests.{by-test, contrary, and_left, and_right}
use Rattle.alignment.specs.Multiples.{fits}
use Rattle.ranges.specs.Ranges.{U64MAX, passes, passes-false}
use Rattle.rules_table.specs.Flags.{bit}
use Rattle.rules_table.specs.declared.Mapping.{Mapping}
use Rattle.rules_table.specs.Records.{can_write}
use Rattle.rules_table.specs.Good.{length_fits, rights_fit, ends_fit, aligned_to}
use Rattle.records.specs.Alone.{founded, is_number, sound}

pub record Right (page : ℕ) (m : Mapping) : Type 0 where
  pub some : page ≡ 0 → ⊥
  pub long : 0 < m.length
  pub short : m.length ≤ 2 ^ 40
  pub first : 0 < m.rights
  pub both : m.rights ≤ 3
  pub ends : m.address + (m.length - 1) ≤ U64MAX
  pub holds : m.memory + (m.length - 1) ≤ U64MAX
  pub even : aligned_to page m ≡ true
  pub founder : m.founder ≤ 1
  pub writes : m.rights % 2 ≤ m.founder
  pub from : 1 ≤ m.backing
  pub upto : m.backing ≤ 128

or_right-of : (a b : Bool) → (a || b) ≡ true → a ≡ false → b ≡ true
or_right-of true b e f = contrary true refl f
or_right-of false b e f = e

module _ (page : ℕ) (m : Mapping) where
  writes-number : (not (can_write m) || eqb m.founder 1) ≡ true → m.rights % 2 ≤ m.founder
  unfolding can_write bit
  writes-number e =
      by-test (eqb (m.rights / 2 ^ 0 % 2) 1)
      (λ t. let f = eqb-true m.founder 1 (or_right-of (not (eqb (m.rights / 2 ^ 0 % 2) 1)) (eqb m.founder 1) e (rw t)) in omega (arith, f, mod-lt m.rights {m = 2} (omega arith)))
      (λ t. let ne = eqb-false (m.rights / 2 ^ 0 % 2) 1 t in
      let z : m.rights / 2 ^ 0 ≡ m.rights = div-one m.rights in
      let d : m.rights % 2 ≡ 1 → ⊥ = λ q. ne (ap (λ (n : ℕ). n % 2) z ∙ q) in
      omega (arith, d, mod-lt m.rights {m = 2} (omega arith)))

  number-writes : m.rights % 2 ≤ m.founder → m.founder ≤ 1 → (not (can_write m) || eqb m.founder 1) ≡ true
  unfolding can_write bit
  number-writes h k =
      by-test (eqb (m.rights / 2 ^ 0 % 2) 1)
      (λ t.
      let z : m.rights / 2 ^ 0 ≡ m.rights = div-one m.rights in
      let d : m.rights % 2 ≡ 1 = ap (λ (n : ℕ). n % 2) (sym z) ∙ eqb-true (m.rights / 2 ^ 0 % 2) 1 t in
      rw (t, eq-eqb m.founder 1 (omega (arith, d, h, k))))
      (λ t. rw t)

  pub sound-right : sound page m ≡ true → Right page m
  unfolding sound length_fits rights_fit ends_fit founded is_number
  sound-right e = record {
    some = eqb-false page 0 (not-true (eqb page 0) (search and_left));
    long = ltb-true 0 m.length (search (and_left, and_right) depth 9);
    short = leb-true m.length (2 ^ 40) (search (and_left, and_right) depth 9);
    first = ltb-true 0 m.rights (search (and_left, and_right) depth 9);
    both = leb-true m.rights 3 (search (and_left, and_right) depth 9);
    ends = passes-false m.address m.length (not-true (passes m.address m.length) (search (and_left, and_right) depth 9));
    holds = passes-false m.memory m.length (not-true (passes m.memory m.length) (search (and_left, and_right) depth 9));
    even = search (and_left, and_right) depth 9;
    founder = leb-true m.founder 1 (search (and_left, and_right) depth 9);
    writes = writes-number (search (and_left, and_right) depth 9);
    from = leb-true 1 m.backing (search (and_left, and_right) depth 9);
    upto = leb-true m.backing 128 (search (and_left, and_right) depth 9);
  }

  right-sound : Right page m → sound page m ≡ true
  unfolding sound length_fits rights_fit ends_fit founded is_number passes
  right-sound r =
      rw (
        ne_eqb page 0 r.some,
        lt-ltb 0 m.length r.long,
        le-leb m.length (2 ^ 40) r.short,
        lt-ltb 0 m.rights r.first,
        le-leb m.rights 3 r.both,
        le-ltb U64MAX (m.address + (m.length - 1)) r.ends,
        le-ltb U64MAX (m.memory + (m.length - 1)) r.holds,
        r.even,
        le-leb m.founder 1 r.founder,
        number-writes r.writes r.founder,
        le-leb 1 m.backing r.from,
        le-leb m.backing 128 r.upto,
      )

  -- a rule that is broken
  pub not_right : (Right page m → ⊥) → false ≡ sound page m
  not_right f = by-test (sound page m) (λ e. absurd (f (sound-right e))) (λ e. sym e)

  -- the alignment, as it was asked last
  pub right-even : (b : Bool) → b ≡ fits page m.address m.length → (aligned_to page m ≡ true → Right page m) → b ≡ sound page m
  unfolding aligned_to
  right-even b e g =
      by-test b
      (λ t. t ∙ sym (right-sound (g (sym e ∙ t))))
      (λ t. t ∙ not_right (λ r. contrary b (e ∙ r.even) t))
