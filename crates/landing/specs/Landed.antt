-- What an accepted place is: aligned, within U64MAX, clear of reserved ranges and of the mappings of its space. An automatic one is the lowest candidate, and there is
-- none exactly where the answer is 28.
use Rattle.std.specs.Prelude.{ℕ, ◌≤◌, ◌≡◌, Bool, ◌||◌, Option, None, Some}
use Rattle.std.proofs.Math.Path.{refl, sym}
use Rattle.std.proofs.Common.{ap, ◌∙◌, arith}
use Rattle.std.proofs.Math.Bool.{true, false, not}
use mathlib.Core.List.{List, [], ◌∷◌}
use borrow.Author.Tests.{not-false}
use Rattle.lists.specs.Tests.{contrary, and_both, or_not_left, or_not_right}
use Rattle.lists.specs.Search.{any}
use Rattle.lists.specs.Checks.{Check, when, first, first-fires, first_passes, Refusals, passed}
use Rattle.ranges.specs.Ranges.{share, passes, span}
use Rattle.alignment.specs.Multiples.{multiple, fits, fits-length, Lowest}
use Rattle.rangelists.specs.Listed.{allowed}
use Rattle.placement.specs.Lowest.{place-lowest}
use Rattle.rules_table.specs.declared.Object.{Object}
use Rattle.rules_table.specs.declared.Mapping.{Mapping}
use Rattle.rules_table.specs.Records.{object_at, touches}
use Rattle.rules_table.specs.Spaces.{alignment, reserved_of}
use Rattle.rules_calls.specs.Edits.{is_none, number_in}
use Rattle.gaps.specs.Blocked.{any-blocked}
use Rattle.rules_calls.specs.Landing.{blocked_in, lowest_tried, automatic, taken, fixed_checks, automatic_checks, place_checks, place_at, CandidateIn}

pub record Landed (os : List Object) (ms : List Mapping) (s n x : ℕ) : Type 0 where
  pub aligned : fits (alignment os s) x n ≡ true
  pub ends : passes x n ≡ false
  pub clear : any (share (span x n)) (reserved_of os s) ≡ false
  pub alone : taken ms s n x ≡ false

module _ (os : List Object) (ms : List Mapping) (s n : ℕ) where
  -- THE LAW: the automatic place is the lowest candidate, or there is none
  pub automatic-lowest : Lowest (CandidateIn os ms s n) (automatic os ms s n)
  unfolding automatic
  automatic-lowest = place-lowest (alignment os s) n lowest_tried (blocked_in os ms s) (allowed (object_at os s).allow)

  -- 28 is answered exactly if there is no candidate, once the length is a multiple of the alignment
  pub automatic-refuse : Refusals (automatic_checks os ms s n) 0
  unfolding automatic_checks
  automatic-refuse = (λ z. omega (arith, z), (λ z. omega (arith, z), tt))

  pub none-28 : multiple (alignment os s) n ≡ true → ((x : ℕ) → CandidateIn os ms s n x → ⊥) → first (automatic_checks os ms s n) 0 ≡ 28
  unfolding automatic_checks
  none-28 m empty =
      first_passes (when (not (multiple (alignment os s) n)) 22) (when (is_none (automatic os ms s n)) 28 ∷ []) 0 (ap (λ (b : Bool). not b) m)
      ∙ first-fires (when (is_none (automatic os ms s n)) 28) [] 0 (go (automatic os ms s n) automatic-lowest)
    where
      go : (r : Option ℕ) → Lowest (CandidateIn os ms s n) r → is_none r ≡ true
      go None l = refl
      go (Some x) l = absurd (empty x l.0)

  some-0 : multiple (alignment os s) n ≡ true → is_none (automatic os ms s n) ≡ false → first (automatic_checks os ms s n) 0 ≡ 0
  unfolding automatic_checks first
  some-0 m e =
      first_passes (when (not (multiple (alignment os s) n)) 22) (when (is_none (automatic os ms s n)) 28 ∷ []) 0 (ap (λ (b : Bool). not b) m)
      ∙ first_passes (when (is_none (automatic os ms s n)) 28) [] 0 e

  pub only-28 : multiple (alignment os s) n ≡ true → first (automatic_checks os ms s n) 0 ≡ 28 → (x : ℕ) → CandidateIn os ms s n x → ⊥
  only-28 m e = go (automatic os ms s n) refl automatic-lowest
    where
      go : (r : Option ℕ) → automatic os ms s n ≡ r → Lowest (CandidateIn os ms s n) r → (x : ℕ) → CandidateIn os ms s n x → ⊥
      go None f l = l
      go (Some y) f l = λ x c. omega (arith, sym e ∙ some-0 m (ap is_none f))

  -- an automatic place that is accepted
  module _ (e : first (automatic_checks os ms s n) 0 ≡ 0) where
    length-fits : multiple (alignment os s) n ≡ true
    unfolding automatic_checks
    length-fits = not-false (multiple (alignment os s) n) (passed (automatic_checks os ms s n) 0 (when false 0) automatic-refuse e 0 (omega arith))

    somewhere : is_none (automatic os ms s n) ≡ false
    unfolding automatic_checks
    somewhere = passed (automatic_checks os ms s n) 0 (when false 0) automatic-refuse e 1 (omega arith)

    pub automatic-candidate : CandidateIn os ms s n (number_in (automatic os ms s n)) × ((y : ℕ) → CandidateIn os ms s n y → number_in (automatic os ms s n) ≤ y)
    automatic-candidate = go (automatic os ms s n) automatic-lowest somewhere
      where
        go : (r : Option ℕ) → Lowest (CandidateIn os ms s n) r → is_none r ≡ false → CandidateIn os ms s n (number_in r) × ((y : ℕ) → CandidateIn os ms s n y → number_in r ≤ y)
        go None l f = contrary true refl f
        go (Some x) l f = l

    automatic-landed : Landed os ms s n (number_in (automatic os ms s n))
    unfolding taken
    automatic-landed =
        let x = number_in (automatic os ms s n) in
        let c = automatic-candidate.0 in
        let clear : (any (share (span x n)) (reserved_of os s) || any (touches s (span x n)) ms) ≡ false = sym (any-blocked os ms s (span x n)) ∙ c.clear in
        record {
          aligned = fits-length (alignment os s) x n ∙ and_both (multiple (alignment os s) x) (multiple (alignment os s) n) c.exact length-fits;
          ends = c.ends;
          clear = or_not_left (any (share (span x n)) (reserved_of os s)) (any (touches s (span x n)) ms) clear;
          alone = or_not_right (any (share (span x n)) (reserved_of os s)) (any (touches s (span x n)) ms) clear;
        }

  -- a fixed place that is accepted
  fixed-landed : (x : ℕ) → passes x n ≡ false → first (fixed_checks os s n x (taken ms s n x)) 0 ≡ 0 → Landed os ms s n x
  unfolding fixed_checks
  fixed-landed x p e =
      let checks : List (Check ℕ) = fixed_checks os s n x (taken ms s n x) in
      let refuse : Refusals checks 0 = (λ z. omega (arith, z), (λ z. omega (arith, z), (λ z. omega (arith, z), tt))) in
      record {
        aligned = not-false (fits (alignment os s) x n) (passed checks 0 (when false 0) refuse e 0 (omega arith));
        ends = p;
        clear = passed checks 0 (when false 0) refuse e 1 (omega arith);
        alone = passed checks 0 (when false 0) refuse e 2 (omega arith);
      }

  -- THE LAW: so is every place that is accepted
  pub place-landed : (fixed : Bool) (x : ℕ) → (fixed ≡ true → passes x n ≡ false) → first (place_checks os ms s fixed n x) 0 ≡ 0 → Landed os ms s n (place_at os ms s fixed n x)
  unfolding place_checks place_at
  place-landed true x p e = fixed-landed x (p refl) e
  place-landed false x p e = automatic-landed e
