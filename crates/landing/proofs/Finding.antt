-- What each return of the code gives, in the words of the definitions.
use Rattle.std.specs.Prelude.{None, Some, Option, Result, Ok, Err}
use Prim.Native.Nat.{ℕ}
use mathlib.Core.Path.{◌≡◌, refl, sym, ap, ◌∙◌}
use mathlib.Core.Bool.{Bool, true, false, not}
use mathlib.Core.List.{List, [], ◌∷◌}
use Rattle.lists.specs.Checks.{when, first, first-nil, first-fires, first_passes}
use Rattle.alignment.specs.Multiples.{multiple}
use Rattle.rangelists.specs.Listed.{Allowed, allowed}
use Rattle.rules_table.specs.Flags.{bit}
use Rattle.placement.specs.Candidates.{place_of}
use Rattle.rules_table.specs.declared.Object.{Object}
use Rattle.rules_table.specs.declared.Mapping.{Mapping}
use Rattle.rules_table.specs.Records.{object_at}
use Rattle.rules_table.specs.Spaces.{alignment}
use Rattle.checks.specs.declared.Errno.{Errno}
use Rattle.checks.specs.declared.Errno.TheVariants.{EINVAL, ENOSPC}
use Rattle.checks.specs.Refused.{refused, number-some}
use Rattle.landing.specs.declared.Target.{Target}
use Rattle.rules_calls.specs.Edits.{is_none, number_in}
use Rattle.rules_calls.specs.Landing.{blocked_in, lowest_tried, automatic, taken, fixed_checks, automatic_checks, place_checks, place_at}
use Rattle.landing.specs.Placing.{placing_of, AutomaticPlaced, Placed}

-- the address of a place, 0 of none
abbrev pub value : Result ℕ Errno → ℕ
value (Ok x) = x
value (Err e) = 0

module _ (os : List Object) (ms : List Mapping) (s n : ℕ) where
  -- a length that does not fit
  pub automatic-misfit : (a : ℕ) (b : Bool) → a ≡ alignment os s → b ≡ multiple a n → b ≡ false → AutomaticPlaced os ms s n (Err EINVAL)
  unfolding automatic_checks
  automatic-misfit a b ea eb e = record {
    errno =
        sym (first-fires (when (not (multiple (alignment os s) n)) 22) (when (is_none (automatic os ms s n)) 28 ∷ []) 0 (ap (λ (c : Bool). not c) (ap (λ (y : ℕ). multiple y n) (sym ea) ∙ sym eb ∙ e)));
    address = λ x z. absurd (number-some EINVAL (ap refused z));
  }

  spot_placed : multiple (alignment os s) n ≡ true → (o : Option ℕ) → automatic os ms s n ≡ o → AutomaticPlaced os ms s n (placing_of o)
  unfolding automatic_checks
  spot_placed m None e = record {
    errno =
        sym (first_passes (when (not (multiple (alignment os s) n)) 22) (when (is_none (automatic os ms s n)) 28 ∷ []) 0 (ap (λ (c : Bool). not c) m) ∙ first-fires (when (is_none (automatic os ms s n)) 28) [] 0 (ap is_none e));
    address = λ x z. absurd (number-some ENOSPC (ap refused z));
  }
  spot_placed m (Some x) e = record {
    errno =
        sym (first_passes (when (not (multiple (alignment os s) n)) 22) (when (is_none (automatic os ms s n)) 28 ∷ []) 0 (ap (λ (c : Bool). not c) m) ∙ first_passes (when (is_none (automatic os ms s n)) 28) [] 0 (ap is_none e) ∙ first-nil 0);
    address = λ y z. sym (ap value z) ∙ sym (ap number_in e);
  }

  -- the lowest candidate
  pub automatic-found : (a low : ℕ) (b : Bool) (l : Allowed) (spot : Option ℕ) (p : Result ℕ Errno) → a ≡ alignment os s → low ≡ lowest_tried → b ≡ multiple a n → b ≡ true
      → l ≡ (object_at os s).allow → spot ≡ place_of a n low (blocked_in os ms s) (allowed l) → p ≡ placing_of spot → AutomaticPlaced os ms s n p
  unfolding automatic
  automatic-found a low b l spot p ea el eb e eo es ep =
      let same : automatic os ms s n ≡ place_of a n low (blocked_in os ms s) (allowed l) = rw (ea, el, eo) refl in
      rw (ep, es) (spot_placed (ap (λ (y : ℕ). multiple y n) (sym ea) ∙ sym eb ∙ e) (place_of a n low (blocked_in os ms s) (allowed l)) same)

-- the place of a target
module _ (os : List Object) (ms : List Mapping) (t : Target) where
  pub fixed-placed : (mapped : Bool) (p : Result ℕ Errno) → bit 0 t.flags ≡ true → mapped ≡ taken ms t.space t.length t.address
      → refused p ≡ first (fixed_checks os t.space t.length t.address mapped) 0 → ((x : ℕ) → p ≡ Ok x → x ≡ t.address)
      → Placed os ms t p
  unfolding place_checks place_at
  fixed-placed mapped p f em er ex = record {
    errno = er ∙ rw (em, f);
    address = λ x z. ex x z ∙ rw f;
  }

  pub automatic-placed : (p : Result ℕ Errno) → bit 0 t.flags ≡ false → AutomaticPlaced os ms t.space t.length p → Placed os ms t p
  unfolding place_checks place_at
  automatic-placed p f h = record {
    errno = h.errno ∙ rw f;
    address = λ x z. h.address x z ∙ rw f;
  }
