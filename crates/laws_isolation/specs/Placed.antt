-- Tables that agree on space s: the same candidates, so the same place, and the same checks of it.
use Rattle.std.specs.Prelude.{ℕ, ◌≡◌, Bool, ◌||◌, List}
use Rattle.std.proofs.Math.Path.{refl, ap}
use Rattle.std.proofs.Common.{sym, ◌∙◌}
use Rattle.std.proofs.Math.Bool.{true, false}
use Rattle.lists.specs.Search.{any}
use Rattle.ranges.specs.declared.Range.{Range}
use Rattle.ranges.specs.Ranges.{share, span}
use Rattle.alignment.specs.Multiples.{multiple, lowest-unique}
use Rattle.placement.specs.Candidates.{permits}
use Rattle.rules_table.specs.declared.Table.{Table}
use Rattle.rules_table.specs.Records.{touches}
use Rattle.rules_table.specs.Spaces.{alignment, reserved_of}
use Rattle.rules_calls.specs.Edits.{number_in}
use Rattle.rules_calls.specs.Landing.{blocked_in, automatic, taken, fixed_checks, automatic_checks, place_checks, place_at, CandidateIn}
use Rattle.gaps.specs.Blocked.{any-blocked, lowest-same}
use Rattle.landing.specs.Landed.{automatic-lowest}
use Rattle.rules_history.specs.Alike.{Alike}
use Rattle.laws_isolation.specs.Mappings.{touches-alike, taken-alike}
use Rattle.laws_isolation.specs.Devices.{any-reserved, alignment-alike}

-- agreeing goes both ways
pub turned : (s : ℕ) (t u : Table) → Alike s t u → Alike s u t
turned s t u a = record {
  space = sym a.space;
  allow = sym a.allow;
  mappings = λ w. sym (a.mappings w);
  devices = λ w. sym (a.devices w);
  limit = sym a.limit;
  charge = sym a.charge;
  free = sym a.free;
}

module _ (s : ℕ) (t u : Table) (a : Alike s t u) where
  pub aligned-alike : alignment t.objects s ≡ alignment u.objects s
  aligned-alike = alignment-alike s t.objects u.objects a.devices

  pub reserved-alike : (r : Range) → any (share r) (reserved_of t.objects s) ≡ any (share r) (reserved_of u.objects s)
  reserved-alike r = any-reserved s t.objects u.objects a.devices (share r)

  blocked_alike : (r : Range) → any (share r) (blocked_in t.objects t.mappings s) ≡ any (share r) (blocked_in u.objects u.mappings s)
  blocked_alike r =
      any-blocked t.objects t.mappings s r
      ∙ ap (λ (b : Bool). b || any (touches s r) t.mappings) (reserved-alike r)
      ∙ ap (λ (b : Bool). any (share r) (reserved_of u.objects s) || b) (touches-alike s t.mappings u.mappings a.mappings r)
      ∙ sym (any-blocked u.objects u.mappings s r)

  candidate_alike : (n x : ℕ) → CandidateIn t.objects t.mappings s n x → CandidateIn u.objects u.mappings s n x
  candidate_alike n x c = record {
    exact = ap (λ (k : ℕ). multiple k x) (sym aligned-alike) ∙ c.exact;
    from = c.from;
    ends = c.ends;
    clear = sym (blocked_alike (span x n)) ∙ c.clear;
    permitted = ap (λ (l : List Range). permits l (span x n)) (sym a.allow) ∙ c.permitted;
  }

-- THE LAW: one automatic place
pub automatic-alike : (s : ℕ) (t u : Table) → Alike s t u → (n : ℕ) → automatic t.objects t.mappings s n ≡ automatic u.objects u.mappings s n
automatic-alike s t u a n =
    lowest-unique (CandidateIn u.objects u.mappings s n) (automatic t.objects t.mappings s n) (automatic u.objects u.mappings s n)
    (lowest-same (CandidateIn t.objects t.mappings s n) (CandidateIn u.objects u.mappings s n) (candidate_alike s t u a n) (candidate_alike s u t (turned s t u a) n)
    (automatic t.objects t.mappings s n) (automatic-lowest t.objects t.mappings s n))
    (automatic-lowest u.objects u.mappings s n)

module _ (s : ℕ) (t u : Table) (a : Alike s t u) (n x : ℕ) where
  fixed_alike : fixed_checks t.objects s n x (taken t.mappings s n x) ≡ fixed_checks u.objects s n x (taken u.mappings s n x)
  unfolding fixed_checks
  fixed_alike = rw (aligned-alike s t u a, reserved-alike s t u a (span x n), taken-alike s t.mappings u.mappings a.mappings n x)

  automatic_checks-alike : automatic_checks t.objects t.mappings s n ≡ automatic_checks u.objects u.mappings s n
  unfolding automatic_checks
  automatic_checks-alike = rw (aligned-alike s t u a, automatic-alike s t u a n)

  pub place_checks-alike : (fixed : Bool) → place_checks t.objects t.mappings s fixed n x ≡ place_checks u.objects u.mappings s fixed n x
  unfolding place_checks
  place_checks-alike true = fixed_alike
  place_checks-alike false = automatic_checks-alike

  pub place-alike : (fixed : Bool) → place_at t.objects t.mappings s fixed n x ≡ place_at u.objects u.mappings s fixed n x
  unfolding place_at
  place-alike true = refl
  place-alike false = ap number_in (automatic-alike s t u a n)
