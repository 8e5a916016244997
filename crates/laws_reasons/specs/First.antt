-- The reason that is told is the name at the place of the first check that fires; where none does, it is what comes behind them.
use Rattle.std.specs.Prelude.{ℕ, zero, suc, ◌<◌, ◌≡◌, Bool, true, false, ◌⊎◌, length, get_or}
use Rattle.std.proofs.Math.Path.{refl}
use mathlib.Core.List.{List, [], ◌∷◌, map}
use Rattle.std.proofs.Math.Logic.{inl}
use Rattle.std.proofs.Common.{inr, ⊎_elim, le_of_suc-le-suc, not-suc-le-zero, arith}
use Rattle.lists.specs.Tests.{by-test}
use Rattle.lists.specs.Checks.{Check, when, first, first-fires, first_passes}
use Rattle.rules_table.specs.declared.Object.{Object}
use Rattle.rules_table.specs.declared.Mapping.{Mapping}
use Rattle.rules_calls.specs.Opening.{opening_errno, open_checks}
use Rattle.rules_calls.specs.Map.{MapFields, map_checks}
use Rattle.rules_calls.specs.Copy.{CopyFields, copy_checks}
use Rattle.rules_reasons.specs.declared.Reason.{Reason}
use Rattle.rules_reasons.specs.declared.Reason.TheVariants.{Accepted}
use Rattle.rules_reasons.specs.Reasons.{reason_errno, named, open_names, map_names, copy_names, map_reason, copy_reason}
use Rattle.rules_reasons.specs.Explain.{open_or}
use Rattle.laws_reasons.specs.Names.{itself, Numbered, open_numbered, map_numbered, copy_numbered}

-- which of the checks fire
abbrev pub firing : {A : Type 0} → List (Check A) → List Bool
firing cs = map (λ c. c.fires) cs

-- the check at place i fires and none before it does; name r stands at that place
pub record NamedAt {R : Type 0} (fires : List Bool) (names : List R) (d r : R) (i : ℕ) : Type 0 where
  pub upto : i < length names
  pub here : get_or fires i false ≡ true
  pub before : (j : ℕ) → j < i → get_or fires j false ≡ false
  pub name : get_or names i d ≡ r

-- no check fires, and the name is ok; or it is that of the first that does
abbrev pub NamedFirst : {R : Type 0} → List Bool → List R → R → R → Type 0
NamedFirst fires names ok r = (((j : ℕ) → get_or fires j false ≡ false) × (r ≡ ok)) ⊎ ((i : ℕ) × NamedAt fires names ok r i)

module _ {A R : Type 0} where
  -- behind a check that passes
  later : (c : Check A) (cs : List (Check A)) (q : R) (qs : List R) (ok r : R) → c.fires ≡ false → NamedFirst (firing cs) qs ok r → NamedFirst (firing (c ∷ cs)) (q ∷ qs) ok r
  later c cs q qs ok r e f =
      ⊎_elim
      (λ n. inl (none n.0, n.1))
      (λ w. inr (suc w.0, record { upto = omega (arith, w.1.upto); here = w.1.here; before = earlier w.0 w.1.before; name = w.1.name }))
      f
    where
      none : ((j : ℕ) → get_or (firing cs) j false ≡ false) → (j : ℕ) → get_or (firing (c ∷ cs)) j false ≡ false
      none h zero = e
      none h (suc j) = h j

      earlier : (i : ℕ) → ((j : ℕ) → j < i → get_or (firing cs) j false ≡ false) → (j : ℕ) → j < suc i → get_or (firing (c ∷ cs)) j false ≡ false
      earlier i h zero k = e
      earlier i h (suc j) k = h j (le_of_suc-le-suc k)

  pub named-first : (answered : A → ℕ) (number : R → ℕ) (ok : R) (cs : List (Check A)) (rs : List R) → Numbered answered number cs rs → NamedFirst (firing cs) rs ok (first (named cs rs) ok)
  unfolding first named
  named-first answered number ok [] [] h = inl (λ j. refl, refl)
  named-first answered number ok [] (r ∷ rs) h = absurd h
  named-first answered number ok (c ∷ cs) [] h = absurd h
  named-first answered number ok (c ∷ cs) (r ∷ rs) h =
      by-test c.fires
      (λ e. rw (first-fires (when c.fires r) (named cs rs) ok e) (inr (zero, record { upto = omega arith; here = e; before = λ j k. absurd (not-suc-le-zero k); name = refl })))
      (λ e. rw (first_passes (when c.fires r) (named cs rs) ok e) (later c cs r rs ok (first (named cs rs) ok) e (named-first answered number ok cs rs h.1)))

-- THE LAWS: of the opening, where r is what comes behind it; of MAP; of COPY
pub open_first : (known : ℕ) (bytes : List ℕ) (r : Reason) → NamedFirst (firing (open_checks known bytes)) open_names r (open_or known bytes r)
unfolding open_or
open_first known bytes r = named-first opening_errno reason_errno r (open_checks known bytes) open_names (open_numbered known bytes)

pub map_names-first : (limit : ℕ) (os : List Object) (ms : List Mapping) (c : MapFields) → NamedFirst (firing (map_checks limit os ms c)) (map_names os ms c) Accepted (map_reason limit os ms c)
unfolding map_reason
map_names-first limit os ms c = named-first itself reason_errno Accepted (map_checks limit os ms c) (map_names os ms c) (map_numbered limit os ms c)

pub copy_first : (os : List Object) (ms : List Mapping) (c : CopyFields) → NamedFirst (firing (copy_checks os ms c)) (copy_names os ms c) Accepted (copy_reason os ms c)
unfolding copy_reason
copy_first os ms c = named-first itself reason_errno Accepted (copy_checks os ms c) (copy_names os ms c) (copy_numbered os ms c)
