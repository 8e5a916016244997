-- What reach answers of the mapping that it looks for.
use Rattle.std.specs.Prelude.{ℕ, zero, suc, ◌+◌, ◌-◌, ◌≡◌, Bool, cond, Option, None, Some}
use Rattle.std.proofs.Math.Path.{refl, sym, ap}
use Rattle.std.proofs.Common.{◌∙◌, arith}
use mathlib.Core.List.{List, [], ◌∷◌}
use Rattle.lists.specs.Tests.{by-test}
use Rattle.lists.specs.Checks.{Check, first, first-append, first-fires, first_passes}
use Rattle.lists.specs.Each.{Each}
use Rattle.ranges.specs.Ranges.{span}
use Rattle.rules_table.specs.declared.Mapping.{Mapping}
use Rattle.rules_table.specs.declared.Object.{Object}
use Rattle.rules_table.specs.Records.{object_at, home_of}
use Rattle.rules_calls.specs.declared.Edit.{Edit}
use Rattle.rules_calls.specs.Edits.{refuse, tells, settle}
use Rattle.rules_calls.specs.Reach.{around, may_do, reach_checks, held_checks, memory_at, reach_by, reach_of}

-- what reach answers of the mapping that it found, once what is asked is in order
abbrev pub reach_in : ℕ → Bool → Option Mapping → Edit
reach_in a write None = refuse 14
reach_in a write (Some m) = cond (may_do write m) (tells (m.memory + (a - m.address))) (refuse 1)

nonzero : (n : ℕ) (x y : Edit) → (n ≡ 0 → ⊥) → settle n x ≡ settle n y
nonzero zero x y h = absurd (h refl)
nonzero (suc n) x y h = refl

module _ (a : ℕ) (write : Bool) (o : Option Mapping) where
  last-two : (k : Option Mapping) → settle (first (held_checks write k) 0) (tells (memory_at a k)) ≡ reach_in a write k
  unfolding held_checks first
  last-two None = refl
  last-two (Some m) = by-test (may_do write m) (λ e. rw e) (λ e. rw e)

  split : (cs : List (Check ℕ)) → Each (λ c. c.answer ≡ 0 → ⊥) cs → settle (first cs (first (held_checks write o) 0)) (tells (memory_at a o)) ≡ settle (first cs 0) (reach_in a write o)
  unfolding first
  split [] h = last-two o
  split (c ∷ cs) h =
      by-test c.fires
      (λ e. ap (λ (x : ℕ). settle x (tells (memory_at a o))) (first-fires c cs (first (held_checks write o) 0) e) ∙ nonzero c.answer (tells (memory_at a o)) (reach_in a write o) h.0
      ∙ sym (ap (λ (x : ℕ). settle x (reach_in a write o)) (first-fires c cs 0 e)))
      (λ e. ap (λ (x : ℕ). settle x (tells (memory_at a o))) (first_passes c cs (first (held_checks write o) 0) e) ∙ split cs h.1
      ∙ sym (ap (λ (x : ℕ). settle x (reach_in a write o)) (first_passes c cs 0 e)))

-- THE LAW: the checks on what is asked, then what the search found
pub reach_split : (os : List Object) (ms : List Mapping) (d a n : ℕ) (write : Bool)
    → reach_of os ms d a n write ≡ settle (first (reach_checks (object_at os d).kind a n) 0) (reach_in a write (around ms (home_of (object_at os d).kind) (span a n)))
unfolding reach_of reach_by reach_checks
reach_split os ms d a n write =
    let k = (object_at os d).kind in
    let o = around ms (home_of k) (span a n) in
    ap (λ (x : ℕ). settle x (tells (memory_at a o))) (first-append (reach_checks k a n) (held_checks write o) 0)
    ∙ split a write o (reach_checks k a n) (λ z. omega (arith, z), (λ z. omega (arith, z), (λ z. omega (arith, z), (λ z. omega (arith, z), tt))))
