-- COPY, one law for each return: the numbers, the source, the place or the records refused, or the copy is made.
use Rattle.std.specs.Prelude.{Option, Result, Ok, Err}
use Prim.Native.Nat.{ℕ}
use mathlib.Core.Path.{◌≡◌, refl, sym, ap, ◌∙◌}
use borrow.Author.Tests.{not-false}
use mathlib.Core.Bool.{true, false}
use mathlib.Core.List.{List, ◌++◌}
use native.Mathlib.Omega.{arith}
use Rattle.lists.specs.Checks.{Check, when, first, Refusals, passed}
use Rattle.checks.specs.declared.Errno.{Errno}
use Rattle.checks.specs.Refused.{number_of, number-some}
use Rattle.rules_table.specs.Flags.{bit}
use Rattle.rules_table.specs.declared.Object.{Object}
use Rattle.rules_table.specs.declared.Mapping.{Mapping}
use Rattle.rules_table.specs.Records.{space_at}
use Rattle.rules_table.specs.Charge.{free_mapping}
use Rattle.rules_calls.specs.declared.Edit.{Edit}
use Rattle.edits.specs.Settled.{decided, settle-refused, settle-taken}
use Rattle.rules_calls.specs.Copy.{source_of, source_mapping, source_checks, record_checks, copy_of, copying, copy_number_checks, copy_checks, copy_edit}
use Rattle.landing.specs.declared.Target.{Target}
use Rattle.rules_calls.specs.Landing.{place_checks}
use Rattle.landing.specs.Placing.{Placed}
use Rattle.rules_calls.specs.Map.{mapped}
use Rattle.cmd_map.proofs.Staging.{stage_refused, stage_passed, place-refuse}
use Rattle.edits.specs.Numbers.{copy_number_checks_at, copy_checks_at, copy_edit_at}

module _ (os : List Object) (ms : List Mapping) (t : Target) (source from : ℕ) where
  abbrev numbers : List (Check ℕ)
  numbers = copy_number_checks_at os t.flags t.space source t.length t.address from

  abbrev named : Option Mapping
  named = source_of ms source from t.length

  abbrev places : List (Check ℕ)
  places = place_checks os ms t.space (bit 0 t.flags) t.length t.address

  abbrev records : List (Check ℕ)
  records = record_checks (free_mapping ms)

  abbrev all : List (Check ℕ)
  all = copy_checks_at os ms t.flags t.space source t.length t.address from

  abbrev edit : Edit
  edit = copy_edit_at os ms t.flags t.space source t.length t.address from

  numbers-refuse : Refusals numbers 0
  unfolding copy_number_checks
  numbers-refuse = (λ y. omega (arith, y), (λ y. omega (arith, y), (λ y. omega (arith, y), (λ y. omega (arith, y), (λ y. omega (arith, y), (λ y. omega (arith, y), (λ y. omega (arith, y), tt)))))))

  -- where they pass, the target is a space
  pub numbers-known : 0 ≡ first numbers 0 → space_at os t.space ≡ true
  unfolding copy_number_checks
  numbers-known e = not-false (space_at os t.space) (passed numbers 0 (when false 0) numbers-refuse (sym e) 5 (omega arith))

  source-refuse : Refusals (source_checks t.flags named) 0
  unfolding source_checks
  source-refuse = (λ y. omega (arith, y), (λ y. omega (arith, y), tt))

  -- an errno that these checks give is the answer
  by-check : (n : Errno) (r : Result Edit Errno) → number_of n ≡ first all 0 → r ≡ Err n → decided r ≡ edit
  unfolding copy_edit
  by-check n r e k = settle-refused (number_of n) (first all 0) (decided r) _ e (number-some n) (ap decided k)

  -- the numbers refuse
  pub by-numbers : (n : Errno) (r : Result Edit Errno) → number_of n ≡ first numbers 0 → r ≡ Err n → decided r ≡ edit
  unfolding copy_checks
  by-numbers n r e k = by-check n r (stage_refused numbers (source_checks t.flags named ++ (places ++ records)) (number_of n) e (number-some n)) k

  module _ (ew : 0 ≡ first numbers 0) (o : Option Mapping) (eo : o ≡ named) where
    source-is : (k : ℕ) → k ≡ first (source_checks t.flags o) 0 → k ≡ first (source_checks t.flags named) 0
    source-is k e = e ∙ ap (λ (x : Option Mapping). first (source_checks t.flags x) 0) eo

    -- the source refuses
    pub by-source : (n : Errno) (r : Result Edit Errno) → number_of n ≡ first (source_checks t.flags o) 0 → r ≡ Err n → decided r ≡ edit
    unfolding copy_checks
    by-source n r e k =
        by-check n r
        (stage_passed numbers (source_checks t.flags named ++ (places ++ records)) 0 (number_of n) numbers-refuse ew refl
        (stage_refused (source_checks t.flags named) (places ++ records) (number_of n) (source-is (number_of n) e) (number-some n))) k

    module _ (m : Mapping) (em : m ≡ source_mapping o) (es : 0 ≡ first (source_checks t.flags o) 0) where
      -- what the stages after the source answer
      after : (k : ℕ) → k ≡ first (places ++ records) 0 → k ≡ first all 0
      unfolding copy_checks
      after k e =
          stage_passed numbers (source_checks t.flags named ++ (places ++ records)) 0 k numbers-refuse ew refl
          (stage_passed (source_checks t.flags named) (places ++ records) 0 k source-refuse (source-is 0 es) refl e)

      -- the place refuses
      pub by_place : (n : Errno) (r : Result Edit Errno) → Placed os ms t (Err n) → r ≡ Err n → decided r ≡ edit
      by_place n r at k = by-check n r (after (number_of n) (stage_refused places records (number_of n) at.errno (number-some n))) k

      module _ (x : ℕ) (at : Placed os ms t (Ok x)) (free : Option ℕ) (ev : free ≡ free_mapping ms) where
        records-are : (k : ℕ) → k ≡ first (record_checks free) 0 → k ≡ first all 0
        records-are k e = after k (stage_passed places records 0 k (place-refuse os ms t.space (bit 0 t.flags) t.length t.address) at.errno refl (e ∙ rw ev))

        -- no record is free
        pub by-records : (n : Errno) (r : Result Edit Errno) → number_of n ≡ first (record_checks free) 0 → r ≡ Err n → decided r ≡ edit
        by-records n r e k = by-check n r (records-are (number_of n) e) k

        -- the copy is made
        pub by-copying : (r : Edit) (c : Mapping) → 0 ≡ first (record_checks free) 0 → c ≡ copy_of m t.flags t.space t.length x → r ≡ mapped free c → r ≡ edit
        unfolding copy_edit copying
        by-copying r c e en er = settle-taken 0 (first all 0) r _ (records-are 0 e) refl (er ∙ rw (en, em, eo, ev, at.address x refl))
