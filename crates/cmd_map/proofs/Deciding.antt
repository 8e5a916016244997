-- MAP, one law for each return: the numbers, the place or the room refused, or the mapping is made.
use Prim.Native.Nat.{ℕ, zero, suc, ◌<◌}
use Rattle.std.specs.Prelude.{Result, Ok, Err}
use mathlib.Core.Path.{◌≡◌, refl, sym, ap, ◌∙◌}
use mathlib.Core.Bool.{true, false, not}
use borrow.Author.Tests.{not-false}
use mathlib.Core.List.{List, [], ◌++◌}
use native.Mathlib.Omega.{arith}
use lib.Dec.{eqb}
use Rattle.lists.specs.Tests.{contrary}
use Rattle.lists.specs.Checks.{Check, when, first, Refusals, passed}
use Rattle.ranges.specs.Pages.{pages_touched}
use Rattle.rules_table.specs.Flags.{bit}
use Rattle.rules_table.specs.declared.Object.{Object}
use Rattle.rules_table.specs.declared.Mapping.{Mapping}
use Rattle.rules_table.specs.Records.{object_at, space_at}
use Rattle.rules_table.specs.Charge.{charge, free_mapping}
use Rattle.rules_calls.specs.declared.Edit.{Edit}
use Rattle.rules_calls.specs.Edits.{number_in}
use Rattle.checks.specs.declared.Errno.{Errno}
use Rattle.checks.specs.Refused.{number_of, number-some}
use Rattle.edits.specs.Settled.{decided, settle-refused, settle-taken}
use Rattle.scan.specs.declared.Survey.{Survey}
use Rattle.scan.specs.Surveyed.{survey_of}
use Rattle.landing.specs.declared.Target.{Target}
use Rattle.rules_calls.specs.Landing.{place_checks}
use Rattle.landing.specs.Placing.{Placed}
use Rattle.rules_calls.specs.Map.{mapped, room_checks, found_of, founding, map_edit, map_number_checks, map_checks}
use Rattle.cmd_map.proofs.Staging.{stage_refused, stage_passed, place-refuse}
use Rattle.edits.specs.Numbers.{map_number_checks_at, map_checks_at, map_edit_at}

module _ (limit : ℕ) (os : List Object) (ms : List Mapping) (t : Target) (z memory : ℕ) where
  abbrev numbers : List (Check ℕ)
  numbers = map_number_checks_at os t.flags t.space z memory t.length t.address

  abbrev places : List (Check ℕ)
  places = place_checks os ms t.space (bit 0 t.flags) t.length t.address

  abbrev room : List (Check ℕ)
  room = room_checks (free_mapping ms) limit (charge ms) (pages_touched memory t.length)

  abbrev all : List (Check ℕ)
  all = map_checks_at limit os ms t.flags t.space z memory t.length t.address

  abbrev edit : Edit
  edit = map_edit_at limit os ms t.flags t.space z memory t.length t.address

  numbers-refuse : Refusals numbers 0
  unfolding map_number_checks
  numbers-refuse = (λ y. omega (arith, y), (λ y. omega (arith, y), (λ y. omega (arith, y), (λ y. omega (arith, y), (λ y. omega (arith, y), (λ y. omega (arith, y), tt))))))

  -- where they pass, the target is a space
  pub numbers-known : 0 ≡ first numbers 0 → space_at os t.space ≡ true
  unfolding map_number_checks
  numbers-known e = not-false (space_at os t.space) (passed numbers 0 (when false 0) numbers-refuse (sym e) 5 (omega arith))

  -- an errno that these checks give is the answer
  by-check : (n : Errno) (r : Result Edit Errno) → number_of n ≡ first all 0 → r ≡ Err n → decided r ≡ edit
  unfolding map_edit
  by-check n r e k = settle-refused (number_of n) (first all 0) (decided r) _ e (number-some n) (ap decided k)

  -- the numbers refuse
  pub by-numbers : (n : Errno) (r : Result Edit Errno) → number_of n ≡ first numbers 0 → r ≡ Err n → decided r ≡ edit
  unfolding map_checks
  by-numbers n r e k = by-check n r (stage_refused numbers (places ++ room) (number_of n) e (number-some n)) k

  module _ (ew : 0 ≡ first numbers 0) where
    -- the place refuses
    pub by_place : (n : Errno) (r : Result Edit Errno) → Placed os ms t (Err n) → r ≡ Err n → decided r ≡ edit
    unfolding map_checks
    by_place n r at k =
        by-check n r (stage_passed numbers (places ++ room) 0 (number_of n) numbers-refuse ew refl (stage_refused places room (number_of n) at.errno (number-some n))) k

    module _ (x : ℕ) (at : Placed os ms t (Ok x)) (v : Survey) (ev : v ≡ survey_of ms) (pages lim : ℕ) (el : lim ≡ limit) (ep : pages ≡ pages_touched memory t.length) where
      room-is : (k : ℕ) → k ≡ first (room_checks v.free lim v.charge pages) 0 → k ≡ first all 0
      unfolding map_checks survey_of
      room-is k ek =
          stage_passed numbers (places ++ room) 0 k numbers-refuse ew refl
          (stage_passed places room 0 k (place-refuse os ms t.space (bit 0 t.flags) t.length t.address) at.errno refl (ek ∙ rw (ev, el, ep)))

      -- the room refuses
      pub by-room : (n : Errno) (r : Result Edit Errno) → number_of n ≡ first (room_checks v.free lim v.charge pages) 0 → r ≡ Err n → decided r ≡ edit
      by-room n r e k = by-check n r (room-is (number_of n) e) k

      -- the mapping is made
      pub by-making : (r : Edit) (number : ℕ) (m : Mapping) → 0 ≡ first (room_checks v.free lim v.charge pages) 0 → number ≡ number_in v.backing
          → m ≡ found_of number t.flags t.space memory t.length x → r ≡ mapped v.free m → r ≡ edit
      unfolding map_edit founding survey_of
      by-making r number m e en em er = settle-taken 0 (first all 0) r _ (room-is 0 e) refl (er ∙ rw (em, en, ev, at.address x refl))

none-there : (s : ℕ) → space_at [] s ≡ false
unfolding space_at object_at
none-there zero = refl
none-there (suc i) = refl

-- where the numbers pass, whatever the objects, the alignment is that of a space
pub alignment-pos : (a : ℕ) (t : Target) (z memory : ℕ) → ((os : List Object) → not (eqb a 0) ≡ space_at os t.space → 0 ≡ first (numbers 0 os [] t z memory) 0) → 0 < a
alignment-pos zero t z memory f = contrary (space_at [] t.space) (numbers-known 0 [] [] t z memory (f [] (sym (none-there t.space)))) (none-there t.space)
alignment-pos (suc a) t z memory f = omega arith
