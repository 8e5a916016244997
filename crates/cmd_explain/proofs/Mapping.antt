-- MAP, one law for each return.
use Prim.Native.Nat.{ℕ}
use mathlib.Core.Path.{◌≡◌, sym, ap, ◌∙◌}
use mathlib.Core.Bool.{Bool, true, false, not, ◌||◌}
use mathlib.Core.List.{List, ◌∷◌, ◌++◌}
use native.Mathlib.Omega.{arith}
use lib.Dec.{eqb}
use Rattle.lists.specs.Checks.{Check, when, first}
use Rattle.ranges.specs.Pages.{pages_touched}
use Rattle.rules_table.specs.Flags.{unknown, fixed}
use Rattle.rules_table.specs.declared.Object.{Object}
use Rattle.rules_table.specs.declared.Mapping.{Mapping}
use Rattle.rules_table.specs.Records.{space_at}
use Rattle.rules_table.specs.Charge.{charge, free_mapping}
use Rattle.rules_calls.specs.Landing.{place_checks}
use Rattle.rules_calls.specs.Map.{map_number_checks, room_checks, map_checks}
use Rattle.scan.specs.declared.Survey.{Survey}
use Rattle.scan.specs.Surveyed.{survey_of}
use Rattle.landing.specs.declared.Target.{Target}
use Rattle.rules_reasons.specs.declared.Reason.{Reason}
use Rattle.rules_reasons.specs.declared.Reason.TheVariants.{Accepted, MemoryPasses, NoSpace}
use Rattle.rules_reasons.specs.Reasons.{named, place_names, room_names, map_names, map_reason}
use Rattle.reason_words.specs.Words.{Short, Tells}
use Rattle.reason_place.specs.Told.{place_reason}
use Rattle.cmd_explain.specs.Numbered.{number_checks, map_reason_at}
use Rattle.cmd_explain.proofs.Naming.{stops, goes, stage_refused, stage_passed, check-fires, check-passes, short-first, places-append, places-refuse}

module _ (limit : ℕ) (os : List Object) (ms : List Mapping) (t : Target) (z memory : ℕ) where
  abbrev why : Reason
  why = map_reason_at limit os ms t z memory

  abbrev strange : Bool
  strange = unknown 3 t.flags || not (eqb z 0)

  abbrev numbers : List (Check Reason)
  numbers = number_checks strange t.flags t.length t.address memory MemoryPasses

  abbrev places : List (Check Reason)
  places = named (place_checks os ms t.space (fixed t.flags) t.length t.address) (place_names os ms t.space (fixed t.flags) t.length t.address)

  abbrev room : List (Check Reason)
  room = named (room_checks (free_mapping ms) limit (charge ms) (pages_touched memory t.length)) room_names

  abbrev rest : List (Check Reason)
  rest = when (not (space_at os t.space)) NoSpace ∷ (places ++ room)

  why-is : why ≡ first (numbers ++ rest) Accepted
  unfolding map_reason map_checks map_number_checks map_names named
  why-is = ap (λ (cs : List (Check Reason)). first (numbers ++ (when (not (space_at os t.space)) NoSpace ∷ cs)) Accepted) (places-append os ms t.space (fixed t.flags) t.length t.address (room_checks (free_mapping ms) limit (charge ms) (pages_touched memory t.length)) room_names)

  short-room : (r : Reason) → r ≡ first room Accepted → Short r
  unfolding room_checks named
  short-room r e = short-first room r e (omega arith, (omega arith, tt))

  -- the checks on the numbers, by what the code found of the flags
  abbrev found : Bool → List (Check Reason)
  found u = number_checks u t.flags t.length t.address memory MemoryPasses

  module _ (u : Bool) (eu : u ≡ strange) where
    same : (q : Reason) → first (found u) q ≡ first numbers q
    same q = ap (λ (b : Bool). first (found b) q) eu

    -- the numbers refuse
    pub by-numbers : (r : Reason) → ((q : Reason) → r ≡ first (found u) q) → Tells why r
    by-numbers r h = record {
      reason = stops numbers rest r (λ q. h q ∙ same q) ∙ sym why-is;
      short = short-first numbers r (h Accepted ∙ same Accepted) (omega arith, (omega arith, (omega arith, (omega arith, (omega arith, tt)))));
    }

    module _ (passed : (q : Reason) → q ≡ first (found u) q) where
      at-space : why ≡ first rest Accepted
      at-space = why-is ∙ goes numbers rest (λ q. passed q ∙ same q)

      -- no such space
      pub by-space : space_at os t.space ≡ false → Tells why NoSpace
      by-space f = record { reason = check-fires why (not (space_at os t.space)) NoSpace (places ++ room) at-space (ap (λ (b : Bool). not b) f); short = omega arith }

      module _ (f : space_at os t.space ≡ true) (p : Reason) (ep : Tells (place_reason os ms t) p) where
        at_place : why ≡ first (places ++ room) Accepted
        at_place = check-passes why (not (space_at os t.space)) NoSpace (places ++ room) at-space (ap (λ (b : Bool). not b) f)

        -- the place refuses
        pub by_place : (p ≡ Accepted → ⊥) → Tells why p
        by_place h = record { reason = stage_refused why places room p at_place ep.reason h; short = ep.short }

        -- the room refuses, or nothing does
        pub by-room : p ≡ Accepted → (v : Survey) → v ≡ survey_of ms → (lim pages : ℕ) → lim ≡ limit → pages ≡ pages_touched memory t.length
            → (r : Reason) → r ≡ first (named (room_checks v.free lim v.charge pages) room_names) Accepted → Tells why r
        unfolding survey_of
        by-room zp v ev lim pages el eg r er =
            let is : r ≡ first room Accepted = er ∙ rw (ev, el, eg) in
            record {
              reason = is ∙ sym (stage_passed why places room p at_place (places-refuse os ms t.space (fixed t.flags) t.length t.address) ep.reason zp);
              short = short-room r is;
            }
