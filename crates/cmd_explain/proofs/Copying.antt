-- COPY, one law for each return.
use Rattle.std.specs.Prelude.{Option, None, Some}
use Prim.Native.Nat.{ℕ}
use mathlib.Core.Path.{◌≡◌, sym, ap, ◌∙◌}
use mathlib.Core.Bool.{Bool, true, false, not, ◌&&◌}
use mathlib.Core.List.{List, [], ◌∷◌, ◌++◌}
use native.Mathlib.Omega.{arith}
use lib.Dec.{eqb}
use Rattle.lists.specs.Checks.{Check, when, first}
use Rattle.rules_table.specs.Flags.{unknown, fixed, writeable}
use Rattle.rules_table.specs.declared.Object.{Object}
use Rattle.rules_table.specs.declared.Mapping.{Mapping}
use Rattle.rules_table.specs.Records.{space_at}
use Rattle.rules_table.specs.Charge.{free_mapping}
use Rattle.rules_calls.specs.Edits.{is_none}
use Rattle.rules_calls.specs.Landing.{place_checks}
use Rattle.rules_calls.specs.Copy.{source_of, source_mapping, source_checks, record_checks, copy_number_checks, copy_checks}
use Rattle.landing.specs.declared.Target.{Target}
use Rattle.rules_reasons.specs.declared.Reason.{Reason}
use Rattle.rules_reasons.specs.declared.Reason.TheVariants.{Accepted, SourcePasses, NoSpace, NoSourceSpace, NoSource, NotWriteable, NoRecord}
use Rattle.rules_reasons.specs.Reasons.{named, place_names, record_names, copy_names, copy_reason}
use Rattle.reason_words.specs.Words.{Tells}
use Rattle.reason_place.specs.Told.{place_reason}
use Rattle.cmd_explain.specs.Numbered.{number_checks, copy_reason_at}
use Rattle.cmd_explain.proofs.Naming.{stops, goes, stage_refused, stage_passed, check-fires, check-passes, short-first, places-append, places-refuse}

module _ (os : List Object) (ms : List Mapping) (t : Target) (source from : ℕ) where
  abbrev why : Reason
  why = copy_reason_at os ms t source from

  abbrev numbers : List (Check Reason)
  numbers = number_checks (unknown 3 t.flags) t.flags t.length t.address from SourcePasses

  abbrev named-source : Option Mapping
  named-source = source_of ms source from t.length

  abbrev denied : Bool
  denied = writeable t.flags && not (eqb (source_mapping named-source).founder 1)

  abbrev places : List (Check Reason)
  places = named (place_checks os ms t.space (fixed t.flags) t.length t.address) (place_names os ms t.space (fixed t.flags) t.length t.address)

  abbrev free : List (Check Reason)
  free = when (is_none (free_mapping ms)) NoRecord ∷ []

  abbrev sources : List (Check Reason)
  sources = when (is_none named-source) NoSource ∷ when denied NotWriteable ∷ (places ++ free)

  abbrev spaces : List (Check Reason)
  spaces = when (not (space_at os t.space)) NoSpace ∷ when (not (space_at os source)) NoSourceSpace ∷ sources

  why-is : why ≡ first (numbers ++ spaces) Accepted
  unfolding copy_reason copy_checks copy_number_checks copy_names source_checks record_checks named
  why-is =
      ap (λ (cs : List (Check Reason)). first (numbers ++ (when (not (space_at os t.space)) NoSpace ∷ when (not (space_at os source)) NoSourceSpace ∷ when (is_none named-source) NoSource ∷ when denied NotWriteable ∷ cs)) Accepted)
      (places-append os ms t.space (fixed t.flags) t.length t.address (record_checks (free_mapping ms)) record_names)

  module _ (u : Bool) (eu : u ≡ unknown 3 t.flags) where
    -- the checks on the numbers, by what the code found of the flags
    abbrev found : Bool → List (Check Reason)
    found b = number_checks b t.flags t.length t.address from SourcePasses

    same : (q : Reason) → first (found u) q ≡ first numbers q
    same q = ap (λ (b : Bool). first (found b) q) eu

    -- the numbers refuse
    pub by-numbers : (r : Reason) → ((q : Reason) → r ≡ first (found u) q) → Tells why r
    by-numbers r h = record {
      reason = stops numbers spaces r (λ q. h q ∙ same q) ∙ sym why-is;
      short = short-first numbers r (h Accepted ∙ same Accepted) (omega arith, (omega arith, (omega arith, (omega arith, (omega arith, tt)))));
    }

    module _ (passed : (q : Reason) → q ≡ first (found u) q) where
      at_target : why ≡ first spaces Accepted
      at_target = why-is ∙ goes numbers spaces (λ q. passed q ∙ same q)

      -- no target space
      pub by-target : space_at os t.space ≡ false → Tells why NoSpace
      by-target f = record { reason = check-fires why (not (space_at os t.space)) NoSpace _ at_target (ap (λ (b : Bool). not b) f); short = omega arith }

      module _ (f : space_at os t.space ≡ true) where
        at-origin : why ≡ first (when (not (space_at os source)) NoSourceSpace ∷ sources) Accepted
        at-origin = check-passes why (not (space_at os t.space)) NoSpace _ at_target (ap (λ (b : Bool). not b) f)

        -- no source space
        pub by-origin : space_at os source ≡ false → Tells why NoSourceSpace
        by-origin g = record { reason = check-fires why (not (space_at os source)) NoSourceSpace sources at-origin (ap (λ (b : Bool). not b) g); short = omega arith }

        module _ (g : space_at os source ≡ true) (o : Option Mapping) (eo : o ≡ named-source) where
          at_source : why ≡ first sources Accepted
          at_source = check-passes why (not (space_at os source)) NoSourceSpace sources at-origin (ap (λ (b : Bool). not b) g)

          missing_is : (q : Option Mapping) → o ≡ q → is_none named-source ≡ is_none q
          missing_is q e = ap (λ (x : Option Mapping). is_none x) (sym eo ∙ e)

          -- no source mapping
          pub by-missing : o ≡ None → Tells why NoSource
          by-missing e = record { reason = check-fires why (is_none named-source) NoSource _ at_source (missing_is None e); short = omega arith }

          module _ (s : Mapping) (es : o ≡ Some s) (d : Bool) (ed : d ≡ (writeable t.flags && not (eqb s.founder 1))) where
            at_right : why ≡ first (when denied NotWriteable ∷ (places ++ free)) Accepted
            at_right = check-passes why (is_none named-source) NoSource _ at_source (missing_is (Some s) es)

            denied-is : (b : Bool) → d ≡ b → denied ≡ b
            denied-is b q = ap (λ (x : Option Mapping). writeable t.flags && not (eqb (source_mapping x).founder 1)) (sym eo ∙ es) ∙ sym ed ∙ q

            -- not mapped writeable by its founder
            pub by_right : d ≡ true → Tells why NotWriteable
            by_right q = record { reason = check-fires why denied NotWriteable (places ++ free) at_right (denied-is true q); short = omega arith }

            module _ (q : d ≡ false) (p : Reason) (ep : Tells (place_reason os ms t) p) where
              at_place : why ≡ first (places ++ free) Accepted
              at_place = check-passes why denied NotWriteable (places ++ free) at_right (denied-is false q)

              -- the place refuses
              pub by_place : (p ≡ Accepted → ⊥) → Tells why p
              by_place h = record { reason = stage_refused why places free p at_place ep.reason h; short = ep.short }

              -- no record is free, or nothing refuses
              pub by-record : p ≡ Accepted → (f : Option ℕ) → f ≡ free_mapping ms → (b : Bool) → b ≡ is_none f → (r : Reason) → r ≡ first (when b NoRecord ∷ []) Accepted → Tells why r
              by-record zp f ef b eb r er =
                  let is : r ≡ first free Accepted = er ∙ ap (λ (x : Bool). first (when x NoRecord ∷ []) Accepted) (eb ∙ ap (λ (o : Option ℕ). is_none o) ef) in
                  record {
                    reason = is ∙ sym (stage_passed why places free p at_place (places-refuse os ms t.space (fixed t.flags) t.length t.address) ep.reason zp);
                    short = short-first free r is (omega arith, tt);
                  }
