-- What each return tells: one law for each check of a place.
use Rattle.std.specs.Prelude.{Option}
use Prim.Native.Nat.{ℕ, ◌≤◌}
use mathlib.Core.Path.{◌≡◌, refl, sym, ap, ◌∙◌}
use mathlib.Core.Bool.{Bool, true, false, not}
use mathlib.Core.List.{List, [], ◌∷◌}
use native.Mathlib.Omega.{arith}
use Rattle.lists.specs.Tests.{by-test}
use Rattle.lists.specs.Search.{any}
use Rattle.lists.specs.Checks.{Check, when, first, first-nil, first-fires, first_passes}
use Rattle.checks.specs.declared.Errno.{Errno}
use Rattle.checks.specs.declared.Errno.TheVariants.{EPERM, ENOENT, E2BIG, ENOMEM, EFAULT, EBUSY, EEXIST, EINVAL, ENOTTY, ENOSPC, EOVERFLOW, EMSGSIZE, EOPNOTSUPP, EADDRINUSE, EUCLEAN}
use Rattle.checks.specs.Refused.{number_of}
use Rattle.ranges.specs.declared.Range.{Range}
use Rattle.ranges.specs.Ranges.{U64MAX, share, span}
use Rattle.alignment.specs.Multiples.{multiple, fits}
use Rattle.runs.specs.declared.Run.{Run}
use Rattle.rules_table.specs.Flags.{fixed}
use Rattle.rules_table.specs.declared.Object.{Object}
use Rattle.rules_table.specs.declared.Mapping.{Mapping}
use Rattle.rules_table.specs.Records.{touches}
use Rattle.rules_table.specs.Spaces.{alignment, reserved_of}
use Rattle.rules_calls.specs.Edits.{is_none}
use Rattle.rules_calls.specs.Landing.{automatic, taken, fixed_checks, automatic_checks, place_checks}
use Rattle.landing.specs.declared.Target.{Target}
use Rattle.rules_reasons.specs.declared.Reason.{Reason}
use Rattle.rules_reasons.specs.declared.Reason.TheVariants.{Accepted, Misaligned, TouchesReserved, TouchesMapping, LengthMisaligned, NoPlace}
use Rattle.rules_reasons.specs.Reasons.{named, object_touched, record_touched, longest_in, place_names}
use Rattle.reason_words.specs.Words.{Tells}
use Rattle.reason_place.specs.Told.{place_reason}
use Rattle.reason_place.proofs.Shortness.{short-run}

-- 22 is EINVAL alone
pub invalid : (n : Errno) → number_of n ≡ 22 → n ≡ EINVAL
invalid EPERM h = absurd (omega (arith, h))
invalid ENOENT h = absurd (omega (arith, h))
invalid E2BIG h = absurd (omega (arith, h))
invalid ENOMEM h = absurd (omega (arith, h))
invalid EFAULT h = absurd (omega (arith, h))
invalid EBUSY h = absurd (omega (arith, h))
invalid EEXIST h = absurd (omega (arith, h))
invalid EINVAL h = refl
invalid ENOTTY h = absurd (omega (arith, h))
invalid ENOSPC h = absurd (omega (arith, h))
invalid EOVERFLOW h = absurd (omega (arith, h))
invalid EMSGSIZE h = absurd (omega (arith, h))
invalid EOPNOTSUPP h = absurd (omega (arith, h))
invalid EADDRINUSE h = absurd (omega (arith, h))
invalid EUCLEAN h = absurd (omega (arith, h))

module _ (os : List Object) (ms : List Mapping) (t : Target) where
  abbrev s : ℕ
  s = t.space

  abbrev n : ℕ
  n = t.length

  abbrev r : Range
  r = span t.address n

  -- ---- a fixed address

  module _ (f : fixed t.flags ≡ true) where
    abbrev unfit : Check Reason
    unfit = when (not (fits (alignment os s) t.address n)) Misaligned

    abbrev reserves : Check Reason
    reserves = when (any (share r) (reserved_of os s)) (TouchesReserved (object_touched os s r))

    abbrev maps : Check Reason
    maps = when (any (touches s r) ms) (TouchesMapping (record_touched ms s r))

    fixed-is : place_reason os ms t ≡ first (unfit ∷ reserves ∷ maps ∷ []) Accepted
    unfolding named place_checks place_names fixed_checks taken
    fixed-is = rw f

    module _ (a : ℕ) (ea : a ≡ alignment os s) (fit : Bool) (ef : fit ≡ fits a t.address n) where
      unfit-is : (b : Bool) → not fit ≡ b → unfit.fires ≡ b
      unfit-is b e = ap (λ (c : Bool). not c) (ap (λ (y : ℕ). fits y t.address n) (sym ea) ∙ sym ef) ∙ e

      -- no multiple
      pub by-unfit : not fit ≡ true → Tells (place_reason os ms t) Misaligned
      by-unfit e = record { reason = sym (fixed-is ∙ first-fires unfit (reserves ∷ maps ∷ []) Accepted (unfit-is true e)); short = omega arith }

      module _ (e : not fit ≡ false) (q : Range) (eq : q ≡ r) (reserved : Bool) (er : reserved ≡ any (share q) (reserved_of os s)) where
        fitting : place_reason os ms t ≡ first (reserves ∷ maps ∷ []) Accepted
        fitting = fixed-is ∙ first_passes unfit (reserves ∷ maps ∷ []) Accepted (unfit-is false e)

        reserves-is : (b : Bool) → reserved ≡ b → reserves.fires ≡ b
        reserves-is b g = ap (λ (y : Range). any (share y) (reserved_of os s)) (sym eq) ∙ sym er ∙ g

        -- a reserved range
        pub by-reserved : reserved ≡ true → (k : ℕ) → k ≡ object_touched os s q → Tells (place_reason os ms t) (TouchesReserved k)
        by-reserved g k ek = record {
          reason = ap TouchesReserved (ek ∙ ap (object_touched os s) eq) ∙ sym (fitting ∙ first-fires reserves (maps ∷ []) Accepted (reserves-is true g));
          short = omega arith;
        }

        module _ (g : reserved ≡ false) (mapped : Bool) (em : mapped ≡ any (touches s q) ms) where
          clear : place_reason os ms t ≡ first (maps ∷ []) Accepted
          clear = fitting ∙ first_passes reserves (maps ∷ []) Accepted (reserves-is false g)

          maps-is : (b : Bool) → mapped ≡ b → maps.fires ≡ b
          maps-is b h = ap (λ (y : Range). any (touches s y) ms) (sym eq) ∙ sym em ∙ h

          -- a mapping
          pub by-mapped : mapped ≡ true → (k : ℕ) → k ≡ record_touched ms s q → Tells (place_reason os ms t) (TouchesMapping k)
          by-mapped h k ek = record {
            reason = ap TouchesMapping (ek ∙ ap (record_touched ms s) eq) ∙ sym (clear ∙ first-fires maps [] Accepted (maps-is true h));
            short = omega arith;
          }

          -- nothing
          pub by-nothing : mapped ≡ false → Tells (place_reason os ms t) Accepted
          by-nothing h = record { reason = sym (clear ∙ first_passes maps [] Accepted (maps-is false h) ∙ first-nil Accepted); short = omega arith }

  -- ---- an automatic address, by the errno of its place

  module _ (f : fixed t.flags ≡ false) where
    abbrev uneven : Bool
    uneven = not (multiple (alignment os s) n)

    abbrev nowhere : Bool
    nowhere = is_none (automatic os ms s n)

    automatic-is : place_reason os ms t ≡ first (when uneven LengthMisaligned ∷ when nowhere (NoPlace (longest_in os ms s)) ∷ []) Accepted
    unfolding named place_checks place_names automatic_checks
    automatic-is = rw f

    module _ (e : ℕ) (ee : e ≡ first (place_checks os ms s (fixed t.flags) n t.address) 0) where
      errno-is : e ≡ first (when uneven 22 ∷ when nowhere 28 ∷ []) 0
      unfolding place_checks automatic_checks
      errno-is = ee ∙ rw f

      errno-uneven : uneven ≡ true → e ≡ 22
      errno-uneven u = errno-is ∙ first-fires (when uneven 22) (when nowhere 28 ∷ []) 0 u

      errno-even : uneven ≡ false → e ≡ first (when nowhere 28 ∷ []) 0
      errno-even u = errno-is ∙ first_passes (when uneven 22) (when nowhere 28 ∷ []) 0 u

      errno-nowhere : uneven ≡ false → nowhere ≡ true → e ≡ 28
      errno-nowhere u w = errno-even u ∙ first-fires (when nowhere 28) [] 0 w

      errno-found : uneven ≡ false → nowhere ≡ false → e ≡ 0
      errno-found u w = errno-even u ∙ first_passes (when nowhere 28) [] 0 w ∙ first-nil 0

      is-uneven : e ≡ 22 → uneven ≡ true
      is-uneven z =
          by-test uneven (λ u. u)
          (λ u. by-test nowhere (λ w. absurd (omega (arith, errno-nowhere u w, z))) (λ w. absurd (omega (arith, errno-found u w, z))))

      is-even : (e ≡ 22 → ⊥) → uneven ≡ false
      is-even z = by-test uneven (λ u. absurd (z (errno-uneven u))) (λ u. u)

      -- a length that is no multiple
      pub by-uneven : e ≡ 22 → Tells (place_reason os ms t) LengthMisaligned
      by-uneven z = record {
        reason = sym (automatic-is ∙ first-fires (when uneven LengthMisaligned) (when nowhere (NoPlace (longest_in os ms s)) ∷ []) Accepted (is-uneven z));
        short = omega arith;
      }

      module _ (z : e ≡ 22 → ⊥) where
        even : place_reason os ms t ≡ first (when nowhere (NoPlace (longest_in os ms s)) ∷ []) Accepted
        even = automatic-is ∙ first_passes (when uneven LengthMisaligned) (when nowhere (NoPlace (longest_in os ms s)) ∷ []) Accepted (is-even z)

        -- a place
        pub by_place : e ≡ 0 → Tells (place_reason os ms t) Accepted
        by_place k =
            let w : nowhere ≡ false = by-test nowhere (λ w. absurd (omega (arith, errno-nowhere (is-even z) w, k))) (λ w. w) in
            record { reason = sym (even ∙ first_passes (when nowhere (NoPlace (longest_in os ms s))) [] Accepted w ∙ first-nil Accepted); short = omega arith }

        is-nowhere : (e ≡ 0 → ⊥) → nowhere ≡ true
        is-nowhere k = by-test nowhere (λ w. w) (λ w. absurd (k (errno-found (is-even z) w)))

        -- none
        pub by-nowhere : (e ≡ 0 → ⊥) → n ≤ U64MAX → (run : Option Run) → run ≡ longest_in os ms s → Tells (place_reason os ms t) (NoPlace run)
        by-nowhere k h run l = record {
          reason = ap NoPlace l ∙ sym (even ∙ first-fires (when nowhere (NoPlace (longest_in os ms s))) [] Accepted (is-nowhere k));
          short = short-run os ms s n h (is-nowhere k) run (sym l);
        }
