-- Mapping records that are released: every rule stays, and the charge does not grow.
use Rattle.std.specs.Prelude.{ℕ, ◌≤◌, ◌≡◌, Bool, List, [], ◌∷◌, map}
use Rattle.std.proofs.Common.{zero-le, le_of_eq, arith, le-leb}
use Rattle.std.proofs.Math.Path.{refl}
use Rattle.std.proofs.Math.Bool.{true, false}
use Rattle.lists.specs.Tests.{by-test, contrary, only_if}
use Rattle.lists.specs.Each.{Each, Each-map, Each-of}
use Rattle.lists.specs.Sums.{count_of, sum_of-le}
use Rattle.lists.specs.Update.{sum_of-map}
use Rattle.ranges.specs.Ranges.{U64MAX, range, inside, span, last_of, last_of-max}
use Rattle.rules_table.specs.declared.Object.{Object}
use Rattle.rules_table.specs.declared.Mapping.{Mapping}
use Rattle.rules_table.specs.Records.{zero_mapping, used, of_space, extent, within, release, covers}
use Rattle.table.specs.Checked.{record_ok}
use Rattle.table.specs.Sound.{Backing, Shares, Agree}
use Rattle.table.specs.Facts.{zero_record}

pub release-true : (p : Mapping → Bool) (m : Mapping) → p m ≡ true → release p m ≡ zero_mapping
unfolding release
release-true p m e = rw e

pub release-false : (p : Mapping → Bool) (m : Mapping) → p m ≡ false → release p m ≡ m
unfolding release
release-false p m e = rw e

module _ (p : Mapping → Bool) where
  -- a statement about each record that holds of a released one
  release-each : (P : Mapping → Type 0) → P zero_mapping → (ms : List Mapping) → Each P ms → Each P (map (release p) ms)
  release-each P z ms h = Each-map P P (release p) ms (λ m k. by-test (p m) (λ e. rw (release-true p m e) z) (λ e. rw (release-false p m e) k)) h

  pub release-records : (os : List Object) (ms : List Mapping) → Each (λ m. record_ok os m ≡ true) ms → Each (λ m. record_ok os m ≡ true) (map (release p) ms)
  release-records os = release-each (λ m. record_ok os m ≡ true) (zero_record os)

  pub release-agree : (info : ℕ → Backing) (ms : List Mapping) → Agree info ms → Agree info (map (release p) ms)
  unfolding used
  release-agree info = release-each (λ m. used m ≡ true → Shares (info m.backing) m) (λ u. contrary false u refl)

  -- no test that a released record fails is passed by more
  release-count : (q : Mapping → Bool) → q zero_mapping ≡ false → (ms : List Mapping) → count_of q (map (release p) ms) ≤ count_of q ms
  unfolding count_of
  release-count q z ms =
      rw (sum_of-map (λ m. only_if (q m) 1) (release p) ms)
      (sum_of-le (λ m. only_if (q (release p m)) 1) (λ m. only_if (q m) 1) ms (Each-of _ ms (λ m. by-test (p m) (λ e. rw (release-true p m e, z) zero-le) (λ e. rw (release-false p m e) (le_of_eq refl)))))

  pub release-once : (ms : List Mapping) → ((s a : ℕ) → count_of (covers s a) ms ≤ 1) → (s a : ℕ) → count_of (covers s a) (map (release p) ms) ≤ 1
  unfolding covers used
  release-once ms f s a = omega (arith, f s a, release-count (covers s a) refl ms)

-- ---- released by their place

-- a test with the same truth releases the same
pub release-same : (p q : Mapping → Bool) (ms : List Mapping) → ((m : Mapping) → p m ≡ q m) → map (release p) ms ≡ map (release q) ms
unfolding release
release-same p q [] h = refl
release-same p q (m ∷ ms) h = rw (h m, release-same p q ms h)

-- every mapping of a space lies inside all addresses, also one at the last
pub within_all : (s : ℕ) (m : Mapping) → within s (range 0 U64MAX) m ≡ of_space s m
unfolding within inside extent span
within_all s m =
    rw (le-leb 0 m.address zero-le, le-leb (last_of m.address m.length) U64MAX (last_of-max m.address m.length))
    (by-test (of_space s m) (λ e. rw e) (λ e. rw e))
