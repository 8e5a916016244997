-- What the checks of an accepted MAP, COPY or UNMAP have shown, in the form that proofs want.
use Prim.Native.Nat.{ℕ, zero, suc, ◌+◌, ◌≤◌, ◌<◌, ◌^◌}
use Rattle.std.specs.Prelude.{◌≡◌, refl, Bool, true, ◌&&◌, ◌||◌, List, ◌++◌, ltb, get_or, None, Some}
use Rattle.std.proofs.Common.{sym, ◌∙◌, arith}
use Rattle.std.proofs.Math.Bool.{false, not}
use Rattle.std.proofs.Math.Dec.{eqb}
use borrow.Author.Tests.{eqb-true, eqb-false, ltb-false, not-false}
use Rattle.lists.specs.Tests.{by-test, or_not_left, or_not_right}
use Rattle.lists.specs.Search.{any}
use Rattle.lists.specs.Checks.{Check, when, first, first-append, first-stays, first_goes, Refusals, passed}
use Rattle.ranges.specs.Ranges.{passes}
use Rattle.ranges.specs.Pages.{pages_touched}
use Rattle.rules_table.specs.Flags.{bit}
use Rattle.rules_table.specs.declared.Object.{Object}
use Rattle.rules_table.specs.declared.Mapping.{Mapping}
use Rattle.rules_table.specs.Records.{space_at, within, cut_by}
use Rattle.rules_table.specs.Charge.{charge, free_mapping}
use Rattle.rules_calls.specs.declared.Edit.{Edit}
use Rattle.rules_calls.specs.Edits.{settle, is_none}
use Rattle.rules_calls.specs.Copy.{source_of, source_mapping, source_checks, record_checks, copy_number_checks, copy_checks}
use Rattle.rules_calls.specs.Landing.{fixed_checks, automatic_checks, place_checks}
use Rattle.rules_calls.specs.Map.{no_right, wrong_length, fixed_passes, room_checks, over_limit, map_checks, map_number_checks}
use Rattle.rules_calls.specs.Unmap.{asks_all, range_asked, removal_by, removal_checks, unmap_checks, unmap_number_checks}
use Rattle.edits.specs.Numbers.{map_number_checks_at, map_checks_at, copy_number_checks_at, copy_checks_at, unmap_number_checks_at, unmap_checks_at}

-- where two lists of checks passed one after the other, each passed
pub both-passed : (cs ds : List (Check ℕ)) → Refusals cs 0 → first (cs ++ ds) 0 ≡ 0 → (first cs 0 ≡ 0) × (first ds 0 ≡ 0)
both-passed cs ds r e =
    let f : first cs (first ds 0) ≡ 0 = sym (first-append cs ds 0) ∙ e in
    by-test (eqb (first cs 0) 0)
    (λ t. let z = eqb-true (first cs 0) 0 t in (z, first_goes cs 0 (first ds 0) r (sym z) ∙ f))
    (λ t. let ne = eqb-false (first cs 0) 0 t in absurd (ne (first-stays cs 0 (first cs 0) (first ds 0) refl ne ∙ f)))

-- an edit without an errno: no check fired
pub settled-zero : (n : ℕ) (e : Edit) → (settle n e).errno ≡ 0 → n ≡ 0
settled-zero zero e h = refl
settled-zero (suc n) e h = h

no : (n : ℕ) → ◌≡◌ {A = ℕ} (1 + n) 0 → ⊥
no n z = omega (arith, z)

-- what MAP and COPY ask of flags and length
pub record Wanted (flags n x : ℕ) : Type 0 where
  pub right : (bit 1 flags || bit 2 flags) ≡ true
  pub some : 0 < n
  pub short : n ≤ 2 ^ 40
  pub fixed : bit 0 flags ≡ true → passes x n ≡ false

wanted : (flags n x : ℕ) → no_right flags ≡ false → wrong_length n ≡ false → fixed_passes flags x n ≡ false → Wanted flags n x
unfolding no_right wrong_length fixed_passes
wanted flags n x r l f =
    let zero : eqb n 0 ≡ false = or_not_left (eqb n 0) (ltb (2 ^ 40) n) l in
    let ne = eqb-false n 0 zero in
    record {
      right = not-false (bit 1 flags || bit 2 flags) r;
      some = omega (arith, ne);
      short = ltb-false (2 ^ 40) n (or_not_right (eqb n 0) (ltb (2 ^ 40) n) l);
      fixed = λ b. sym (rw b) ∙ f;
    }

-- the charge that passed is within the limit
within-limit : (limit charged pages : ℕ) → over_limit limit charged pages ≡ false → charged + pages ≤ limit
unfolding over_limit
within-limit limit charged pages e = ltb-false limit (charged + pages) e

-- every check of a place is a refusal
place-refuse : (os : List Object) (ms : List Mapping) (s : ℕ) (fixed : Bool) (n x : ℕ) → Refusals (place_checks os ms s fixed n x) 0
unfolding place_checks fixed_checks automatic_checks
place-refuse os ms s true n x = (no 21, (no 21, (no 16, tt)))
place-refuse os ms s false n x = (no 21, (no 27, tt))

-- ---- MAP

pub record MapPassed (limit : ℕ) (os : List Object) (ms : List Mapping) (flags s memory n x : ℕ) : Type 0 where
  pub wanted : Wanted flags n x
  pub memory-ends : passes memory n ≡ false
  pub space : space_at os s ≡ true
  pub placed : first (place_checks os ms s (bit 0 flags) n x) 0 ≡ 0
  pub free : is_none (free_mapping ms) ≡ false
  pub room : charge ms + pages_touched memory n ≤ limit

module _ (limit : ℕ) (os : List Object) (ms : List Mapping) (flags s z memory n x : ℕ) where
  pub map_numbers_refuse : Refusals (map_number_checks_at os flags s z memory n x) 0
  unfolding map_number_checks
  map_numbers_refuse = (no 94, (no 21, (no 21, (no 74, (no 74, (no 1, tt))))))

  room-refuse : Refusals (room_checks (free_mapping ms) limit (charge ms) (pages_touched memory n)) 0
  unfolding room_checks
  room-refuse = (no 11, (no 11, tt))

  -- the check on the numbers at place i did not fire
  map_number : first (map_number_checks_at os flags s z memory n x) 0 ≡ 0 → (i : ℕ) → i < 6 → (get_or (map_number_checks_at os flags s z memory n x) i (when false 0)).fires ≡ false
  unfolding map_number_checks
  map_number e i h = passed (map_number_checks_at os flags s z memory n x) 0 (when false 0) map_numbers_refuse e i h

  pub map_passed : first (map_checks_at limit os ms flags s z memory n x) 0 ≡ 0 → MapPassed limit os ms flags s memory n x
  unfolding map_checks map_number_checks room_checks
  map_passed e =
      let p = both-passed (map_number_checks_at os flags s z memory n x) (place_checks os ms s (bit 0 flags) n x ++ room_checks (free_mapping ms) limit (charge ms) (pages_touched memory n)) map_numbers_refuse e in
      let q = both-passed (place_checks os ms s (bit 0 flags) n x) (room_checks (free_mapping ms) limit (charge ms) (pages_touched memory n)) (place-refuse os ms s (bit 0 flags) n x) p.1 in
      record {
        wanted = wanted flags n x (map_number p.0 1 (omega arith)) (map_number p.0 2 (omega arith)) (map_number p.0 4 (omega arith));
        memory-ends = map_number p.0 3 (omega arith);
        space = not-false (space_at os s) (map_number p.0 5 (omega arith));
        placed = q.0;
        free = passed (room_checks (free_mapping ms) limit (charge ms) (pages_touched memory n)) 0 (when false 0) room-refuse q.1 0 (omega arith);
        room = within-limit limit (charge ms) (pages_touched memory n) (passed (room_checks (free_mapping ms) limit (charge ms) (pages_touched memory n)) 0 (when false 0) room-refuse q.1 1 (omega arith));
      }

-- ---- COPY

pub record CopyPassed (os : List Object) (ms : List Mapping) (flags target source n x y : ℕ) : Type 0 where
  pub wanted : Wanted flags n x
  pub space : space_at os target ≡ true
  pub source-space : space_at os source ≡ true
  pub found-source : is_none (source_of ms source y n) ≡ false
  pub right : bit 1 flags ≡ true → (source_mapping (source_of ms source y n)).founder ≡ 1
  pub placed : first (place_checks os ms target (bit 0 flags) n x) 0 ≡ 0
  pub free : is_none (free_mapping ms) ≡ false

module _ (os : List Object) (ms : List Mapping) (flags target source n x y : ℕ) where
  pub copy_numbers_refuse : Refusals (copy_number_checks_at os flags target source n x y) 0
  unfolding copy_number_checks
  copy_numbers_refuse = (no 94, (no 21, (no 21, (no 74, (no 74, (no 1, (no 1, tt)))))))

  pub source-refuse : Refusals (source_checks flags (source_of ms source y n)) 0
  unfolding source_checks
  source-refuse = (no 1, (no 0, tt))

  record_refuse : Refusals (record_checks (free_mapping ms)) 0
  unfolding record_checks
  record_refuse = (no 11, tt)

  copy_number : first (copy_number_checks_at os flags target source n x y) 0 ≡ 0 → (i : ℕ) → i < 7 → (get_or (copy_number_checks_at os flags target source n x y) i (when false 0)).fires ≡ false
  unfolding copy_number_checks
  copy_number e i h = passed (copy_number_checks_at os flags target source n x y) 0 (when false 0) copy_numbers_refuse e i h

  pub copy_passed : first (copy_checks_at os ms flags target source n x y) 0 ≡ 0 → CopyPassed os ms flags target source n x y
  unfolding copy_checks copy_number_checks source_checks record_checks
  copy_passed e =
      let found-o = source_of ms source y n in
      let places = place_checks os ms target (bit 0 flags) n x in
      let records = record_checks (free_mapping ms) in
      let p = both-passed (copy_number_checks_at os flags target source n x y) (source_checks flags found-o ++ (places ++ records)) copy_numbers_refuse e in
      let q = both-passed (source_checks flags found-o) (places ++ records) source-refuse p.1 in
      let r = both-passed places records (place-refuse os ms target (bit 0 flags) n x) q.1 in
      let denied : (bit 1 flags && not (eqb (source_mapping found-o).founder 1)) ≡ false = passed (source_checks flags found-o) 0 (when false 0) source-refuse q.0 1 (omega arith) in
      record {
        wanted = wanted flags n x (copy_number p.0 1 (omega arith)) (copy_number p.0 2 (omega arith)) (copy_number p.0 4 (omega arith));
        space = not-false (space_at os target) (copy_number p.0 5 (omega arith));
        source-space = not-false (space_at os source) (copy_number p.0 6 (omega arith));
        found-source = passed (source_checks flags found-o) 0 (when false 0) source-refuse q.0 0 (omega arith);
        right = λ b. eqb-true (source_mapping found-o).founder 1 (not-false (eqb (source_mapping found-o).founder 1) (sym (rw b) ∙ denied));
        placed = r.0;
        free = passed records 0 (when false 0) record_refuse r.1 0 (omega arith);
      }

-- ---- UNMAP

pub record UnmapPassed (os : List Object) (ms : List Mapping) (s a n : ℕ) : Type 0 where
  pub some : 0 < n
  pub ends : passes a n ≡ false
  pub space : space_at os s ≡ true
  pub uncut : any (cut_by s (range_asked a n)) ms ≡ false
  pub inside : asks_all a n ≡ false → any (within s (range_asked a n)) ms ≡ true

module _ (os : List Object) (ms : List Mapping) (s a n : ℕ) where
  pub unmap_numbers_refuse : Refusals (unmap_number_checks_at os s a n) 0
  unfolding unmap_number_checks
  unmap_numbers_refuse = (no 21, (no 74, (no 1, tt)))

  pub removal-refuse : Refusals (removal_checks ms s a n) 0
  unfolding removal_checks removal_by
  removal-refuse = (no 1, (no 1, tt))

  pub unmap_passed : first (unmap_checks_at os ms s a n) 0 ≡ 0 → UnmapPassed os ms s a n
  unfolding unmap_checks unmap_number_checks removal_checks removal_by
  unmap_passed e =
      let p = both-passed (unmap_number_checks_at os s a n) (removal_checks ms s a n) unmap_numbers_refuse e in
      let zero : eqb n 0 ≡ false = passed (unmap_number_checks_at os s a n) 0 (when false 0) unmap_numbers_refuse p.0 0 (omega arith) in
      let ne = eqb-false n 0 zero in
      let None : (not (asks_all a n) && not (any (within s (range_asked a n)) ms)) ≡ false = passed (removal_checks ms s a n) 0 (when false 0) removal-refuse p.1 1 (omega arith) in
      record {
        some = omega (arith, ne);
        ends = passed (unmap_number_checks_at os s a n) 0 (when false 0) unmap_numbers_refuse p.0 1 (omega arith);
        space = not-false (space_at os s) (passed (unmap_number_checks_at os s a n) 0 (when false 0) unmap_numbers_refuse p.0 2 (omega arith));
        uncut = passed (removal_checks ms s a n) 0 (when false 0) removal-refuse p.1 0 (omega arith);
        inside = λ b. not-false (any (within s (range_asked a n)) ms) (sym (rw b) ∙ None);
      }
