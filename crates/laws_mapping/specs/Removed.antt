-- What an accepted UNMAP removes: the bytes that it tells are those that the records lose, and no mapping that is left shares an address with the range asked.
use Rattle.std.specs.Prelude.{ℕ, ◌+◌, ◌≤◌, ◌≡◌, refl, Bool, true, false, not, ◌&&◌, List, [], ◌∷◌, map}
use Rattle.std.proofs.Common.{arith, ne_eqb}
use Rattle.lists.specs.Tests.{by-test, contrary}
use Rattle.lists.specs.Search.{any}
use Rattle.lists.specs.Each.{Each-map, Each-any_false, any-Each_false}
use Rattle.lists.specs.Sums.{sum_of, keep}
use Rattle.lists.specs.Checks.{first}
use Rattle.ranges.specs.declared.Range.{Range}
use Rattle.ranges.specs.Ranges.{share, inside}
use Rattle.rules_table.specs.declared.Object.{Object}
use Rattle.rules_table.specs.declared.Mapping.{Mapping}
use Rattle.rules_table.specs.declared.Table.{Table}
use Rattle.rules_table.specs.Records.{zero_mapping, free_object, space_at, of_space, extent, touches, within, cut_by, release}
use Rattle.table.specs.Cleared.{release-true, release-false}
use Rattle.rules_calls.specs.declared.Change.TheVariants.{Clear}
use Rattle.rules_calls.specs.Edits.{accept, applied}
use Rattle.rules_calls.specs.Unmap.{removed_bytes, range_asked, unmap_edit}
use Rattle.edits.specs.Settled.{space-id}
use Rattle.laws_mapping.specs.Passed.{settled-zero, unmap_passed}
use Rattle.edits.specs.Numbers.{unmap_checks_at, unmap_edit_at}

-- the bytes of all records: a released one has none
unfoldable pub mapped_bytes : List Mapping → ℕ
mapped_bytes ms = sum_of (λ (m : Mapping). m.length) ms

-- what is released and what is left make up the whole
released-bytes : (p : Mapping → Bool) (ms : List Mapping) → mapped_bytes ms ≡ mapped_bytes (map (release p) ms) + sum_of (λ (m : Mapping). m.length) (keep p ms)
unfolding mapped_bytes sum_of keep
released-bytes p [] = refl
released-bytes p (m ∷ ms) =
    by-test (p m)
    (λ e. rw (e, release-true p m e) (omega (arith, released-bytes p ms)))
    (λ e. rw (e, release-false p m e) (omega (arith, released-bytes p ms)))

-- a released record is touched by nothing of a space
none-released : (s : ℕ) (r : Range) → 1 ≤ s → touches s r zero_mapping ≡ false
unfolding touches of_space
none-released s r h = rw (ne_eqb 0 s (λ z. omega (arith, z)))

-- a mapping of the space that is not cut is inside, or is not touched
uncut-inside : (s : ℕ) (r : Range) (m : Mapping) → cut_by s r m ≡ false → within s r m ≡ false → touches s r m ≡ false
unfolding cut_by touches within
uncut-inside s r m c w = both_ways (of_space s m) (share r (extent m)) (inside (extent m) r) c w
  where
    both_ways : (o h i : Bool) → ((o && h) && not i) ≡ false → (o && i) ≡ false → (o && h) ≡ false
    both_ways false h i e f = refl
    both_ways true h true e f = contrary true refl f
    both_ways true true false e f = e
    both_ways true false false e f = refl

left_alone : (s : ℕ) (r : Range) (m : Mapping) → 1 ≤ s → cut_by s r m ≡ false → touches s r (release (within s r) m) ≡ false
left_alone s r m h c =
    by-test (within s r m)
    (λ e. rw (release-true (within s r) m e) (none-released s r h))
    (λ e. rw (release-false (within s r) m e) (uncut-inside s r m c e))

-- after nothing was cut, nothing that is left shares an address with the range
pub cleared-alone : (s : ℕ) (r : Range) (ms : List Mapping) → 1 ≤ s → any (cut_by s r) ms ≡ false → any (touches s r) (map (release (within s r)) ms) ≡ false
cleared-alone s r ms h c =
    any-Each_false (touches s r) (map (release (within s r)) ms)
    (Each-map (λ m. cut_by s r m ≡ false) (λ m. touches s r m ≡ false) (release (within s r)) ms (λ m. left_alone s r m h) (Each-any_false (cut_by s r) ms c))

pub space-some : (os : List Object) (s : ℕ) → space_at os s ≡ true → 1 ≤ s
unfolding space_at
space-some os s e = space-id os s e

-- ---- an accepted UNMAP

module _ (t : Table) (s a n : ℕ) (e : (unmap_edit_at t.objects t.mappings s a n).errno ≡ 0) where
  checked : first (unmap_checks_at t.objects t.mappings s a n) 0 ≡ 0
  unfolding unmap_edit
  checked = settled-zero (first (unmap_checks_at t.objects t.mappings s a n) 0) (accept (removed_bytes s (range_asked a n) t.mappings) (Clear s (range_asked a n)) free_object) e

  taken : unmap_edit_at t.objects t.mappings s a n ≡ accept (removed_bytes s (range_asked a n) t.mappings) (Clear s (range_asked a n)) free_object
  unfolding unmap_edit
  taken = rw checked

  -- the bytes told are those that the records lose
  pub unmap_told : mapped_bytes t.mappings ≡ mapped_bytes (applied t (unmap_edit_at t.objects t.mappings s a n)).mappings + (unmap_edit_at t.objects t.mappings s a n).value
  unfolding applied removed_bytes
  unmap_told = rw taken (released-bytes (within s (range_asked a n)) t.mappings)

  -- no mapping that is left shares an address with the range asked
  pub unmap_left : any (touches s (range_asked a n)) (applied t (unmap_edit_at t.objects t.mappings s a n)).mappings ≡ false
  unfolding applied
  unmap_left =
      let p = unmap_passed t.objects t.mappings s a n checked in
      rw taken (cleared-alone s (range_asked a n) t.mappings (space-some t.objects s p.space) p.uncut)
