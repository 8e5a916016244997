-- Every call: what the ledger is fed keeps it in step with the table.
use Rattle.std.specs.Prelude.{ℕ, zero, suc, ◌+◌, ◌<◌, ◌≡◌, Bool, false, ◌&&◌, cond, List, map, eqb, pos, negsuc, get_or, Some}
use Rattle.std.proofs.Math.Path.{refl, ap}
use Rattle.std.proofs.Common.{sym, ◌∙◌, arith, eqb-true, ne_eqb}
use Rattle.std.proofs.Math.Bool.{true}
use Rattle.std.proofs.Math.ListN as ListN
use Rattle.std.proofs.lemmas.Bool.{eqb-false}
use Rattle.lists.specs.Tests.{by-test, contrary, and_left, and_right, and_both}
use Rattle.lists.specs.Search.{any, any_none, find-some_any}
use Rattle.lists.specs.Sums.{sum_of, keep}
use Rattle.lists.specs.Update.{upd}
use Rattle.ranges.specs.declared.Range.{Range}
use Rattle.ranges.specs.Ranges.{inside, span}
use Rattle.ranges.specs.Pages.{pages_touched}
use Rattle.wire.specs.Fields.{field}
use Rattle.rules_calls.specs.Results.{signed_result}
use Rattle.opening.specs.Signed.{result-zero, result-suc}
use Rattle.rules_table.specs.declared.Mapping.{Mapping}
use Rattle.rules_table.specs.declared.Table.{Table}
use Rattle.rules_table.specs.Records.{zero_mapping, free_object, used, of_space, extent, within, space_at, release}
use Rattle.rules_table.specs.Charge.{backs, mapping_pages}
use Rattle.table.specs.Sound.{Sound}
use Rattle.table.specs.Cleared.{within_all}
use Rattle.table.specs.Charged.{backs-of}
use Rattle.rules_calls.specs.declared.Edit.{Edit}
use Rattle.rules_calls.specs.declared.Change.TheVariants.{Clear}
use Rattle.rules_calls.specs.Edits.{accept, applied}
use Rattle.edits.specs.Parts.{put_mapping, clear_inside}
use Rattle.rules_calls.specs.Answers.{outcome}
use Rattle.rules_calls.specs.Copy.{is_source, source_of, copy_of}
use Rattle.rules_calls.specs.Unmap.{removed_bytes, asks_all, range_asked}
use Rattle.rules_calls.specs.Map.{found_of}
use Rattle.rules_calls.specs.Named.{copy_decided, copy_call, copy_answer, copy_bytes, unmap_decided, unmap_call, unmap_answer, unmap_bytes, map_decided, map_call, map_answer, map_bytes}
use Rattle.laws_mapping.specs.Made.{free-record, free-number, found-used, copy_used, find-each, source-of}
use Rattle.laws_mapping.specs.Accepted.{Accepted}
use Rattle.laws_mapping.specs.Lowest.{map_accepted, map_written, copy_accepted, copy_written}
use Rattle.laws_mapping.specs.Unmapped.{unmap_accepted, unmap_written}
use Rattle.rules_history.specs.Ledger.{Ledger, tick, accepts, with_map, source_entry, with_copy, entry_range, struck_by, with_unmap}
use Rattle.laws_history.specs.Rel.{view, pages_by, had, bytes_in, Rel, rel_tick, rel_new, rel_more, Strike, rel_gone, bytes-other, bytes-own, live-some}
use Rattle.laws_history.specs.Source.{source-entry}
use Rattle.laws_history.specs.Done.{MapDone, map_done, CopyDone, copy_done, unmap_done}

-- a table that is the same
pub same-tick : (l : Ledger) (t u : Table) → Rel l t → u ≡ t → Rel (tick l) u
same-tick l t u q e = rel_tick l t u q (ap (λ (x : Table). x.mappings) e) (λ s. ap (λ (x : Table). space_at x.objects s) e)

-- a result below zero, and one that is not
pub below : (n : ℕ) → accepts (signed_result n) ≡ false → (k : ℕ) × (signed_result n ≡ negsuc k)
below zero e = contrary true refl (sym (ap accepts result-zero) ∙ e)
below (suc n) e = (n, result-suc n)

pub not_below : (n : ℕ) → accepts (signed_result n) ≡ true → signed_result n ≡ pos 0
not_below zero e = result-zero
not_below (suc n) e = contrary false (sym (ap accepts (result-suc n)) ∙ e) refl

-- ---- MAP

none_has : (ms : List Mapping) (b : ℕ) → any (backs b) ms ≡ false → had b ms ≡ false
unfolding had
none_has ms b e = any_none (λ m. used m && backs b m) (backs b) ms (λ m v. and_right (used m) (backs b m) v) e

-- the table after an accepted call is that of the edit it decided
module _ (t : Table) (g : Sound t) (bytes : List ℕ) where
  map_decided-gives : (map_decided t bytes).errno ≡ 0 → MapDone t (field 4 bytes 4) (field 4 bytes 8) (field 8 bytes 16) (field 8 bytes 24) (field 8 bytes 32) (map_decided t bytes)
  map_decided-gives e = map_done t (field 4 bytes 4) (field 4 bytes 8) (field 4 bytes 12) (field 8 bytes 16) (field 8 bytes 24) (field 8 bytes 32) g e

  map_after : Accepted t 0x3B85 bytes (map_decided t bytes) → (d : MapDone t (field 4 bytes 4) (field 4 bytes 8) (field 8 bytes 16) (field 8 bytes 24) (field 8 bytes 32) (map_decided t bytes))
      → (map_answer t bytes).table ≡ put_mapping t d.slot (found_of d.number (field 4 bytes 4) (field 4 bytes 8) (field 8 bytes 16) (field 8 bytes 24) d.address)
  unfolding map_answer map_call outcome applied
  map_after a d = ap (applied t) (a.same ∙ d.is)

module _ (l : Ledger) (t : Table) (g : Sound t) (q : Rel l t) (bytes : List ℕ) where
  -- the ledger's entry is the mapping
  map_entered : (number slot address : ℕ) (written : List ℕ) → field 8 written 32 ≡ address → slot < ListN.length t.mappings → get_or t.mappings slot zero_mapping ≡ zero_mapping
      → used (found_of number (field 4 bytes 4) (field 4 bytes 8) (field 8 bytes 16) (field 8 bytes 24) address) ≡ true → had number t.mappings ≡ false
      → Rel (with_map bytes written l) (put_mapping t slot (found_of number (field 4 bytes 4) (field 4 bytes 8) (field 8 bytes 16) (field 8 bytes 24) address))
  unfolding found_of mapping_pages
  map_entered number slot address written w h free u new =
      rw w (rel_new l t q slot (found_of number (field 4 bytes 4) (field 4 bytes 8) (field 8 bytes 16) (field 8 bytes 24) address) h free u new)

  pub map_fed : (map_answer t bytes).result ≡ pos 0 → Rel (with_map bytes (map_bytes t bytes) l) (map_answer t bytes).table
  map_fed ok =
      let a = map_accepted t bytes ok in
      let d = map_decided-gives t g bytes a.errno in
      let r = free-record t.objects t.mappings d.slot g.records d.free in
      let b = free-number t.mappings d.number d.unused in
      let u = found-used t.objects t.mappings d.number (field 4 bytes 4) (field 4 bytes 8) (field 8 bytes 16) (field 8 bytes 24) d.address d.passed.space in
      rw (map_after t g bytes a d)
      (map_entered d.number d.slot d.address (map_bytes t bytes) (map_written t bytes ok ∙ ap (λ (e : Edit). e.value) d.is) r.0 r.1 u (none_has t.mappings d.number b.2))

-- ---- COPY

module _ (t : Table) (bytes : List ℕ) where
  copy_decided-gives : (copy_decided t bytes).errno ≡ 0 → CopyDone t (field 4 bytes 4) (field 4 bytes 8) (field 4 bytes 12) (field 8 bytes 16) (field 8 bytes 24) (field 8 bytes 32) (copy_decided t bytes)
  copy_decided-gives e = copy_done t (field 4 bytes 4) (field 4 bytes 8) (field 4 bytes 12) (field 8 bytes 16) (field 8 bytes 24) (field 8 bytes 32) e

  copy_after : Accepted t 0x3B83 bytes (copy_decided t bytes) → (d : CopyDone t (field 4 bytes 4) (field 4 bytes 8) (field 4 bytes 12) (field 8 bytes 16) (field 8 bytes 24) (field 8 bytes 32) (copy_decided t bytes))
      → (copy_answer t bytes).table ≡ put_mapping t d.slot (copy_of d.from (field 4 bytes 4) (field 4 bytes 8) (field 8 bytes 16) d.address)
  unfolding copy_answer copy_call outcome applied
  copy_after a d = ap (applied t) (a.same ∙ d.is)

-- the source's backing is had
source-had : (ms : List Mapping) (s y n : ℕ) (m : Mapping) → source_of ms s y n ≡ Some m → used m ≡ true → had m.backing ms ≡ true
unfolding had source_of
source-had ms s y n m e u =
    by-test (any (λ x. used x && backs m.backing x) ms) (λ v. v)
    (λ v. contrary (used m && backs m.backing m) (and_both (used m) (backs m.backing m) u (backs-of m.backing m refl)) (find-some_any (is_source s y n) (λ x. used x && backs m.backing x) ms m e v))

module _ (l : Ledger) (t : Table) (g : Sound t) (q : Rel l t) (bytes : List ℕ) where
  copy_entered : (m : Mapping) (slot address : ℕ) (written : List ℕ) → field 8 written 24 ≡ address
      → source_entry l.entries (field 4 bytes 12) (field 8 bytes 32) (field 8 bytes 16) ≡ view q.who m
      → slot < ListN.length t.mappings → get_or t.mappings slot zero_mapping ≡ zero_mapping
      → used (copy_of m (field 4 bytes 4) (field 4 bytes 8) (field 8 bytes 16) address) ≡ true → had m.backing t.mappings ≡ true → pages_by (q.who m.backing) l.made ≡ mapping_pages m → m.length ≡ field 8 bytes 16
      → Rel (with_copy bytes written l) (put_mapping t slot (copy_of m (field 4 bytes 4) (field 4 bytes 8) (field 8 bytes 16) address))
  unfolding copy_of mapping_pages
  copy_entered m slot address written w s h free u old pages long =
      rw (w, s)
      (rel_more l t q slot (copy_of m (field 4 bytes 4) (field 4 bytes 8) (field 8 bytes 16) address) h free u old (pages ∙ ap (pages_touched m.memory) long))

  pub copy_fed : (copy_answer t bytes).result ≡ pos 0 → Rel (with_copy bytes (copy_bytes t bytes) l) (copy_answer t bytes).table
  unfolding source_of
  copy_fed ok =
      let a = copy_accepted t bytes ok in
      let d = copy_decided-gives t bytes a.errno in
      let m = d.from in
      let s = source-of t.objects g.info t.mappings g.records g.agree (field 4 bytes 12) (field 8 bytes 32) (field 8 bytes 16) d.passed.source-space m d.sought in
      let r = free-record t.objects t.mappings d.slot g.records d.free in
      let u = copy_used t.objects t.mappings m (field 4 bytes 4) (field 4 bytes 8) (field 8 bytes 16) d.address d.passed.space in
      rw (copy_after t bytes a d)
      (copy_entered m d.slot d.address (copy_bytes t bytes) (copy_written t bytes ok ∙ ap (λ (e : Edit). e.value) d.is)
      (source-entry l t q g (field 4 bytes 12) (field 8 bytes 32) (field 8 bytes 16) m d.sought s.is-used) r.0 r.1 u
      (source-had t.mappings (field 4 bytes 12) (field 8 bytes 32) (field 8 bytes 16) m d.sought s.is-used)
      (find-each (λ x. used x ≡ true → pages_by (q.who x.backing) l.made ≡ mapping_pages x) (is_source (field 4 bytes 12) (field 8 bytes 32) (field 8 bytes 16)) t.mappings m q.known d.sought s.is-used) s.is-long)

-- ---- UNMAP

space-is : (s : ℕ) (m : Mapping) → of_space s m ≡ eqb m.space s
unfolding of_space
space-is s m = refl

inside_is : (s : ℕ) (r : Range) (m : Mapping) → within s r m ≡ (eqb m.space s && inside (span m.address m.length) r)
unfolding within of_space extent
inside_is s r m = refl

and-true : (b : Bool) → (b && true) ≡ b
and-true true = refl
and-true false = refl

struck_same : (s a n : ℕ) (who : ℕ → ℕ) (m : Mapping) → within s (range_asked a n) m ≡ struck_by s a n (view who m)
unfolding range_asked struck_by entry_range
struck_same s a n who m =
    by-test (asks_all a n)
    (λ e. rw e (within_all s m ∙ space-is s m ∙ sym (and-true (eqb m.space s))))
    (λ e. rw e (inside_is s (span a n) m))

unmap_strike : (s a n : ℕ) → Strike (within s (range_asked a n)) (struck_by s a n)
unmap_strike s a n = record { same = λ who m u. struck_same s a n who m }

within_of : (s : ℕ) (r : Range) (m : Mapping) → within s r m ≡ true → of_space s m ≡ true
unfolding within
within_of s r m e = and_left (of_space s m) (inside (extent m) r) e

-- a mapping of one space is not of another
pub two-spaces : (s z : ℕ) (m : Mapping) → (z ≡ s → ⊥) → of_space s m ≡ true → of_space z m ≡ false
unfolding of_space
two-spaces s z m ne e = ne_eqb m.space z (λ y. ne (sym y ∙ eqb-true m.space s e))

module _ (t : Table) (bytes : List ℕ) where
  unmap_is : (unmap_decided t bytes).errno ≡ 0 → unmap_decided t bytes ≡ accept (removed_bytes (field 4 bytes 4) (range_asked (field 8 bytes 8) (field 8 bytes 16)) t.mappings) (Clear (field 4 bytes 4) (range_asked (field 8 bytes 8) (field 8 bytes 16))) free_object
  unmap_is e = (unmap_done t (field 4 bytes 4) (field 8 bytes 8) (field 8 bytes 16) e).1

  pub unmap_after : (unmap_answer t bytes).result ≡ pos 0 → (unmap_answer t bytes).table ≡ clear_inside t (field 4 bytes 4) (range_asked (field 8 bytes 8) (field 8 bytes 16))
  unfolding unmap_answer unmap_call outcome applied
  unmap_after ok = let a = unmap_accepted t bytes ok in ap (applied t) (a.same ∙ unmap_is a.errno)

  unmap_length : (unmap_answer t bytes).result ≡ pos 0 → field 8 (unmap_bytes t bytes) 16 ≡ sum_of (λ (m : Mapping). m.length) (keep (within (field 4 bytes 4) (range_asked (field 8 bytes 8) (field 8 bytes 16))) t.mappings)
  unfolding removed_bytes
  unmap_length ok = unmap_written t bytes ok ∙ ap (λ (e : Edit). e.value) (unmap_is (unmap_accepted t bytes ok).errno)

-- the bytes of each space, after some mappings of s went
module _ (l : Ledger) (t : Table) (q : Rel l t) (p : Mapping → Bool) (s : ℕ) (own : (m : Mapping) → p m ≡ true → of_space s m ≡ true) where
  bytes-gone : (n z : ℕ) → n ≡ sum_of (λ (m : Mapping). m.length) (keep p t.mappings) → l.live z ≡ true → l.accepted z ≡ upd l.removed s (l.removed s + n) z + bytes_in z (map (release p) t.mappings)
  bytes-gone n z e v = go (eqb z s) refl
    where
      go : (b : Bool) → eqb z s ≡ b → l.accepted z ≡ cond b (l.removed s + n) (l.removed z) + bytes_in z (map (release p) t.mappings)
      go true f =
          let es : z ≡ s = eqb-true z s f in
          let Some : s ≡ 0 → ⊥ = λ y. live-some l t q z v (es ∙ y) in
          rw es (omega (arith, bytes-own p s t.mappings Some own, q.bytes s (rw (← es) v), e))
      go false f = omega (arith, bytes-other p z t.mappings (live-some l t q z v) (λ m y. two-spaces s z m (eqb-false z s f) (own m y)), q.bytes z v)

module _ (l : Ledger) (t : Table) (q : Rel l t) (bytes : List ℕ) where
  unmap_cleared : (written : List ℕ) → field 8 written 16 ≡ sum_of (λ (m : Mapping). m.length) (keep (within (field 4 bytes 4) (range_asked (field 8 bytes 8) (field 8 bytes 16))) t.mappings)
      → Rel (with_unmap bytes written l) (clear_inside t (field 4 bytes 4) (range_asked (field 8 bytes 8) (field 8 bytes 16)))
  unfolding applied
  unmap_cleared written w =
      let s = field 4 bytes 4 in
      let r = range_asked (field 8 bytes 8) (field 8 bytes 16) in
      rel_gone l t q (within s r) (struck_by s (field 8 bytes 8) (field 8 bytes 16)) (unmap_strike s (field 8 bytes 8) (field 8 bytes 16)) l.live (upd l.removed s (l.removed s + field 8 written 16))
      (clear_inside t s r) refl q.spaces (λ z v. bytes-gone l t q (within s r) s (within_of s r) (field 8 written 16) z w v)

  pub unmap_fed : (unmap_answer t bytes).result ≡ pos 0 → Rel (with_unmap bytes (unmap_bytes t bytes) l) (unmap_answer t bytes).table
  unmap_fed ok = rw (unmap_after t bytes ok) (unmap_cleared (unmap_bytes t bytes) (unmap_length t bytes ok))
