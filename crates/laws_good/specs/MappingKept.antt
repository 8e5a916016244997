-- MAP, COPY and UNMAP keep a sound table sound, and change no mapping, list or device of another space.
use Rattle.std.specs.Prelude.{ℕ, ◌≤◌, ◌≡◌, true, false, Option, None, Some}
use Rattle.std.proofs.Math.Path.{refl}
use Rattle.std.proofs.Common.{sym, ap, ◌∙◌, arith}
use Rattle.lists.specs.Tests.{contrary}
use Rattle.lists.specs.Search.{any}
use Rattle.lists.specs.Update.{upd}
use Rattle.lists.specs.Checks.{first}
use Rattle.ranges.specs.Pages.{pages_touched}
use Rattle.rules_table.specs.Flags.{bit}
use Rattle.rules_table.specs.declared.Mapping.{Mapping}
use Rattle.rules_table.specs.declared.Table.{Table}
use Rattle.rules_table.specs.Records.{free_object}
use Rattle.rules_table.specs.Charge.{backs, mapping_pages, free_mapping, free_backing}
use Rattle.table.specs.Sound.{backing_of, Shares, Sound}
use Rattle.table.specs.Facts.{used-record}
use Rattle.table.specs.Charged.{free-backing}
use Rattle.table.specs.Joined.{agree-new, agree-joined, charge-new, charge-joined}
use Rattle.rules_calls.specs.declared.Change.TheVariants.{Map, Clear}
use Rattle.rules_calls.specs.Edits.{accept, applied, is_none, number_in}
use Rattle.edits.specs.Kept.{settle-sound}
use Rattle.edits.specs.Untouched.{untouched-same, settle-untouched}
use Rattle.rules_table.specs.Untouched.{Untouched}
use Rattle.edits.specs.Mapped.{map_sound, map_untouched, clear-sound, clear-untouched}
use Rattle.rules_calls.specs.Copy.{source_of, source_mapping, copy_of, copying, copy_edit}
use Rattle.rules_calls.specs.Unmap.{removed_bytes, range_asked, unmap_edit}
use Rattle.rules_calls.specs.Landing.{place_at}
use Rattle.landing.specs.Landed.{Landed, place-landed}
use Rattle.rules_calls.specs.Map.{mapped, found_of, founding, map_edit}
use Rattle.laws_mapping.specs.Passed.{MapPassed, map_passed, CopyPassed, copy_passed}
use Rattle.laws_mapping.specs.Made.{free-record, free-number, found-used, found-alone, found_ok, SourceIs, source_is, copy_used, copy_alone, copy_ok, copy_shares}
use Rattle.edits.specs.Numbers.{map_checks_at, map_edit_at, copy_checks_at, copy_edit_at, unmap_checks_at, unmap_edit_at}

-- ---- MAP

-- a mapping of a backing that none has goes into a free record
module _ (t : Table) (g : Sound t) (i b flags s memory n x a : ℕ) (free : free_mapping t.mappings ≡ Some i) (number : free_backing t.mappings ≡ Some b)
    (p : MapPassed t.limit t.objects t.mappings flags s memory n x) (l : Landed t.objects t.mappings s n a) where
  new_pages : mapping_pages (found_of b flags s memory n a) ≡ pages_touched memory n
  unfolding mapping_pages found_of
  new_pages = refl

  new_backing : any (backs (found_of b flags s memory n a).backing) t.mappings ≡ false
  unfolding found_of
  new_backing = (free-number t.mappings b number).2

  new_from : 1 ≤ (found_of b flags s memory n a).backing
  unfolding found_of
  new_from = (free-number t.mappings b number).0

  new_upto : (found_of b flags s memory n a).backing ≤ 128
  unfolding found_of
  new_upto = (free-number t.mappings b number).1

  founded-sound : Sound (applied t (accept (found_of b flags s memory n a).address (Map i (found_of b flags s memory n a)) free_object))
  unfolding applied
  founded-sound =
      let m = found_of b flags s memory n a in
      let r = free-record t.objects t.mappings i g.records free in
      let u = found-used t.objects t.mappings b flags s memory n a p.space in
      let ok = found_ok t.objects t.mappings b flags s memory n a x p.wanted p.space p.memory-ends l (free-number t.mappings b number).0 (free-number t.mappings b number).1 in
      let c = charge-new t.mappings i m r.0 r.1 t.objects g.records (used-record t.objects m u ok) g.info g.agree new_backing new_from new_upto in
      map_sound t i m r.0 r.1 g (upd g.info m.backing (backing_of m)) u ok (found-alone t.objects t.mappings b flags s memory n a l)
      (agree-new t.mappings i m r.0 r.1 g.info new_backing g.agree) (omega (arith, c, new_pages, p.room))

pub map_kept : (t : Table) (flags s z memory n x : ℕ) → Sound t → Sound (applied t (map_edit_at t.limit t.objects t.mappings flags s z memory n x))
unfolding map_edit founding
map_kept t flags s z memory n x g =
    settle-sound t (first (map_checks_at t.limit t.objects t.mappings flags s z memory n x) 0) _ g (λ e.
    let p = map_passed t.limit t.objects t.mappings flags s z memory n x e in
    go (free_mapping t.mappings) refl p (place-landed t.objects t.mappings s n (bit 0 flags) x p.wanted.fixed p.placed))
  where
    go : (o : Option ℕ) → free_mapping t.mappings ≡ o → MapPassed t.limit t.objects t.mappings flags s memory n x → Landed t.objects t.mappings s n (place_at t.objects t.mappings s (bit 0 flags) n x)
        → Sound (applied t (mapped o (found_of (number_in (free_backing t.mappings)) flags s memory n (place_at t.objects t.mappings s (bit 0 flags) n x))))
    go None e p l = contrary true refl (sym (ap (λ (q : Option ℕ). is_none q) e) ∙ p.free)
    go (Some i) e p l =
        let w = free-backing t.objects t.mappings i g.counted g.records e in
        rw w.1 (founded-sound t g i w.0 flags s memory n x (place_at t.objects t.mappings s (bit 0 flags) n x) e w.1 p l)

-- a new mapping in a free record changes no space but its own
module _ (t : Table) (g : Sound t) (m : Mapping) (k : ℕ) (ne : m.space ≡ k → ⊥) where
  pub put_other : (o : Option ℕ) → free_mapping t.mappings ≡ o → Untouched k t (applied t (mapped o m))
  unfolding applied
  put_other None e = untouched-same k t
  put_other (Some i) e = let r = free-record t.objects t.mappings i g.records e in map_untouched t i m r.0 r.1 k ne

pub map_other : (k : ℕ) (t : Table) (flags s z memory n x : ℕ) → Sound t → (s ≡ k → ⊥) → Untouched k t (applied t (map_edit_at t.limit t.objects t.mappings flags s z memory n x))
unfolding map_edit founding found_of
map_other k t flags s z memory n x g ne =
    settle-untouched k t (first (map_checks_at t.limit t.objects t.mappings flags s z memory n x) 0) _ (λ e. put_other t g _ k ne (free_mapping t.mappings) refl)

-- ---- COPY

module _ (t : Table) (g : Sound t) (i : ℕ) (m : Mapping) (flags target source n x y a : ℕ) (free : free_mapping t.mappings ≡ Some i)
    (p : CopyPassed t.objects t.mappings flags target source n x y) (q : SourceIs t.objects g.info t.mappings source y n m)
    (right : bit 1 flags ≡ true → m.founder ≡ 1) (l : Landed t.objects t.mappings target n a) where
  old-backing : any (backs (copy_of m flags target n a).backing) t.mappings ≡ true
  unfolding copy_of
  old-backing = q.backed

  old-shares : Shares (g.info (copy_of m flags target n a).backing) (copy_of m flags target n a)
  unfolding copy_of
  old-shares = copy_shares t.objects t.mappings m flags target n a (g.info m.backing) q.shares q.is-long

  copied-sound : Sound (applied t (accept (copy_of m flags target n a).address (Map i (copy_of m flags target n a)) free_object))
  unfolding applied
  copied-sound =
      let c = copy_of m flags target n a in
      let r = free-record t.objects t.mappings i g.records free in
      let u = copy_used t.objects t.mappings m flags target n a p.space in
      let ok = copy_ok t.objects t.mappings m flags target n a x p.wanted p.space l q.ok q.is-long right in
      let same = charge-joined t.mappings i c r.0 r.1 t.objects g.records (used-record t.objects c u ok) g.info g.agree old-backing old-shares in
      map_sound t i c r.0 r.1 g g.info u ok (copy_alone t.objects t.mappings m flags target n a l)
      (agree-joined t.mappings i c r.0 r.1 g.info old-shares g.agree) (omega (arith, same, g.charged))

pub copy_kept : (t : Table) (flags target source n x y : ℕ) → Sound t → Sound (applied t (copy_edit_at t.objects t.mappings flags target source n x y))
unfolding copy_edit copying
copy_kept t flags target source n x y g =
    settle-sound t (first (copy_checks_at t.objects t.mappings flags target source n x y) 0) _ g (λ e.
    let p = copy_passed t.objects t.mappings flags target source n x y e in
    go (free_mapping t.mappings) refl p (place-landed t.objects t.mappings target n (bit 0 flags) x p.wanted.fixed p.placed))
  where
    go : (o : Option ℕ) → free_mapping t.mappings ≡ o → CopyPassed t.objects t.mappings flags target source n x y → Landed t.objects t.mappings target n (place_at t.objects t.mappings target (bit 0 flags) n x)
        → Sound (applied t (mapped o (copy_of (source_mapping (source_of t.mappings source y n)) flags target n (place_at t.objects t.mappings target (bit 0 flags) n x))))
    go None e p l = contrary true refl (sym (ap (λ (q : Option ℕ). is_none q) e) ∙ p.free)
    go (Some i) e p l =
        copied-sound t g i (source_mapping (source_of t.mappings source y n)) flags target source n x y (place_at t.objects t.mappings target (bit 0 flags) n x) e p
        (source_is t.objects g.info t.mappings g.records g.agree source y n p.source-space p.found-source) p.right l

pub copy_other : (k : ℕ) (t : Table) (flags target source n x y : ℕ) → Sound t → (target ≡ k → ⊥) → Untouched k t (applied t (copy_edit_at t.objects t.mappings flags target source n x y))
unfolding copy_edit copying copy_of
copy_other k t flags target source n x y g ne =
    settle-untouched k t (first (copy_checks_at t.objects t.mappings flags target source n x y) 0) _ (λ e. put_other t g _ k ne (free_mapping t.mappings) refl)

-- ---- UNMAP

pub unmap_kept : (t : Table) (s a n : ℕ) → Sound t → Sound (applied t (unmap_edit_at t.objects t.mappings s a n))
unfolding unmap_edit applied
unmap_kept t s a n g =
    settle-sound t (first (unmap_checks_at t.objects t.mappings s a n) 0) (accept (removed_bytes s (range_asked a n) t.mappings) (Clear s (range_asked a n)) free_object) g (λ e. clear-sound t s (range_asked a n) g)

pub unmap_other : (k : ℕ) (t : Table) (s a n : ℕ) → (s ≡ k → ⊥) → Untouched k t (applied t (unmap_edit_at t.objects t.mappings s a n))
unfolding unmap_edit applied
unmap_other k t s a n ne =
    settle-untouched k t (first (unmap_checks_at t.objects t.mappings s a n) 0) (accept (removed_bytes s (range_asked a n) t.mappings) (Clear s (range_asked a n)) free_object) (λ e. clear-untouched k t s (range_asked a n) ne)
