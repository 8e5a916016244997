-- A mapping that is put into a released record, and mappings that are released: both keep a sound table sound and leave other spaces as they were.
use Rattle.std.specs.Prelude.{ℕ, ◌+◌, ◌≤◌, ◌<◌, ◌≡◌, true, false, ◌&&◌, eqb, get_or, set}
use Rattle.std.proofs.Math.Path.{refl}
use Rattle.std.proofs.Common.{sym, ◌∙◌, arith}
use Rattle.std.proofs.Math.ListN as ListN
use Rattle.std.proofs.Math.ListN.{length-set}
use Rattle.std.proofs.lemmas.List.{length-map}
use Rattle.std.proofs.Math.Seq.{map-set_same}
use borrow.Author.Tests.{eqb-true, eq-eqb, ne_eqb}
use Rattle.lists.specs.Tests.{by-test, only_if, and_left, and_right, and_both}
use Rattle.lists.specs.Search.{any, any_none}
use Rattle.lists.specs.Each.{Each-set}
use Rattle.lists.specs.Sums.{sum_of, count_of}
use Rattle.lists.specs.Update.{sum_of-set}
use Rattle.ranges.specs.declared.Range.{Range}
use Rattle.ranges.specs.Ranges.{holds, share, share-of, inside}
use Rattle.rules_table.specs.declared.Mapping.{Mapping}
use Rattle.rules_table.specs.declared.Table.{Table}
use Rattle.rules_table.specs.Records.{zero_mapping, used, of_space, extent, touches, within, release, covers}
use Rattle.rules_table.specs.Charge.{charge}
use Rattle.table.specs.Checked.{record_ok}
use Rattle.table.specs.Sound.{Backing, Agree, Sound}
use Rattle.table.specs.Facts.{UsedOk, used-record}
use Rattle.lists.specs.Counting.{count_of-none}
use Rattle.table.specs.Cleared.{release-records, release-agree, release-once}
use Rattle.rules_calls.specs.Edits.{applied}
use Rattle.edits.specs.Parts.{put_mapping, clear_inside}
use Rattle.edits.specs.Kept.{charge-less}
use Rattle.edits.specs.Untouched.{map_only_of}
use Rattle.rules_table.specs.Untouched.{only_of, Untouched}

-- ---- a mapping is put into a released record

-- a mapping that covers an address which m covers is one that m touches
covers-touches : (s a : ℕ) (m n : Mapping) → covers s a m ≡ true → covers s a n ≡ true → touches m.space (extent m) n ≡ true
unfolding covers touches of_space
covers-touches s a m n e f =
    let rm = and_right (used m) (eqb m.space s && holds (extent m) a) e in
    let rn = and_right (used n) (eqb n.space s && holds (extent n) a) f in
    let sm = eqb-true m.space s (and_left (eqb m.space s) (holds (extent m) a) rm) in
    let sn = eqb-true n.space s (and_left (eqb n.space s) (holds (extent n) a) rn) in
    and_both (eqb n.space m.space) (share (extent m) (extent n)) (eq-eqb n.space m.space (sn ∙ sym sm))
    (share-of (extent m) (extent n) a (and_right (eqb m.space s) (holds (extent m) a) rm) (and_right (eqb n.space s) (holds (extent n) a) rn))

module _ (t : Table) (i : ℕ) (m : Mapping) (h : i < ListN.length t.mappings) (free : get_or t.mappings i zero_mapping ≡ zero_mapping) where
  -- each address of a space is still covered at most once, where m touches no mapping of its space
  put-once : any (touches m.space (extent m)) t.mappings ≡ false → ((s a : ℕ) → count_of (covers s a) t.mappings ≤ 1) → (s a : ℕ) → count_of (covers s a) (set t.mappings i m) ≤ 1
  unfolding count_of
  put-once clear once s a =
      by-test (covers s a m)
      (λ e.
      let none : sum_of (λ n. only_if (covers s a n) 1) t.mappings ≡ 0
      = count_of-none (covers s a) t.mappings (any_none (covers s a) (touches m.space (extent m)) t.mappings (λ n f. covers-touches s a m n e f) clear) in
      let own : only_if (covers s a m) 1 ≡ 1 = rw e refl in omega (arith, none, stored, own))
      (λ e. let own : only_if (covers s a m) 1 ≡ 0 = rw e refl in omega (arith, once s a, stored, own))
    where
      stored : sum_of (λ n. only_if (covers s a n) 1) (set t.mappings i m) + only_if (covers s a (get_or t.mappings i zero_mapping)) 1 ≡ sum_of (λ n. only_if (covers s a n) 1) t.mappings + only_if (covers s a m) 1
      stored = sum_of-set (λ n. only_if (covers s a n) 1) t.mappings zero_mapping i m h

  pub map_sound : Sound t → (info : ℕ → Backing) → used m ≡ true → UsedOk t.objects m → any (touches m.space (extent m)) t.mappings ≡ false
      → Agree info (set t.mappings i m) → charge (set t.mappings i m) ≤ t.limit → Sound (put_mapping t i m)
  unfolding applied
  map_sound g info u ok clear agree less = record {
    objects = g.objects;
    records = Each-set (λ n. record_ok t.objects n ≡ true) t.mappings i m (used-record t.objects m u ok) g.records;
    once = put-once clear g.once;
    info = info;
    agree = agree;
    counted = length-set t.mappings i m ∙ g.counted;
    places = g.places;
    most = g.most;
    charged = less;
  }

  pub map_untouched : (s : ℕ) → (m.space ≡ s → ⊥) → Untouched s t (put_mapping t i m)
  unfolding applied only_of of_space
  map_untouched s ne = record {
    mappings = map-set_same (only_of s) t.mappings i m zero_mapping (rw (free, ne_eqb m.space s ne) (by-test (eqb 0 s) (λ z. rw z) (λ z. rw z)));
    itself = refl;
    devices = refl;
  }

-- ---- mappings are released

pub clear-sound : (t : Table) (s : ℕ) (r : Range) → Sound t → Sound (clear_inside t s r)
unfolding applied
clear-sound t s r g = record {
  objects = g.objects;
  records = release-records (within s r) t.objects t.mappings g.records;
  once = release-once (within s r) t.mappings g.once;
  info = g.info;
  agree = release-agree (within s r) g.info t.mappings g.agree;
  counted = length-map t.mappings (release (within s r)) ∙ g.counted;
  places = g.places;
  most = g.most;
  charged = charge-less t (within s r) g;
}

within-space : (s : ℕ) (r : Range) (m : Mapping) → within s r m ≡ true → m.space ≡ s
unfolding within of_space
within-space s r m e = eqb-true m.space s (and_left (eqb m.space s) (inside (extent m) r) e)

pub clear-untouched : (s : ℕ) (t : Table) (k : ℕ) (r : Range) → (k ≡ s → ⊥) → Untouched s t (clear_inside t k r)
unfolding applied
clear-untouched s t k r ne = record { mappings = map_only_of s k (within k r) t.mappings (λ q. ne (sym q)) (within-space k r); itself = refl; devices = refl }
