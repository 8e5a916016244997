-- A good table in the form that proofs want: each address of a space is covered at most once, and what the mappings of a backing share is
-- given by a witness. `good-sound` and `sound-good` say that it is the same as `good`.
use Rattle.std.specs.Prelude.{ℕ, ◌≤◌, ◌^◌, ◌≡◌, refl, Bool, true, ◌&&◌, cond, List, [], ◌∷◌, leb}
use Rattle.std.proofs.Math.Path.{sym}
use Rattle.std.proofs.Common.{ap, subst, ◌∙◌}
use Rattle.std.proofs.Math.Bool.{false, not}
use Rattle.std.proofs.Math.Dec.{eqb}
use Rattle.std.proofs.Math.ListN as ListN
use borrow.Author.Tests.{leb-true, le-leb, eqb-true, eq-eqb, not-true, not-false}
use Rattle.lists.specs.Tests.{by-test, and_left, and_right, and_both, or_not_left, or_not_right}
use Rattle.lists.specs.Search.{any}
use Rattle.lists.specs.Each.{Each, Each-imp, Each-zip, Each-all, all-Each, Each-any_false, any-Each_false}
use Rattle.lists.specs.Pairs.{clashes}
use Rattle.lists.specs.Sums.{count_of}
use Rattle.ranges.specs.Ranges.{holds, share, share-address, share-of}
use Rattle.rules_table.specs.declared.Mapping.{Mapping}
use Rattle.rules_table.specs.declared.Table.{Table}
use Rattle.rules_table.specs.Records.{used, of_space, extent, covers}
use Rattle.rules_table.specs.Charge.{charge}
use Rattle.rules_table.specs.Good.{together, apart, differ, backings_agree, records_counted, limit_holds, good}
use Rattle.table.specs.Checked.{objects_ok, record_ok, records_ok, good-grouped}
use Rattle.lists.specs.Counting.{clashes-once, once-clashes}

-- what the mappings of one backing share
pub record Backing : Type 0 where
  pub memory : ℕ
  pub length : ℕ
  pub founder : ℕ

pub record Shares (b : Backing) (m : Mapping) : Type 0 where
  pub memory : b.memory ≡ m.memory
  pub length : b.length ≡ m.length
  pub founder : b.founder ≡ m.founder

abbrev pub Agree : (ℕ → Backing) → List Mapping → Type 0
Agree info ms = Each (λ m. used m ≡ true → Shares (info m.backing) m) ms

pub record Sound (t : Table) : Type 0 where
  pub objects : objects_ok t.objects ≡ true
  pub records : Each (λ m. record_ok t.objects m ≡ true) t.mappings
  pub once : (s a : ℕ) → count_of (covers s a) t.mappings ≤ 1
  pub info : ℕ → Backing
  pub agree : Agree info t.mappings
  pub counted : ListN.length t.mappings ≡ 128
  pub places : ListN.length t.objects ≡ 32
  pub most : t.limit ≤ 2 ^ 36
  pub charged : charge t.mappings ≤ t.limit

-- ---- addresses

covers-together : (s a : ℕ) (m n : Mapping) → covers s a m ≡ true → covers s a n ≡ true → together m n ≡ true
unfolding covers together of_space
covers-together s a m n e f =
    let um = and_left (used m) (eqb m.space s && holds (extent m) a) e in
    let rm = and_right (used m) (eqb m.space s && holds (extent m) a) e in
    let rn = and_right (used n) (eqb n.space s && holds (extent n) a) f in
    let sm = eqb-true m.space s (and_left (eqb m.space s) (holds (extent m) a) rm) in
    let sn = eqb-true n.space s (and_left (eqb n.space s) (holds (extent n) a) rn) in
    and_both (used m) (eqb m.space n.space && share (extent m) (extent n)) um
    (and_both (eqb m.space n.space) (share (extent m) (extent n)) (eq-eqb m.space n.space (sm ∙ sym sn))
    (share-of (extent m) (extent n) a (and_right (eqb m.space s) (holds (extent m) a) rm) (and_right (eqb n.space s) (holds (extent n) a) rn)))

pub record Place : Type 0 where
  pub space : ℕ
  pub address : ℕ

-- two that are together cover a common address
together-covers : (m n : Mapping) → together m n ≡ true → (k : Place) × (covers k.space k.address m ≡ true) × (covers k.space k.address n ≡ true)
unfolding covers together of_space used
together-covers m n e =
    let um = and_left (used m) (eqb m.space n.space && share (extent m) (extent n)) e in
    let rm = and_right (used m) (eqb m.space n.space && share (extent m) (extent n)) e in
    let s = eqb-true m.space n.space (and_left (eqb m.space n.space) (share (extent m) (extent n)) rm) in
    let w = share-address (extent m) (extent n) (and_right (eqb m.space n.space) (share (extent m) (extent n)) rm) in (
      record { space = m.space; address = w.0 },
      and_both (used m) (eqb m.space m.space && holds (extent m) w.0) um (and_both (eqb m.space m.space) (holds (extent m) w.0) (eq-eqb m.space m.space refl) w.1),
      and_both (used n) (eqb n.space m.space && holds (extent n) w.0) (ap (λ (x : ℕ). not (eqb x 0)) (sym s) ∙ um) (and_both (eqb n.space m.space) (holds (extent n) w.0) (eq-eqb n.space m.space (sym s)) w.2),
    )

pub apart-once : (ms : List Mapping) → apart ms ≡ true → (s a : ℕ) → count_of (covers s a) ms ≤ 1
unfolding apart
apart-once ms e s a = clashes-once (covers s a) together (covers-together s a) ms (not-true (clashes together ms) e)

pub once-apart : (ms : List Mapping) → ((s a : ℕ) → count_of (covers s a) ms ≤ 1) → apart ms ≡ true
unfolding apart
once-apart ms f = ap (λ (b : Bool). not b) (once-clashes (λ (k : Place). covers k.space k.address) together together-covers ms (λ k. f k.space k.address))

-- ---- backings

abbrev pub backing_of : Mapping → Backing
backing_of m = record { memory = m.memory; length = m.length; founder = m.founder }

-- the first mapping of each backing
witness : List Mapping → ℕ → Backing
witness [] b = record { memory = 0; length = 0; founder = 0 }
witness (m ∷ ms) b = cond (used m && eqb b m.backing) (backing_of m) (witness ms b)

module _ (m n : Mapping) (um : used m ≡ true) (un : used n ≡ true) where
  -- two mappings of one backing that do not differ share the same
  same-backing : differ m n ≡ false → m.backing ≡ n.backing → Shares (backing_of m) n
  unfolding differ
  same-backing e s =
      let f : not (eqb m.memory n.memory && (eqb m.length n.length && eqb m.founder n.founder)) ≡ false
      = sym (rw (um, un, eq-eqb m.backing n.backing s)) ∙ e in
      let g = not-false (eqb m.memory n.memory && (eqb m.length n.length && eqb m.founder n.founder)) f in
      let r = and_right (eqb m.memory n.memory) (eqb m.length n.length && eqb m.founder n.founder) g in
      record {
        memory = eqb-true m.memory n.memory (and_left (eqb m.memory n.memory) (eqb m.length n.length && eqb m.founder n.founder) g);
        length = eqb-true m.length n.length (and_left (eqb m.length n.length) (eqb m.founder n.founder) r);
        founder = eqb-true m.founder n.founder (and_right (eqb m.length n.length) (eqb m.founder n.founder) r);
      }

  not_differ : (b : Backing) → Shares b m → Shares b n → differ m n ≡ false
  unfolding differ
  not_differ b p q =
      let e1 = eq-eqb m.memory n.memory (sym p.memory ∙ q.memory) in
      let e2 = eq-eqb m.length n.length (sym p.length ∙ q.length) in
      let e3 = eq-eqb m.founder n.founder (sym p.founder ∙ q.founder) in
      rw (um, un, e1, e2, e3) (by-test (eqb m.backing n.backing) (λ t. rw t) (λ t. rw t))

agree-tail : (m : Mapping) (ms : List Mapping) → clashes differ (m ∷ ms) ≡ false → Agree (witness ms) ms → Agree (witness (m ∷ ms)) ms
unfolding clashes witness
agree-tail m ms e h =
    Each-zip (λ n. differ m n ≡ false) (λ n. used n ≡ true → Shares (witness ms n.backing) n) (λ n. used n ≡ true → Shares (witness (m ∷ ms) n.backing) n) ms one
    (Each-any_false (differ m) ms (or_not_left (any (differ m) ms) (clashes differ ms) e)) h
  where
    one : (n : Mapping) → differ m n ≡ false → (used n ≡ true → Shares (witness ms n.backing) n) → used n ≡ true → Shares (witness (m ∷ ms) n.backing) n
    one n d k un = by-test (used m && eqb n.backing m.backing)
        (λ t. rw t (same-backing m n (and_left (used m) (eqb n.backing m.backing) t) un d (sym (eqb-true n.backing m.backing (and_right (used m) (eqb n.backing m.backing) t)))))
        (λ t. rw t (k un))

agree-witness : (ms : List Mapping) → clashes differ ms ≡ false → Agree (witness ms) ms
unfolding clashes witness
agree-witness [] e = tt
agree-witness (m ∷ ms) e = (
  λ um. rw (um, eq-eqb m.backing m.backing refl) (record { memory = refl; length = refl; founder = refl }),
  agree-tail m ms e (agree-witness ms (or_not_right (any (differ m) ms) (clashes differ ms) e)),
)

-- two mappings that each share what their backing has do not differ
agree-two : (info : ℕ → Backing) (m n : Mapping) → (used m ≡ true → Shares (info m.backing) m) → (used n ≡ true → Shares (info n.backing) n) → differ m n ≡ false
unfolding differ
agree-two info m n p q =
    by-test (used m)
    (λ um. by-test (used n)
    (λ un. by-test (eqb m.backing n.backing)
    (λ t. not_differ m n um un (info m.backing) (p um) (subst (λ (b : ℕ). Shares (info b) n) (sym (eqb-true m.backing n.backing t)) (q un)))
    (λ t. rw (um, un, t)))
    (λ un. rw (um, un)))
    (λ um. rw um)

pub agree-clashes : (info : ℕ → Backing) (ms : List Mapping) → Agree info ms → clashes differ ms ≡ false
unfolding clashes
agree-clashes info [] h = refl
agree-clashes info (m ∷ ms) h =
    rw (any-Each_false (differ m) ms (Each-imp (λ n. used n ≡ true → Shares (info n.backing) n) (λ n. differ m n ≡ false) ms (λ n k. agree-two info m n h.0 k) h.1), agree-clashes info ms h.1)

-- ---- the whole, in both directions

pub good-sound : (t : Table) → good t ≡ true → Sound t
unfolding records_ok backings_agree records_counted limit_holds
good-sound t e =
    let o = objects_ok t.objects in
    let r = records_ok t.objects t.mappings in
    let b = backings_agree t.mappings in
    let a = apart t.mappings in
    let c = records_counted t in
    let l = limit_holds t in
    let e0 : (o && (r && (b && (a && (c && l))))) ≡ true = sym (good-grouped t) ∙ e in
    let e1 = and_right o (r && (b && (a && (c && l)))) e0 in
    let e2 = and_right r (b && (a && (c && l))) e1 in
    let e3 = and_right b (a && (c && l)) e2 in
    let e4 = and_right a (c && l) e3 in
    let ec = and_left c l e4 in
    let el = and_right c l e4 in
    record {
      objects = and_left o (r && (b && (a && (c && l)))) e0;
      records = Each-all (record_ok t.objects) t.mappings (and_left r (b && (a && (c && l))) e1);
      once = apart-once t.mappings (and_left a (c && l) e3);
      info = witness t.mappings;
      agree = agree-witness t.mappings (not-true (clashes differ t.mappings) (and_left b (a && (c && l)) e2));
      counted = eqb-true (ListN.length t.mappings) 128 (and_left (eqb (ListN.length t.mappings) 128) (eqb (ListN.length t.objects) 32) ec);
      places = eqb-true (ListN.length t.objects) 32 (and_right (eqb (ListN.length t.mappings) 128) (eqb (ListN.length t.objects) 32) ec);
      most = leb-true t.limit (2 ^ 36) (and_left (leb t.limit (2 ^ 36)) (leb (charge t.mappings) t.limit) el);
      charged = leb-true (charge t.mappings) t.limit (and_right (leb t.limit (2 ^ 36)) (leb (charge t.mappings) t.limit) el);
    }

pub sound-good : (t : Table) → Sound t → good t ≡ true
unfolding records_ok backings_agree records_counted limit_holds
sound-good t g =
    good-grouped t
    ∙ rw (
      g.objects,
      all-Each (record_ok t.objects) t.mappings g.records,
      agree-clashes g.info t.mappings g.agree,
      once-apart t.mappings g.once,
      eq-eqb (ListN.length t.mappings) 128 g.counted,
      eq-eqb (ListN.length t.objects) 32 g.places,
      le-leb t.limit (2 ^ 36) g.most,
      le-leb (charge t.mappings) t.limit g.charged,
    )
