-- What demand 3 claims of a ledger and a table, and that it follows where the two agree and the table is sound.
use Rattle.std.specs.Prelude.{ℕ, ◌+◌, ◌-◌, ◌^◌, ◌≤◌, ◌<◌, ◌≡◌, refl, Bool, false, ◌&&◌, List, ltb, None}
use Rattle.std.proofs.Math.Path.{sym, ap}
use Rattle.std.proofs.Common.{◌∙◌, add-one, arith}
use Rattle.std.proofs.Math.Bool.{true}
use Rattle.std.proofs.Math.Dec.{eqb}
use Rattle.std.proofs.Math.ListN as ListN
use Rattle.std.proofs.Math.ListN.{get_or}
use borrow.Author.Tests.{eqb-true, eq-eqb, ne_eqb, ltb-true, ltb-false}
use Rattle.lists.specs.Tests.{by-test, contrary, same_test, only_if, only_if-false, and_left, and_right, and_both}
use Rattle.lists.specs.Search.{any, any-cong, any_at, any-mono, any-slot}
use Rattle.lists.specs.Each.{Each, Each-of, Each-imp, Each-zip, Each-at, Each-any_false}
use Rattle.lists.specs.Sums.{sum_of, sum_of-cong, sum_of-zero, count_of, count_of-any}
use Rattle.lists.specs.Below.{sum_below, sum_below-cong, sum_below-zero, sum_below-only, sum_of-sum_below, count_below}
use Rattle.ranges.specs.Ranges.{holds, span}
use Rattle.ranges.proofs.Spans.{span-count}
use Rattle.rules_table.specs.declared.Object.{Object}
use Rattle.rules_table.specs.declared.Mapping.{Mapping}
use Rattle.rules_table.specs.declared.Table.{Table}
use Rattle.rules_table.specs.Records.{zero_mapping, used, of_space, extent, covers}
use Rattle.rules_table.specs.Charge.{backs, mapping_pages, charge}
use Rattle.table.specs.Checked.{record_ok}
use Rattle.table.specs.Sound.{Shares, Sound}
use Rattle.table.specs.Facts.{record_used}
use Rattle.table.specs.Charged.{info_pages, shares-pages, backs-of, backs-used, charge-info}
use Rattle.rules_history.specs.Ledger.{Made, Ledger, entry_range, entry_covers, right_in, entry_gives, ledger_gives, ledger_maps, survives, ledger_charge}
use Rattle.laws_history.specs.Rel.{pages_by, had, bytes_in, Rel, told-any, had-of, live-some}
use Rattle.rules_history.specs.Told.{mapped, gives, table_gives, Told}

-- ---- addresses

told-addresses : (l : Ledger) (t : Table) → Rel l t → (s a : ℕ) → mapped t s a ≡ ledger_maps l s a
unfolding mapped ledger_maps covers entry_covers entry_range of_space extent
told-addresses l t q s a = told-any l t q (λ e. eqb e.space s && holds (span e.address e.length) a)

-- ---- memory

bring : (a b c : Bool) → ((a && b) && c) ≡ (a && (b && c))
bring true b c = refl
bring false b c = refl

told-memory : (l : Ledger) (t : Table) → Rel l t → (s a y : ℕ) (write : Bool) → table_gives t s a y write ≡ ledger_gives l s a y write
unfolding table_gives ledger_gives gives entry_gives covers entry_covers entry_range of_space extent
told-memory l t q s a y write =
    any-cong (gives s a y write)
    (λ m. used m && ((eqb m.space s && holds (span m.address m.length) a) && (eqb (m.memory + (a - m.address)) y && right_in write m.rights))) t.mappings
    (λ m. bring (used m) (eqb m.space s && holds (span m.address m.length) a) (eqb (m.memory + (a - m.address)) y && right_in write m.rights))
    ∙ told-any l t q (λ e. (eqb e.space s && holds (span e.address e.length) a) && (eqb (e.memory + (a - e.address)) y && right_in write e.rights))

-- ---- bytes: each address counts once, so their number is the sum of the lengths

at_most_one : (n : ℕ) → n ≤ 1 → only_if (ltb 0 n) 1 ≡ n
at_most_one n h = by-test (ltb 0 n) (λ e. rw e (omega (arith, ltb-true 0 n e))) (λ e. rw e (omega (arith, ltb-false 0 n e)))

covers-used : (s a : ℕ) (m : Mapping) → used m ≡ true → of_space s m ≡ true → covers s a m ≡ holds (span m.address m.length) a
unfolding covers extent
covers-used s a m u o = rw (u, o)

covers-other : (s a : ℕ) (m : Mapping) → of_space s m ≡ false → covers s a m ≡ false
unfolding covers
covers-other s a m o = by-test (used m) (λ u. rw (u, o)) (λ u. rw u)

space-in_use : (s : ℕ) (m : Mapping) → (s ≡ 0 → ⊥) → of_space s m ≡ true → used m ≡ true
unfolding of_space used
space-in_use s m ne o = rw (ne_eqb m.space 0 (λ z. ne (sym (eqb-true m.space s o) ∙ z)))

length-covered : (os : List Object) (s : ℕ) (m : Mapping) → (s ≡ 0 → ⊥) → record_ok os m ≡ true → sum_below (λ a. only_if (covers s a m) 1) (2 ^ 64) ≡ only_if (of_space s m) m.length
unfolding count_below
length-covered os s m ne ok =
    by-test (of_space s m)
    (λ o.
    let u = space-in_use s m ne o in
    let k = record_used os m u ok in
    rw o (sum_below-cong (λ a. only_if (covers s a m) 1) (λ a. only_if (holds (span m.address m.length) a) 1) (2 ^ 64) (λ a h. ap (λ (b : Bool). only_if b 1) (covers-used s a m u o))
    ∙ span-count m.address m.length k.some k.ends))
    (λ o. rw o (sum_below-cong (λ a. only_if (covers s a m) 1) (λ a. 0) (2 ^ 64) (λ a h. ap (λ (b : Bool). only_if b 1) (covers-other s a m o)) ∙ sum_below-zero (2 ^ 64)))

pub space-count : (t : Table) → Sound t → (s : ℕ) → (s ≡ 0 → ⊥) → count_below (2 ^ 64) (mapped t s) ≡ bytes_in s t.mappings
unfolding count_below bytes_in mapped count_of
space-count t g s ne =
    sum_below-cong (λ a. only_if (any (covers s a) t.mappings) 1) (λ a. sum_of (λ m. only_if (covers s a m) 1) t.mappings) (2 ^ 64) (λ a h. once a)
    ∙ sym (sum_of-sum_below (λ m a. only_if (covers s a m) 1) t.mappings (2 ^ 64))
    ∙ sum_of-cong (λ m. sum_below (λ a. only_if (covers s a m) 1) (2 ^ 64)) (λ m. only_if (of_space s m) m.length) t.mappings
    (Each-imp (λ m. record_ok t.objects m ≡ true) (λ m. sum_below (λ a. only_if (covers s a m) 1) (2 ^ 64) ≡ only_if (of_space s m) m.length) t.mappings (λ m ok. length-covered t.objects s m ne ok) g.records)
  where
    once : (a : ℕ) → only_if (any (covers s a) t.mappings) 1 ≡ sum_of (λ m. only_if (covers s a m) 1) t.mappings
    once a = ap (λ (b : Bool). only_if b 1) (sym (count_of-any (covers s a) t.mappings)) ∙ at_most_one (count_of (covers s a) t.mappings) (g.once s a)

-- ---- the charge: backings that are had, and accepted MAPs that survive, are the same things told twice

module _ (l : Ledger) (t : Table) (g : Sound t) (q : Rel l t) where
  -- the map with the number n founded the backing b, which a mapping has
  founded : ℕ → ℕ → Bool
  founded n b = had b t.mappings && eqb n (q.who b)

  survives-is : (m : Made) → any (λ x. used x && eqb (q.who x.backing) m.number) t.mappings ≡ survives l m
  unfolding survives
  survives-is m = told-any l t q (λ e. eqb e.root m.number)

  -- the backing of a mapping is had
  had-at : (i : ℕ) → i < ListN.length t.mappings → used (get_or t.mappings i zero_mapping) ≡ true → had (get_or t.mappings i zero_mapping).backing t.mappings ≡ true
  unfolding had
  had-at i h u =
      let x = get_or t.mappings i zero_mapping in
      any_at (λ m. used m && backs x.backing m) t.mappings zero_mapping i h (and_both (used x) (backs x.backing x) u (backs-of x.backing x refl))

  -- each map that survives founded one backing that is had, and no other map founded one
  one_each : (m : Made) → sum_below (λ k. only_if (founded m.number (k + 1)) m.pages) 128 ≡ only_if (survives l m) m.pages
  unfolding founded
  one_each m =
      rw (← survives-is m)
      (by-test (any (λ x. used x && eqb (q.who x.backing) m.number) t.mappings) (λ e. rw e (yes e)) (λ e. rw e (no e)))
    where
      yes : any (λ x. used x && eqb (q.who x.backing) m.number) t.mappings ≡ true → sum_below (λ k. only_if (founded m.number (k + 1)) m.pages) 128 ≡ m.pages
      yes e =
          let w = any-slot (λ x. used x && eqb (q.who x.backing) m.number) t.mappings zero_mapping e in
          let x = get_or t.mappings w.0 zero_mapping in
          let u = and_left (used x) (eqb (q.who x.backing) m.number) w.2 in
          let f : q.who x.backing ≡ m.number = eqb-true (q.who x.backing) m.number (and_right (used x) (eqb (q.who x.backing) m.number) w.2) in
          let k = record_used t.objects x u (Each-at (λ m. record_ok t.objects m ≡ true) t.mappings zero_mapping w.0 w.1 g.records) in
          let b = had-at w.0 w.1 u in
          let z : x.backing - 1 + 1 ≡ x.backing = omega (arith, k.from) in
          sum_below-only (λ j. only_if (founded m.number (j + 1)) m.pages) (x.backing - 1) 128
          (λ j h ne. only_if-false (founded m.number (j + 1)) m.pages (by-test (founded m.number (j + 1))
          (λ y. absurd (ne (let s : j + 1 ≡ x.backing = q.apart (j + 1) x.backing (and_left (had (j + 1) t.mappings) (eqb m.number (q.who (j + 1))) y) b
          (sym (eqb-true m.number (q.who (j + 1)) (and_right (had (j + 1) t.mappings) (eqb m.number (q.who (j + 1))) y)) ∙ sym f) in omega (arith, s))))
          (λ y. y))) (omega (arith, k.from, k.upto))
          ∙ rw (z, b, eq-eqb m.number (q.who x.backing) (sym f))

      no : any (λ x. used x && eqb (q.who x.backing) m.number) t.mappings ≡ false → sum_below (λ k. only_if (founded m.number (k + 1)) m.pages) 128 ≡ 0
      no e =
          sum_below-cong (λ j. only_if (founded m.number (j + 1)) m.pages) (λ j. 0) 128
          (λ j h. only_if-false (founded m.number (j + 1)) m.pages (by-test (founded m.number (j + 1)) (λ y. absurd (miss j y)) (λ y. y)))
          ∙ sum_below-zero 128
        where
          unseen : Each (λ x. used x ≡ true → q.who x.backing ≡ m.number → ⊥) t.mappings
          unseen =
              Each-imp (λ x. (used x && eqb (q.who x.backing) m.number) ≡ false) (λ x. used x ≡ true → q.who x.backing ≡ m.number → ⊥) t.mappings
              (λ x f u s. contrary (used x && eqb (q.who x.backing) m.number) (and_both (used x) (eqb (q.who x.backing) m.number) u (eq-eqb (q.who x.backing) m.number s)) f)
              (Each-any_false (λ x. used x && eqb (q.who x.backing) m.number) t.mappings e)

          miss : (j : ℕ) → founded m.number (j + 1) ≡ true → ⊥
          miss j y =
              had-of (λ b. q.who b ≡ m.number → ⊥) t.mappings (j + 1) unseen (and_left (had (j + 1) t.mappings) (eqb m.number (q.who (j + 1))) y)
              (sym (eqb-true m.number (q.who (j + 1)) (and_right (had (j + 1) t.mappings) (eqb m.number (q.who (j + 1))) y)))

  -- the pages of a backing that is had are those of the map that founded it
  info-pages : Each (λ x. used x ≡ true → pages_by (q.who x.backing) l.made ≡ info_pages (g.info x.backing)) t.mappings
  info-pages =
      Each-zip (λ x. used x ≡ true → pages_by (q.who x.backing) l.made ≡ mapping_pages x) (λ x. used x ≡ true → Shares (g.info x.backing) x)
      (λ x. used x ≡ true → pages_by (q.who x.backing) l.made ≡ info_pages (g.info x.backing)) t.mappings
      (λ x a b u. a u ∙ shares-pages (g.info x.backing) x (b u)) q.known g.agree

  pages-each : (b : ℕ) → only_if (had b t.mappings) (info_pages (g.info b)) ≡ sum_of (λ m. only_if (founded m.number b) m.pages) l.made
  unfolding founded pages_by
  pages-each b =
      by-test (had b t.mappings)
      (λ e. rw e (sym (had-of (λ k. pages_by (q.who k) l.made ≡ info_pages (g.info k)) t.mappings b info-pages e)))
      (λ e. rw e (sym (sum_of-zero l.made)))

  -- in a sound table a mapping that has a backing from 1 on is in use
  had-is : (k : ℕ) → any (backs (k + 1)) t.mappings ≡ had (k + 1) t.mappings
  unfolding had
  had-is k =
      same_test (any (backs (k + 1)) t.mappings) (any (λ m. used m && backs (k + 1) m) t.mappings)
      (λ e. let w = any-slot (backs (k + 1)) t.mappings zero_mapping e in
      let x = get_or t.mappings w.0 zero_mapping in
      any_at (λ m. used m && backs (k + 1) m) t.mappings zero_mapping w.0 w.1
      (and_both (used x) (backs (k + 1) x) (backs-used t.objects x k (Each-at (λ m. record_ok t.objects m ≡ true) t.mappings zero_mapping w.0 w.1 g.records) (ap (λ (b : ℕ). backs b x) (sym (add-one k)) ∙ w.2)) w.2))
      (λ e. any-mono (λ m. used m && backs (k + 1) m) (backs (k + 1)) t.mappings (λ m v. and_right (used m) (backs (k + 1) m) v) e)

  told-charge : charge t.mappings ≡ ledger_charge l
  unfolding charge ledger_charge
  told-charge =
      charge-info t.objects g.info t.mappings g.records g.agree (λ m. true)
      ∙ sum_below-cong (λ k. only_if (any (backs (k + 1)) t.mappings) (info_pages (g.info (k + 1)))) (λ k. sum_of (λ m. only_if (founded m.number (k + 1)) m.pages) l.made) 128
      (λ k h. ap (λ (b : Bool). only_if b (info_pages (g.info (k + 1)))) (had-is k) ∙ pages-each (k + 1))
      ∙ sym (sum_of-sum_below (λ (m : Made) k. only_if (founded m.number (k + 1)) m.pages) l.made 128)
      ∙ sum_of-cong (λ m. sum_below (λ k. only_if (founded m.number (k + 1)) m.pages) 128) (λ m. only_if (survives l m) m.pages) l.made (Each-of _ l.made one_each)

  pub told : Told l t
  told = record {
    addresses = told-addresses l t q;
    memory = told-memory l t q;
    bytes = λ s e. q.bytes s e ∙ ap (λ (n : ℕ). l.removed s + n) (sym (space-count t g s (live-some l t q s e)));
    charged = told-charge;
    limited = g.charged;
  }
