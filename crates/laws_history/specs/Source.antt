-- The source of a COPY: the entry that the ledger finds is the mapping that the table finds. At most one mapping of a good table has that space, address and length, so every
-- entry that the ledger could find is that one.
use Rattle.std.specs.Prelude.{ℕ, ◌+◌, ◌≤◌, ◌≡◌, refl, Bool, true, ◌&&◌, Some}
use Rattle.std.proofs.Common.{sym, ◌∙◌, arith}
use Rattle.std.proofs.Math.Path.{ap}
use Rattle.std.proofs.Math.Bool.{false, not}
use Rattle.std.proofs.Math.Dec.{eqb}
use borrow.Author.Tests.{eqb-true, eq-eqb, lt-ltb, not-false}
use Rattle.lists.specs.Tests.{by-test, contrary, only_if, only_if-mono, and_left, and_right, and_both}
use Rattle.lists.specs.Search.{any, find-some, find-some_any, find-any_true}
use Rattle.lists.specs.Each.{Each-of, Each-imp, any-Each_false}
use Rattle.lists.specs.Sums.{sum_of-cong, sum_of-add, sum_of-le, count_of, count_of-any, count_of-zero}
use Rattle.ranges.specs.Ranges.{U64MAX, holds, holds_of, span, span-some, passes-false}
use Rattle.rules_table.specs.declared.Mapping.{Mapping}
use Rattle.rules_table.specs.declared.Table.{Table}
use Rattle.rules_table.specs.Records.{used, of_space, extent, covers}
use Rattle.table.specs.Checked.{record_ok}
use Rattle.table.specs.Sound.{Sound}
use Rattle.table.specs.Facts.{record_used}
use Rattle.lists.specs.Counting.{count_of-some}
use Rattle.rules_calls.specs.Copy.{is_source, source_of}
use Rattle.rules_history.specs.Ledger.{Entry, Ledger, entry_is, or_none, source_entry}
use Rattle.laws_history.specs.Rel.{view, Rel, counted}

same_entry : Entry → Entry → Bool
same_entry e x = eqb e.space x.space && (eqb e.address x.address && (eqb e.length x.length && (eqb e.root x.root && (eqb e.memory x.memory && eqb e.rights x.rights))))

same_self : (e : Entry) → same_entry e e ≡ true
unfolding same_entry
same_self e =
    rw (eq-eqb e.space e.space refl, eq-eqb e.address e.address refl, eq-eqb e.length e.length refl, eq-eqb e.root e.root refl, eq-eqb e.memory e.memory refl, eq-eqb e.rights e.rights refl)

abbrev fields : ℕ → ℕ → ℕ → ℕ → ℕ → ℕ → Entry
fields s a n f m r = record { space = s; address = a; length = n; root = f; memory = m; rights = r }

same-entry : (e x : Entry) → same_entry e x ≡ true → e ≡ x
unfolding same_entry
same-entry e x h =
    let p1 : e.space ≡ x.space = eqb-true e.space x.space (search (and_left, and_right) depth 8) in
    let p2 : e.address ≡ x.address = eqb-true e.address x.address (search (and_left, and_right) depth 8) in
    let p3 : e.length ≡ x.length = eqb-true e.length x.length (search (and_left, and_right) depth 8) in
    let p4 : e.root ≡ x.root = eqb-true e.root x.root (search (and_left, and_right) depth 8) in
    let p5 : e.memory ≡ x.memory = eqb-true e.memory x.memory (search (and_left, and_right) depth 8) in
    let p6 : e.rights ≡ x.rights = eqb-true e.rights x.rights (search (and_left, and_right) depth 8) in
    let z : fields e.space e.address e.length e.root e.memory e.rights ≡ x = rw (p1, p2, p3, p4, p5, p6) refl in z

-- a mapping holds its first address
starts-here : (x : Mapping) (a : ℕ) → x.address ≡ a → x.address ≤ U64MAX → holds (span x.address x.length) a ≡ true
unfolding span
starts-here x a b f = holds_of (span x.address x.length) a (omega (arith, b)) (omega (arith, b, span-some x.address x.length f))

module _ (l : Ledger) (t : Table) (q : Rel l t) (g : Sound t) (s a n : ℕ) (m : Mapping) (at : source_of t.mappings s a n ≡ Some m) (u : used m ≡ true) where
  -- an entry of that space, address and length, and one that is not m's
  is_one : Entry → Bool
  is_one e = entry_is s a n e

  is_odd : Entry → Bool
  is_odd e = entry_is s a n e && not (same_entry e (view q.who m))

  is_even : Entry → Bool
  is_even e = entry_is s a n e && same_entry e (view q.who m)

  -- such a mapping covers the address
  covering : (x : Mapping) → record_ok t.objects x ≡ true → (used x && is_one (view q.who x)) ≡ true → covers s a x ≡ true
  unfolding is_one entry_is covers of_space extent
  covering x ok e =
      let v = and_left (used x) (eqb x.space s && (eqb x.address a && eqb x.length n)) e in
      let r = and_right (used x) (eqb x.space s && (eqb x.address a && eqb x.length n)) e in
      let b : x.address ≡ a = eqb-true x.address a (and_left (eqb x.address a) (eqb x.length n) (and_right (eqb x.space s) (eqb x.address a && eqb x.length n) r)) in
      let k = record_used t.objects x v ok in
      and_both (used x) (eqb x.space s && holds (span x.address x.length) a) v
      (and_both (eqb x.space s) (holds (span x.address x.length) a) (and_left (eqb x.space s) (eqb x.address a && eqb x.length n) r)
      (starts-here x a b (omega (arith, passes-false x.address x.length k.ends))))

  -- so there is at most one of them
  most : count_of (λ x. used x && is_one (view q.who x)) t.mappings ≤ 1
  unfolding count_of
  most =
      let le = sum_of-le (λ x. only_if (used x && is_one (view q.who x)) 1) (λ x. only_if (covers s a x) 1) t.mappings
      (Each-imp (λ x. record_ok t.objects x ≡ true) (λ x. only_if (used x && is_one (view q.who x)) 1 ≤ only_if (covers s a x) 1) t.mappings
      (λ x ok. only_if-mono (used x && is_one (view q.who x)) (covers s a x) 1 (covering x ok)) g.records) in
      omega (arith, le, g.once s a)

  -- m is one
  is-source : entry_is s a n (view q.who m) ≡ true
  unfolding entry_is source_of is_source of_space
  is-source = find-some (λ x. eqb x.space s && (eqb x.address a && eqb x.length n)) t.mappings m at

  found_none : (p : Mapping → Bool) → any p t.mappings ≡ false → p m ≡ false
  unfolding source_of is_source of_space
  found_none p e = find-some_any (λ x. eqb x.space s && (eqb x.address a && eqb x.length n)) p t.mappings m at e

  m_even : (used m && is_even (view q.who m)) ≡ true
  unfolding is_even entry_is
  m_even = and_both (used m) (is_even (view q.who m)) u (and_both (entry_is s a n (view q.who m)) (same_entry (view q.who m) (view q.who m)) is-source (same_self (view q.who m)))

  some-even : 1 ≤ count_of (λ x. used x && is_even (view q.who x)) t.mappings
  some-even =
      count_of-some (λ x. used x && is_even (view q.who x)) t.mappings
      (by-test (any (λ x. used x && is_even (view q.who x)) t.mappings) (λ e. e)
      (λ e. contrary (used m && is_even (view q.who m)) m_even (found_none (λ x. used x && is_even (view q.who x)) e)))

  split : (v x y : Bool) → only_if (v && x) 1 ≡ only_if (v && (x && y)) 1 + only_if (v && (x && not y)) 1
  split true true true = refl
  split true true false = refl
  split true false y = refl
  split false x y = refl

  parted : count_of (λ x. used x && is_one (view q.who x)) t.mappings ≡ count_of (λ x. used x && is_even (view q.who x)) t.mappings + count_of (λ x. used x && is_odd (view q.who x)) t.mappings
  unfolding count_of is_one is_even is_odd
  parted =
      sum_of-cong (λ x. only_if (used x && is_one (view q.who x)) 1) (λ x. only_if (used x && is_even (view q.who x)) 1 + only_if (used x && is_odd (view q.who x)) 1) t.mappings
      (Each-of _ t.mappings (λ x. split (used x) (entry_is s a n (view q.who x)) (same_entry (view q.who x) (view q.who m))))
      ∙ sum_of-add (λ x. only_if (used x && is_even (view q.who x)) 1) (λ x. only_if (used x && is_odd (view q.who x)) 1) t.mappings

  -- no entry is another
  none-odd : any is_odd l.entries ≡ false
  none-odd = any-Each_false is_odd l.entries (count_of-zero is_odd l.entries (omega (arith, counted l t q is_odd, most, parted, some-even)))

  some_one : any is_one l.entries ≡ true
  some_one = sym (count_of-any is_one l.entries) ∙ lt-ltb 0 (count_of is_one l.entries) (omega (arith, counted l t q is_one, parted, some-even))

  -- THE LAW: the ledger's source entry is the mapping
  pub source-entry : source_entry l.entries s a n ≡ view q.who m
  unfolding source_entry is_one is_odd
  source-entry =
      let f = find-any_true (entry_is s a n) l.entries some_one in
      let e = f.0 in
      let one = find-some (entry_is s a n) l.entries e f.1 in
      let odd : (entry_is s a n e && not (same_entry e (view q.who m))) ≡ false = find-some_any (entry_is s a n) is_odd l.entries e f.1 none-odd in
      ap or_none f.1 ∙ same-entry e (view q.who m) (not-false (same_entry e (view q.who m)) (sym (rw one) ∙ odd))
