-- The pass over the numbers of an index: what is left from place k on answers for the whole.
use Prim.Native.Nat.{ℕ, suc, ◌+◌, ◌-◌, ◌≤◌, ◌<◌}
use mathlib.Core.Path.{◌≡◌, refl, sym, ap, ◌∙◌}
use mathlib.Core.Bool.{Bool, true, false, ◌&&◌}
use mathlib.Core.List.{List, [], ◌∷◌}
use native.Mathlib.Omega.{arith}
use lib.Dec.{eqb}
use lib.ListN.{length, get_or, drop, drop_of_length-le}
use borrow.Author.Tests.{eqb-true, eqb-false, ne_eqb}
use Rattle.lists.specs.Tests.{by-test}
use Rattle.lists.specs.Search.{all, all-at, drop_turn}
use Rattle.ranges.specs.Ranges.{U64MAX}
use Rattle.rules_table.specs.declared.Mapping.{Mapping}
use Rattle.rules_table.specs.Records.{zero_mapping, used}
use Rattle.rules_index.specs.Index.{lex, mapping_at, view, numbers_in}
use Rattle.index.specs.Listing.{lex-elim, used-place}
use Rattle.index.specs.Touched.{end_of, record_at-is}
use Rattle.index.specs.Verdict.{ascending}
use Rattle.layout_mappings.specs.Words.{records_of, record_at, records-length}
use Rattle.check_index.specs.Placed.{placed}
use Rattle.check_index.proofs.Climbing.{climbing, climbing-is, named-used}

pub record Walking (ws : List (List ℕ)) (ix : List ℕ) (space last k : ℕ) : Type 0 where
  pub first : space ≡ 0 → last ≡ U64MAX
  pub rest : climbing space last (view (numbers_in (drop k ix)) (records_of ws)) ≡ ascending (view (numbers_in ix) (records_of ws))
  pub count : k + length (numbers_in (drop k ix)) ≡ length (numbers_in ix)

pub walking_start : (ws : List (List ℕ)) (ix : List ℕ) (last : ℕ) → last ≡ U64MAX → Walking ws ix 0 last 0
walking_start ws ix last e = record {
  first = λ z. e;
  rest = climbing-is last (view (numbers_in ix) (records_of ws));
  count = omega arith;
}

module _ (ws : List (List ℕ)) (ix : List ℕ) (space last k : ℕ) (w : Walking ws ix space last k) where
  abbrev whole : Bool
  whole = ascending (view (numbers_in ix) (records_of ws))

  -- what is told of numbers that ascend
  abbrev Told : ℕ → Type 0
  Told n = (whole ≡ true) × (n ≡ length (numbers_in ix))

  -- no number is left
  done : numbers_in (drop k ix) ≡ [] → Told k
  unfolding view climbing
  done e = (sym (sym (rw e refl) ∙ w.rest), sym (rw e (omega arith)) ∙ w.count)

  pub walking_end : length ix ≤ k → Told k
  unfolding numbers_in
  walking_end h = done (ap numbers_in (drop_of_length-le ix {i = k} h))

  -- the number at place k
  module _ (l : k < length ix) where
    pub walking_zero : get_or ix k 0 ≡ 0 → Told k
    unfolding numbers_in
    walking_zero e = done (rw (drop_turn ix 0 k l, e) refl)

    module _ (ne : get_or ix k 0 ≡ 0 → ⊥) where
      more : numbers_in (drop k ix) ≡ get_or ix k 0 ∷ numbers_in (drop (k + 1) ix)
      unfolding numbers_in
      more = rw (drop_turn ix 0 k l, ne_eqb (get_or ix k 0) 0 ne) refl

      onward : (used (mapping_at (records_of ws) (get_or ix k 0)) && (lex space (suc last) (mapping_at (records_of ws) (get_or ix k 0)).space (mapping_at (records_of ws) (get_or ix k 0)).address
          && climbing (mapping_at (records_of ws) (get_or ix k 0)).space (end_of (mapping_at (records_of ws) (get_or ix k 0))) (view (numbers_in (drop (k + 1) ix)) (records_of ws)))) ≡ whole
      unfolding view climbing
      onward = sym (rw more refl) ∙ w.rest

      -- a number that no record has
      pub walking_far : length ws ≡ 128 → 128 < get_or ix k 0 → whole ≡ false
      walking_far n h = sym (sym (rw none refl) ∙ onward)
        where
          none : used (mapping_at (records_of ws) (get_or ix k 0)) ≡ false
          none =
              by-test (used (mapping_at (records_of ws) (get_or ix k 0)))
              (λ u. let p = used-place (records_of ws) (get_or ix k 0) u in absurd (omega (arith, p.1, p.2, records-length ws, n, h)))
              (λ u. u)

      -- its record
      module _ (m : Mapping) (e : m ≡ record_at ws (get_or ix k 0 - 1)) where
        at : mapping_at (records_of ws) (get_or ix k 0) ≡ m
        at =
            let z : get_or ix k 0 ≡ suc (get_or ix k 0 - 1) = omega (arith, ne) in
            ap (mapping_at (records_of ws)) z ∙ record_at-is (records_of ws) (get_or ix k 0 - 1) ∙ sym e

        turn : (used m && (lex space (suc last) m.space m.address && climbing m.space (end_of m) (view (numbers_in (drop (k + 1) ix)) (records_of ws)))) ≡ whole
        turn = rw (← at) onward

        pub walking_placed : all placed (records_of ws) ≡ true → length ws ≡ 128 → get_or ix k 0 ≤ 128 → placed m ≡ true
        walking_placed p n h = rw e (all-at placed (records_of ws) zero_mapping p (get_or ix k 0 - 1) (omega (arith, ne, records-length ws, n, h)))

        module _ (b : Bool) (eb : b ≡ lex space (suc last) m.space m.address) where
          pub walking_stop : b ≡ false → whole ≡ false
          walking_stop f = sym (sym (rw (sym eb ∙ f) (by-test (used m) (λ u. rw u refl) (λ u. rw u refl))) ∙ turn)

          module _ (t : b ≡ true) (top : m.address ≤ U64MAX) where
            -- past the end of space 0 there is no released record
            pub walking_used : 0 < m.space
            walking_used =
                lex-elim space (suc last) m.space m.address (sym eb ∙ t)
                (λ h. omega arith)
                (λ h g. by-test (eqb space 0)
                (λ z. absurd (omega (arith, w.first (eqb-true space 0 z), g, top)))
                (λ z. omega (arith, h, eqb-false space 0 z)))

            pub walking_on : (s n : ℕ) → s ≡ m.space → n ≡ end_of m → Walking ws ix s n (k + 1)
            walking_on s n es en = record {
              first = λ z. absurd (omega (arith, z, es, walking_used));
              rest = rw (es, en) (sym (rw (named-used m walking_used, sym eb ∙ t) refl) ∙ turn);
              count = omega (arith, w.count, ap (λ (l : List ℕ). length l) more);
            }
