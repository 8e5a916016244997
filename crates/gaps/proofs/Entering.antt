-- Where the walk goes in: behind all mappings that begin at or before x, or at the last of them.
use Prim.Native.Nat.{ℕ, ◌-◌, ◌≤◌, ◌<◌}
use mathlib.Core.Path.{◌≡◌, sym, ap, ◌∙◌}
use mathlib.Core.Bool.{true, false}
use mathlib.Core.List.{List}
use native.Mathlib.Omega.{arith}
use lib.Dec.{eqb}
use lib.ListN.{length, get_or}
use borrow.Author.Tests.{eqb-true, eqb-false}
use Rattle.lists.specs.Tests.{by-test}
use Rattle.lists.specs.Sums.{count_of-length}
use Rattle.sorted.specs.Sorted.{ordered, ordered_at, count_past, count-upto}
use Rattle.rules_table.specs.declared.Mapping.{Mapping}
use Rattle.rules_table.specs.Records.{zero_mapping}
use Rattle.index.specs.Listing.{lex-elim, lex-not}
use Rattle.index.specs.Touched.{before, before-space, before-end, before-ahead, up_to, up_to-space, up_to-from}
use Rattle.index_search.specs.Indexed.{begins, ahead-begins, entered}
use Rattle.gaps.specs.Steps.{Stands}

above : (s x : ℕ) (m : Mapping) → up_to s x m ≡ false → s ≤ m.space
unfolding up_to
above s x m e = lex-elim s _ m.space m.address (lex-not m.space m.address s x e) (λ h. omega arith) (λ h k. omega arith)

module _ (ls : List Mapping) (o : ordered before ls ≡ true) (s x p : ℕ) (e : p ≡ entered true ls s x) where
  down : (m n : Mapping) → before m n ≡ true → begins true s x n ≡ true → begins true s x m ≡ true
  down m n b = ahead-begins true s x m n (before-ahead m n b)

  -- those before p begin at or before x, the others do not
  entered_here : (j : ℕ) → j < length ls → j < p → up_to s x (get_or ls j zero_mapping) ≡ true
  unfolding entered begins
  entered_here j h k = by-test (up_to s x (get_or ls j zero_mapping)) (λ t. t) (λ t. absurd (omega (arith, e, count-upto before (begins true s x) down ls zero_mapping j o h t)))

  beyond : (j : ℕ) → j < length ls → p ≤ j → s ≤ (get_or ls j zero_mapping).space
  unfolding entered begins
  beyond j h k =
      above s x (get_or ls j zero_mapping)
      (by-test (up_to s x (get_or ls j zero_mapping)) (λ t. absurd (omega (arith, e, count_past before (begins true s x) down ls zero_mapping j o h t))) (λ t. t))

  p-most : p ≤ length ls
  unfolding entered
  p-most = omega (arith, e, count_of-length (begins true s x) ls)

  module _ (t : ℕ) (f : t ≡ (get_or ls (p - 1) zero_mapping).space) where
    -- the last of them is of the space
    enter_last : 0 < p → t ≡ s → Stands ls s x (p - 1)
    enter_last h d = record {
      behind = λ j i m q.
          omega (
            arith,
            before-end (get_or ls j zero_mapping) (get_or ls (p - 1) zero_mapping) (ordered_at before ls zero_mapping j (p - 1) o i (omega (arith, p-most))) (q ∙ sym d ∙ f),
            up_to-from s x (get_or ls (p - 1) zero_mapping) (entered_here (p - 1) (omega (arith, p-most)) (omega arith)) (sym f ∙ d),
          );
      onwards = λ j i m.
          by-test (eqb j (p - 1))
          (λ u. rw (eqb-true j (p - 1) u) (omega (arith, f, d)))
          (λ u. beyond j m (omega (arith, eqb-false j (p - 1) u)));
    }

    pub enter_back : 0 < p → t ≡ s → (k : ℕ) → k ≡ p - 1 → Stands ls s x k
    enter_back h d k q = rw q (enter_last h d)

    -- or none of them is
    pub enter_here : (t ≡ s → ⊥) → Stands ls s x p
    enter_here d = record {
      behind = λ j i m q.
          by-test (eqb j (p - 1))
          (λ u. absurd (d (f ∙ ap (λ (n : ℕ). (get_or ls n zero_mapping).space) (sym (eqb-true j (p - 1) u)) ∙ q)))
          (λ u.
          let b = before-space (get_or ls j zero_mapping) (get_or ls (p - 1) zero_mapping) (ordered_at before ls zero_mapping j (p - 1) o (omega (arith, eqb-false j (p - 1) u)) (omega (arith, p-most))) in
          let c = up_to-space s x (get_or ls (p - 1) zero_mapping) (entered_here (p - 1) (omega (arith, p-most)) (omega arith)) in
          absurd (d (omega (arith, b, c, q, f))));
      onwards = λ j i m. beyond j m i;
    }

  pub enter_first : p ≡ 0 → Stands ls s x p
  enter_first z = record { behind = λ j i m q. absurd (omega (arith, i, z)); onwards = λ j i m. beyond j m (omega (arith, z)) }
