-- The search for the next record that holds something.
use Rattle.std.proofs.Common.{◌≡◌, ℕ, ◌+◌, ◌<◌, ◌≤◌, Bool, true, false, ltb, List, length, sym, refl, ◌∙◌, arith, ltb-false, ltb-true}
use Rattle.lists.specs.Tests.{by-test}
use Rattle.rules_table.specs.Records.{used}
use Rattle.layout_mappings.specs.Words.{records_of, record_at, records-length, is_empty}
use Rattle.check_mappings.specs.Next.{Next}
use Rattle.check_mappings.proofs.Emptying.{used-full}

-- the records from place n on before i are empty
pub record Skipping (ws : List (List ℕ)) (n i : ℕ) : Type 0 where
  pub from : n ≤ i
  pub upto : i ≤ length ws
  pub empty : (k : ℕ) → n ≤ k → k < i → is_empty (record_at ws k) ≡ true

pub skipping_start : (ws : List (List ℕ)) (n : ℕ) → n ≤ length ws → Skipping ws n n
skipping_start ws n h = record { from = omega arith; upto = h; empty = λ k a b. absurd (omega arith) }

module _ (ws : List (List ℕ)) (n i : ℕ) (s : Skipping ws n i) where
  pub skipping_end : length ws ≤ i → Next (records_of ws) n i
  skipping_end h = record { from = s.from; upto = omega (arith, s.upto, records-length ws); empty = s.empty; full = λ l. absurd (omega (arith, l, records-length ws)) }

  module _ (h : i < length ws) (b : Bool) (e : b ≡ is_empty (record_at ws i)) where
    pub skipping_found : b ≡ false → Next (records_of ws) n i
    skipping_found f = record { from = s.from; upto = omega (arith, s.upto, records-length ws); empty = s.empty; full = λ l. sym e ∙ f }

    pub skipping_on : b ≡ true → Skipping ws n (i + 1)
    skipping_on f = record {
      from = omega (arith, s.from);
      upto = omega arith;
      empty = λ k a l.
          by-test (ltb k i)
          (λ t. s.empty k a (ltb-true k i t))
          (λ t. let z : k ≡ i = omega (arith, l, ltb-false k i t) in rw z (sym e ∙ f));
    }

-- a record in use is the next one from its own place on
pub skipping_none : (ws : List (List ℕ)) (i : ℕ) → i < length ws → used (record_at ws i) ≡ true → Next (records_of ws) i i
skipping_none ws i h u = skipping_found ws i i (skipping_start ws i (omega arith)) h (is_empty (record_at ws i)) refl (used-full (record_at ws i) u)
