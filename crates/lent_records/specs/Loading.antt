-- The words of 128 records, and what was there for another number: what is loaded, and that read back it is the records.
use Rattle.std.specs.Prelude.{ℕ, suc, ◌+◌, ◌≤◌, ◌<◌, ◌≡◌, ◌⊎◌, Bool, List, [], ◌∷◌, map}
use Rattle.std.proofs.Math.Path.{refl, sym, ap}
use Rattle.std.proofs.Common.{subst, ◌∙◌, inl, inr, eq-or-lt_of_le, arith}
use Rattle.std.proofs.Math.Bool.{true, false, cond}
use Rattle.std.proofs.Math.Dec.{eqb}
use Rattle.std.proofs.Math.ListN.{get_or, length, length-map, get_or-map}
use borrow.Author.Tests.{eq-eqb, ne_eqb, eqb-true}
use Rattle.walks.specs.Stores.{stores, stores-none, stores-all}
use Rattle.rules_table.specs.declared.Mapping.{Mapping}
use Rattle.rules_table.specs.Records.{zero_mapping}
use Rattle.layout_mappings.specs.Words.{words_of, record_of, records_of}

-- what load leaves: the words of 128 records; of another number it says no more than its length
pub record Loaded (ms : List Mapping) (ws : List (List ℕ)) : Type 0 where
  pub many : length ws ≡ 128
  pub same : length ms ≡ 128 → records_of ws ≡ ms

-- five zeros
abbrev pub blank : List ℕ
blank = 0 ∷ 0 ∷ 0 ∷ 0 ∷ 0 ∷ []

-- how many records are read: all of 128, and none of another number
unfoldable pub bound_of : ℕ → ℕ
bound_of n = cond (eqb n 128) 128 0

-- what stands in the array that had zs
unfoldable pub loaded : List Mapping → List (List ℕ) → List (List ℕ)
loaded ms zs = cond (eqb (length ms) 128) (map words_of ms) zs

-- ---- laws

pub bound_all : (n : ℕ) → n ≡ 128 → 128 ≡ bound_of n
unfolding bound_of
bound_all n e = rw (eq-eqb n 128 e)

pub bound-none : (n : ℕ) → (n ≡ 128 → ⊥) → 0 ≡ bound_of n
unfolding bound_of
bound-none n e = rw (ne_eqb n 128 e)

-- no more than 128, and no more than there are
pub bound-within : (n : ℕ) → (bound_of n ≤ 128) × (bound_of n ≤ n)
unfolding bound_of
bound-within n = by (eqb n 128) refl
  where
    by : (t : Bool) → eqb n 128 ≡ t → (cond t 128 0 ≤ 128) × (cond t 128 0 ≤ n)
    by true e = let l : n ≡ 128 = eqb-true n 128 e in (omega arith, omega (arith, l))
    by false e = (omega arith, omega arith)

-- the first i records come back from their words
pub record Back (ms : List Mapping) (i : ℕ) : Type 0 where
  pub at : (j : ℕ) → j < i → record_of (words_of (get_or ms j zero_mapping)) ≡ get_or ms j zero_mapping

module _ (ms : List Mapping) (zs : List (List ℕ)) where
  pub loaded-length : length zs ≡ 128 → length (loaded ms zs) ≡ 128
  unfolding loaded
  loaded-length l = by (eqb (length ms) 128) refl
    where
      by : (t : Bool) → eqb (length ms) 128 ≡ t → length (cond t (map words_of ms) zs) ≡ 128
      by true e = length-map ms words_of ∙ eqb-true (length ms) 128 e
      by false e = l

  pub loaded_at : (i : ℕ) → i < bound_of (length ms) → get_or (loaded ms zs) i blank ≡ words_of (get_or ms i zero_mapping)
  unfolding loaded bound_of
  loaded_at i = by (eqb (length ms) 128)
    where
      by : (t : Bool) → i < cond t 128 0 → get_or (cond t (map words_of ms) zs) i blank ≡ words_of (get_or ms i zero_mapping)
      by true h = get_or-map words_of ms i zero_mapping
      by false h = absurd (omega (arith, h))

  pub loaded-done : length zs ≡ 128 → stores blank (loaded ms zs) zs (bound_of (length ms)) ≡ loaded ms zs
  unfolding loaded bound_of
  loaded-done k = by (eqb (length ms) 128) refl
    where
      by : (t : Bool) → eqb (length ms) 128 ≡ t → stores blank (cond t (map words_of ms) zs) zs (cond t 128 0) ≡ cond t (map words_of ms) zs
      by true e =
          let l : length (map words_of ms) ≡ 128 = length-map ms words_of ∙ eqb-true (length ms) 128 e in
          ap (stores blank (map words_of ms) zs) (sym l) ∙ stores-all blank (map words_of ms) zs (k ∙ sym l)
      by false e = stores-none blank zs zs

module _ (ms : List Mapping) where
  pub back_none : Back ms 0
  back_none = record { at = λ j h. absurd (omega (arith, h)) }

  pub back-next : (i : ℕ) (w : List ℕ) → Back ms i → w ≡ words_of (get_or ms i zero_mapping) → record_of w ≡ get_or ms i zero_mapping → Back ms (i + 1)
  back-next i w b e r = record { at = λ j h. by j (eq-or-lt_of_le (omega (arith, h))) }
    where
      by : (j : ℕ) → (j ≡ i) ⊎ (j < i) → record_of (words_of (get_or ms j zero_mapping)) ≡ get_or ms j zero_mapping
      by j (inl z) = rw z (ap record_of (sym e) ∙ r)
      by j (inr h) = b.at j h

-- records that all come back
whole : (ms : List Mapping) → Back ms (length ms) → records_of (map words_of ms) ≡ ms
whole [] b = refl
whole (m ∷ ms) b = rw (b.at 0 (omega arith), whole ms (record { at = λ j h. b.at (suc j) (omega (arith, h)) }))

-- what the loop ends with
pub loaded-all : (ms : List Mapping) (zs : List (List ℕ)) → length zs ≡ 128 → Back ms (bound_of (length ms)) → Loaded ms (loaded ms zs)
unfolding loaded
loaded-all ms zs l b = record {
  many = loaded-length ms zs l;
  same = λ e. rw (eq-eqb (length ms) 128 e) (whole ms (subst (Back ms) (sym (bound_all (length ms) e) ∙ sym e) b));
}
