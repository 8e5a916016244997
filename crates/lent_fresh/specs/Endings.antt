-- How fresh ends: what is written is what the entry promises, and so is 117 for another number of records or of words beside them.
use Rattle.std.specs.Prelude.{ℕ, ◌≤◌, ◌<◌, ◌≡◌, List, pos, length, replicate}
use Rattle.std.proofs.Common.{sym, ap, ◌∙◌, arith, eq-eqb, ne_eqb, lt-ltb, le-ltb}
use Rattle.opening.specs.Signed.{result-zero}
use Rattle.rules_calls.specs.Results.{signed_result}
use Rattle.rules_table.specs.declared.Mapping.{Mapping}
use Rattle.rules_table.specs.Records.{zero_mapping}
use Rattle.rules_table.specs.Limits.{most_limit}
use Rattle.rules_table.specs.Layout.{fresh_head}
use Rattle.rules_table.specs.Words.{head_in}
use Rattle.rules_calls.specs.Edits.{refuse}
use Rattle.rules_lent.specs.Entries.{LentFresh, fresh_errno}
use Rattle.lent_records.specs.Records.{stored}
use Rattle.lent_records.proofs.Lent.{stored-wipe}
use Rattle.lent_records.specs.declared.Records.TheVariants.{Wipe}
use Rattle.lent_edit.specs.declared.Served.{Served}
use Rattle.lent_edit.specs.Edits.{nowhere, served_by, refused-records, refused-result}

-- fresh: for every slice of so many records
pub record FreshServed (h : List ℕ) (count : ℕ) (bs : List ℕ) (limit : ℕ) (s : Served) (h' bs' : List ℕ) : Type 0 where
  pub served : (ms : List Mapping) → length ms ≡ count → LentFresh (head_in h) ms bs limit s.result (head_in h') (stored s.records ms) bs'

-- the errno of fresh
errno-short : (ms : List Mapping) (ix : List ℕ) (limit : ℕ) → (length ms ≡ 128 → ⊥) → fresh_errno ms ix limit ≡ 117
errno-short ms ix limit n = rw (ne_eqb (length ms) 128 n)

errno-other : (ms : List Mapping) (ix : List ℕ) (limit : ℕ) → length ms ≡ 128 → (length ix ≡ 128 → ⊥) → fresh_errno ms ix limit ≡ 117
errno-other ms ix limit l n = rw (eq-eqb (length ms) 128 l, ne_eqb (length ix) 128 n)

errno-over : (ms : List Mapping) (ix : List ℕ) (limit : ℕ) → length ms ≡ 128 → length ix ≡ 128 → most_limit < limit → fresh_errno ms ix limit ≡ 22
errno-over ms ix limit l k m = rw (eq-eqb (length ms) 128 l, eq-eqb (length ix) 128 k, lt-ltb most_limit limit m)

errno-none : (ms : List Mapping) (ix : List ℕ) (limit : ℕ) → length ms ≡ 128 → length ix ≡ 128 → limit ≤ most_limit → fresh_errno ms ix limit ≡ 0
errno-none ms ix limit l k m = rw (eq-eqb (length ms) 128 l, eq-eqb (length ix) 128 k, le-ltb most_limit limit m)

module _ (h : List ℕ) (count : ℕ) (bs : List ℕ) (limit : ℕ) where
  -- an errno other than 0 leaves everything
  fresh-refused : (s : Served) (n : ℕ) → ((ms : List Mapping) → length ms ≡ count → fresh_errno ms bs limit ≡ n) → (n ≡ 0 → ⊥) → s ≡ served_by (refuse n) nowhere → FreshServed h count bs limit s h bs
  fresh-refused s n f z es = record {
    served = λ ms c. rw es (record {
      result = rw (f ms c) (refused-result n);
      head = rw (f ms c, ne_eqb n 0 z);
      records = rw (f ms c, ne_eqb n 0 z) (refused-records n ms);
      index = rw (f ms c, ne_eqb n 0 z);
    });
  }

  pub fresh-short : (s : Served) (k : ℕ) → (count ≡ 128 → ⊥) → s ≡ served_by (refuse k) nowhere → k ≡ 117 → FreshServed h count bs limit s h bs
  fresh-short s k n es z = fresh-refused s k (λ ms c. errno-short ms bs limit (λ x. n (sym c ∙ x)) ∙ sym z) (λ x. omega (arith, x, z)) es

  pub fresh-other : (s : Served) (k : ℕ) → count ≡ 128 → (length bs ≡ 128 → ⊥) → s ≡ served_by (refuse k) nowhere → k ≡ 117 → FreshServed h count bs limit s h bs
  fresh-other s k l n es z = fresh-refused s k (λ ms c. errno-other ms bs limit (c ∙ l) n ∙ sym z) (λ x. omega (arith, x, z)) es

  pub fresh-over : (s : Served) (k : ℕ) → count ≡ 128 → length bs ≡ 128 → most_limit < limit → s ≡ served_by (refuse k) nowhere → k ≡ 22 → FreshServed h count bs limit s h bs
  fresh-over s k l n m es z = fresh-refused s k (λ ms c. errno-over ms bs limit (c ∙ l) n m ∙ sym z) (λ x. omega (arith, x, z)) es

  pub fresh-made : (h' bs' : List ℕ) → count ≡ 128 → length bs ≡ 128 → limit ≤ most_limit → head_in h' ≡ fresh_head limit → bs' ≡ replicate 128 0
      → FreshServed h count bs limit (record { result = pos 0; records = Wipe }) h' bs'
  fresh-made h' bs' n k l eh ex = record {
    served = λ ms c. record {
      result = rw (errno-none ms bs limit (c ∙ n) k l) (sym result-zero);
      head = rw (errno-none ms bs limit (c ∙ n) k l) eh;
      records = rw (errno-none ms bs limit (c ∙ n) k l) (stored-wipe ms ∙ ap (λ (k : ℕ). replicate k zero_mapping) (c ∙ n));
      index = rw (errno-none ms bs limit (c ∙ n) k l) ex;
    };
  }
