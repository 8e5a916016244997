-- What the tool leaves that has the head as words, the words of the mapping records and the index: for the records that these were loaded from, what the entry promises.
use Rattle.std.specs.Prelude.{ℕ, ◌≡◌, refl, List, ℤ, length, Err}
use Rattle.std.proofs.Common.{sym, ap, subst, ◌∙◌}
use Rattle.lists.specs.Tests.{by-test, and_left}
use Rattle.rules_table.specs.declared.Mapping.{Mapping}
use Rattle.rules_table.specs.declared.Head.{Head}
use Rattle.rules_table.specs.Good.{good}
use Rattle.rules_table.specs.Layout.{table_of}
use Rattle.rules_table.specs.Words.{head_in}
use Rattle.table.specs.Sound.{good-sound}
use Rattle.rules_calls.specs.Results.{signed_result}
use Rattle.rules_index.specs.Index.{agrees}
use Rattle.rules_index.specs.Board.{good_board}
use Rattle.rules_reasons.specs.Explain.{Explained}
use Rattle.rules_reasons.specs.Explain.{explained_by, board_explained, tool_errno, told_words}
use Rattle.rules_lent.specs.Lent.{board_of}
use Rattle.rules_lent.specs.Explaining.{LentExplain}
use Rattle.layout_mappings.specs.Words.{records_of}
use Rattle.lent_records.specs.Loading.{Loaded}

pub record ExplainServed (h : List ℕ) (count : ℕ) (ws : List (List ℕ)) (bs : List ℕ) (request : ℕ) (cs vs : List ℕ) (r : ℤ) (vs' : List ℕ) : Type 0 where
  pub served : (ms : List Mapping) → length ms ≡ count → Loaded ms ws → LentExplain (head_in h) ms bs request cs vs r (head_in h) ms bs cs vs'

-- the law that the entry cites
pub explain_served : (h : List ℕ) (ms : List Mapping) (bs : List ℕ) (request : ℕ) (cs vs : List ℕ) (r : ℤ) (vs' : List ℕ) (ws : List (List ℕ))
    → Loaded ms ws → ExplainServed h (length ms) ws bs request cs vs r vs' → LentExplain (head_in h) ms bs request cs vs r (head_in h) ms bs cs vs'
explain_served h ms bs request cs vs r vs' ws l d = d.served ms refl l

-- a slice of another length stands for no good table
short-told : (h : Head) (ms : List Mapping) (ix : List ℕ) (request : ℕ) (cmd : List ℕ) → (length ms ≡ 128 → ⊥) → Err 117 ≡ board_explained (board_of h ms ix) request cmd
unfolding board_explained explained_by table_of good_board
short-told h ms ix request cmd n =
    let bad = by-test (good_board (board_of h ms ix)) (λ g. absurd (n (good-sound (table_of h ms) (and_left (good (table_of h ms)) (agrees ix (table_of h ms).mappings) g)).counted)) (λ g. g) in
    rw bad

lent-done : (h : Head) (ms : List Mapping) (ix : List ℕ) (request : ℕ) (cs vs : List ℕ) (e : Explained) (r : ℤ) (vs' : List ℕ) → e ≡ board_explained (board_of h ms ix) request cs
    → r ≡ signed_result (tool_errno e) → vs' ≡ told_words e vs → LentExplain h ms ix request cs vs r h ms ix cs vs'
lent-done h ms ix request cs vs e r vs' k er ev = record {
  result = er ∙ ap (λ (x : Explained). signed_result (tool_errno x)) k;
  told = ev ∙ ap (λ (x : Explained). told_words x vs) k;
  head = refl;
  records = refl;
  index = refl;
  command = refl;
}

module _ (h : List ℕ) (count : ℕ) (ws : List (List ℕ)) (bs : List ℕ) (request : ℕ) (cs vs : List ℕ) (r : ℤ) where
  pub explain_short : (k : ℕ) → (count ≡ 128 → ⊥) → r ≡ signed_result k → k ≡ 117 → ExplainServed h count ws bs request cs vs r vs
  explain_short k n er z = record { served = λ ms c l. lent-done (head_in h) ms bs request cs vs (Err 117) r vs (short-told (head_in h) ms bs request cs (λ x. n (sym c ∙ x))) (er ∙ ap signed_result z) refl }

  pub explain_done : (e : Explained) (vs' : List ℕ) → count ≡ 128 → e ≡ board_explained (board_of (head_in h) (records_of ws) bs) request cs → r ≡ signed_result (tool_errno e) → vs' ≡ told_words e vs
      → ExplainServed h count ws bs request cs vs r vs'
  explain_done e vs' n k er ev = record {
    served = λ ms c l. lent-done (head_in h) ms bs request cs vs e r vs' (k ∙ ap (λ (zs : List Mapping). board_explained (board_of (head_in h) zs bs) request cs) (l.same (c ∙ n))) er ev;
  }
