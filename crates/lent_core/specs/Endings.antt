-- How the calls end: what is decided and written is what the entries promise, and so is 117 for another number of records.
use Rattle.std.specs.Prelude.{ℕ, ◌≤◌, ◌<◌, ◌≡◌, refl, false, List, ℤ, length, get_or, Option, None, Some}
use Rattle.std.proofs.Math.Path.{sym, ap}
use Rattle.std.proofs.Common.{subst, ◌∙◌, arith}
use Rattle.lists.specs.Tests.{by-test}
use Rattle.rules_calls.specs.Results.{signed_result}
use Rattle.rules_table.specs.declared.Mapping.{Mapping}
use Rattle.rules_table.specs.declared.Head.{Head}
use Rattle.rules_table.specs.Layout.{table_of}
use Rattle.rules_table.specs.Words.{head_in}
use Rattle.table.specs.Sound.{good-sound}
use Rattle.rules_calls.specs.declared.Change.{Change}
use Rattle.rules_calls.specs.declared.Change.TheVariants as Changes
use Rattle.rules_calls.specs.declared.Edit.{Edit}
use Rattle.rules_calls.specs.declared.Order.{Order}
use Rattle.rules_calls.specs.Edits.{refuse}
use Rattle.rules_index.specs.Board.{good_board, index_after, board_host}
use Rattle.rules_lent.specs.Lent.{head_after, records_after, board_of}
use Rattle.rules_lent.specs.Entries.{LentCall, Preview, LentHost, LentNone, order_in}
use Rattle.laws_board.specs.Answers.{good-table}
use Rattle.laws_board.specs.Refused.{bad-board, board_bad, board_host-bad}
use Rattle.laws_board.specs.Deciding.{ObjectsAlone, board_host-alone, board_host-index}
use Rattle.layout_mappings.specs.Words.{records_of}
use Rattle.index_search.specs.declared.Slots.{Slots}
use Rattle.index_search.specs.Spans.{Spanning}
use Rattle.lent_records.specs.Loading.{Loaded}
use Rattle.lent_records.specs.Records.{stored}
use Rattle.iommufd.specs.Deciding.{Decided}
use Rattle.lent_edit.specs.declared.Served.{Served}
use Rattle.lent_edit.specs.Edits.{nowhere, served_by, records-written, refused-head, refused-records, refused-result}
use Rattle.lent_fresh.specs.Endings.{FreshServed}
use Rattle.lent_order.specs.Orders.{told_in, told_none, no-order, fresh-order}
use Rattle.lent_core.specs.Serving.{CallServed, PreviewServed, HostServed}

-- ---- another number of records

module _ (h : Head) (ms : List Mapping) (ix : List ℕ) (n : length ms ≡ 128 → ⊥) where
  -- a slice of another length stands for no good table
  short-bad : good_board (board_of h ms ix) ≡ false
  unfolding table_of
  short-bad = by-test (good_board (board_of h ms ix)) (λ g. absurd (n (good-sound (table_of h ms) (good-table (board_of h ms ix) g)).counted)) (λ g. g)

  short-edit : (o : Order) → refuse 117 ≡ board_host (board_of h ms ix) o
  short-edit o = sym (board_host-bad (board_of h ms ix) short-bad o).0

  short-decided : (request : ℕ) (cmd area : List ℕ) → Decided (board_of h ms ix) request cmd area (refuse 117) cmd area
  short-decided request cmd area =
      let q = (board_bad (board_of h ms ix) short-bad request cmd area).1 in
      record { edit = sym (bad-board (board_of h ms ix) short-bad request cmd area); reply = sym q.1; ranges = sym q.2 }

-- ---- commands

module _ (h : Head) (ms : List Mapping) (ix : List ℕ) (request : ℕ) (cs rs cs' rs' : List ℕ) (e : Edit) (d : Decided (board_of h ms ix) request cs rs e cs' rs') where
  lent-done : (s : Served) (v : Slots) (h' : Head) (ix' : List ℕ) → s ≡ served_by e v → Spanning e.change ms v → h' ≡ head_after e h → ix' ≡ index_after e.change ms ix
      → LentCall h ms ix request cs rs s.result h' (stored s.records ms) ix' cs' rs'
  unfolding served_by
  lent-done s v h' ix' es sp eh ex = record {
    result = ap (λ (x : Served). x.result) es ∙ ap (λ (x : Edit). signed_result x.errno) d.edit;
    head = eh ∙ ap (λ (x : Edit). head_after x h) d.edit;
    records = ap (λ (x : Served). stored x.records ms) es ∙ records-written ms e v sp ∙ ap (λ (x : Edit). records_after x ms) d.edit;
    index = ex ∙ ap (λ (x : Edit). index_after x.change ms ix) d.edit;
    reply = d.reply;
    ranges = d.ranges;
  }

  told-done : (r : ℤ) → r ≡ signed_result e.errno → Preview h ms ix request cs rs r h ms ix cs' rs'
  told-done r er = record { result = er ∙ ap (λ (x : Edit). signed_result x.errno) d.edit; head = refl; records = refl; index = refl; reply = d.reply; ranges = d.ranges }

module _ (h : List ℕ) (count : ℕ) (ws : List (List ℕ)) (bs : List ℕ) (request : ℕ) (cs rs : List ℕ) where
  pub call-short : (s : Served) (k : ℕ) → (count ≡ 128 → ⊥) → s ≡ served_by (refuse k) nowhere → k ≡ 117 → CallServed h count ws bs request cs rs s h bs cs rs
  call-short s k n es z = record {
    served = λ ms c l.
        lent-done (head_in h) ms bs request cs rs cs rs (refuse 117) (short-decided (head_in h) ms bs (λ x. n (sym c ∙ x)) request cs rs) s nowhere (head_in h) bs
        (es ∙ ap (λ (m : ℕ). served_by (refuse m) nowhere) z) tt (refused-head 117 (head_in h)) refl;
  }

  pub call-done : (s : Served) (v : Slots) (h' bs' cs' rs' : List ℕ) (e : Edit) → count ≡ 128 → Decided (board_of (head_in h) (records_of ws) bs) request cs rs e cs' rs'
      → s ≡ served_by e v → Spanning e.change (records_of ws) v → head_in h' ≡ head_after e (head_in h) → bs' ≡ index_after e.change (records_of ws) bs
      → CallServed h count ws bs request cs rs s h' bs' cs' rs'
  call-done s v h' bs' cs' rs' e n d es sp eh ex = record {
    served = λ ms c l.
        lent-done (head_in h) ms bs request cs rs cs' rs' e
        (subst (λ (zs : List Mapping). Decided (board_of (head_in h) zs bs) request cs rs e cs' rs') (l.same (c ∙ n)) d) s v (head_in h') bs' es
        (subst (λ (zs : List Mapping). Spanning e.change zs v) (l.same (c ∙ n)) sp) eh
        (ex ∙ ap (λ (zs : List Mapping). index_after e.change zs bs) (l.same (c ∙ n)));
  }

  pub preview_short : (r : ℤ) (k : ℕ) → (count ≡ 128 → ⊥) → r ≡ signed_result k → k ≡ 117 → PreviewServed h count ws bs request cs rs r cs rs
  preview_short r k n er z = record {
    served = λ ms c l. told-done (head_in h) ms bs request cs rs cs rs (refuse 117) (short-decided (head_in h) ms bs (λ x. n (sym c ∙ x)) request cs rs) r
        (er ∙ ap signed_result z);
  }

  pub preview_done : (r : ℤ) (cs' rs' : List ℕ) (e : Edit) → count ≡ 128 → Decided (board_of (head_in h) (records_of ws) bs) request cs rs e cs' rs'
      → r ≡ signed_result e.errno → PreviewServed h count ws bs request cs rs r cs' rs'
  preview_done r cs' rs' e n d er = record {
    served = λ ms c l. told-done (head_in h) ms bs request cs rs cs' rs' e
        (subst (λ (zs : List Mapping). Decided (board_of (head_in h) zs bs) request cs rs e cs' rs') (l.same (c ∙ n)) d) r er;
  }

-- ---- host calls

abbrev number_of : Option Order → ℕ
number_of None = 0
number_of (Some o) = 1

abbrev or_else : Order → Option Order → Order
or_else p None = p
or_else p (Some o) = o

-- a change of objects alone releases no mapping
alone-spans : (ms : List Mapping) (c : Change) (v : Slots) → ObjectsAlone c → Spanning c ms v
alone-spans ms Changes.Nothing v a = tt
alone-spans ms (Changes.Put i) v a = tt
alone-spans ms (Changes.Drop i) v a = absurd a
alone-spans ms (Changes.Map i m) v a = tt
alone-spans ms (Changes.Clear s r) v a = absurd a

-- an edit of the order, committed and told; the index stays
module _ (h : Head) (ms : List Mapping) (ix : List ℕ) (o : Order) (vs : List ℕ) (e : Edit) (d : e ≡ board_host (board_of h ms ix) o) where
  order-done : (s : Served) (h' : Head) (vs' : List ℕ) → s ≡ served_by e nowhere → h' ≡ head_after e h → vs' ≡ told_in e.errno e.value vs
      → LentHost h ms ix o vs s.result h' (stored s.records ms) ix vs'
  unfolding served_by told_in
  order-done s h' vs' es eh ev = record {
    result = ap (λ (x : Served). x.result) es ∙ ap (λ (x : Edit). signed_result x.errno) d;
    head = eh ∙ ap (λ (x : Edit). head_after x h) d;
    records = ap (λ (x : Served). stored x.records ms) es ∙ records-written ms e nowhere (alone-spans ms e.change nowhere (subst (λ (x : Edit). ObjectsAlone x.change) (sym d) (board_host-alone (board_of h ms ix) o))) ∙ ap (λ (x : Edit). records_after x ms) d;
    index = sym (board_host-index (board_of h ms ix) o ms ix);
    told = ev ∙ ap (λ (x : Edit). told_in x.errno x.value vs) d;
  }

none-served : (h : Head) (ms : List Mapping) (ix vs : List ℕ) (n k : ℕ) (s : Served) → s ≡ served_by (refuse k) nowhere → k ≡ n
    → LentNone h ms ix vs n s.result h (stored s.records ms) ix vs
none-served h ms ix vs n k s es z = rw (es, z) (record { result = refused-result n; head = refl; records = refused-records n ms; index = refl; told = refl })

module _ (h : List ℕ) (count : ℕ) (ws : List (List ℕ)) (bs : List ℕ) (kind : ℕ) (vs : List ℕ) where
  pub host_short : (s : Served) (k : ℕ) → length vs < 10 → s ≡ served_by (refuse k) nowhere → k ≡ 14 → HostServed h count ws bs kind vs s h bs vs
  host_short s k l es z = record {
    served = λ ms c x. record {
      short = λ _. none-served (head_in h) ms bs vs 14 k s es z;
      fresh = λ y. absurd (omega (arith, y, l));
      unknown = λ y. absurd (omega (arith, y, l));
      ordered = λ o y. absurd (omega (arith, y, l));
    };
  }

  pub host_fresh : (s : Served) (h' bs' : List ℕ) → 10 ≤ length vs → kind ≡ 0 → FreshServed h count bs (get_or vs 0 0) s h' bs' → HostServed h count ws bs kind vs s h' bs' vs
  host_fresh s h' bs' l k f = record {
    served = λ ms c x. record {
      short = λ z. absurd (omega (arith, z, l));
      fresh = λ _ _. (f.served ms c, refl);
      unknown = λ _ z. absurd (z k);
      ordered = λ o _ z. absurd (omega (arith, ap number_of (sym (fresh-order kind vs k) ∙ z)));
    };
  }

  pub host_unknown : (s : Served) (n : ℕ) → 10 ≤ length vs → 6 < kind → s ≡ served_by (refuse n) nowhere → n ≡ 25 → HostServed h count ws bs kind vs s h bs vs
  host_unknown s n l k es y = record {
    served = λ ms c x. record {
      short = λ z. absurd (omega (arith, z, l));
      fresh = λ _ z. absurd (omega (arith, z, k));
      unknown = λ _ _ _. none-served (head_in h) ms bs vs 25 n s es y;
      ordered = λ o _ z. absurd (omega (arith, ap number_of (sym (no-order kind vs k) ∙ z)));
    };
  }

  -- an order
  module _ (o : Order) (l : 10 ≤ length vs) (k : kind ≡ 0 → ⊥) (asked : order_in kind vs ≡ Some o) where
    only-order : (s : Served) (h' bs' vs' : List ℕ)
        → ((ms : List Mapping) → length ms ≡ count → Loaded ms ws → LentHost (head_in h) ms bs o vs s.result (head_in h') (stored s.records ms) bs' vs')
        → HostServed h count ws bs kind vs s h' bs' vs'
    only-order s h' bs' vs' f = record {
      served = λ ms c x. record {
        short = λ z. absurd (omega (arith, z, l));
        fresh = λ _ z. absurd (k z);
        unknown = λ _ _ z. absurd (omega (arith, ap number_of (sym z ∙ asked)));
        ordered = λ p _ z. subst (λ (y : Order). LentHost (head_in h) ms bs y vs s.result (head_in h') (stored s.records ms) bs' vs')
            (ap (or_else o) (sym asked ∙ z)) (f ms c x);
      };
    }

    pub host_bad : (s : Served) (m : ℕ) → (count ≡ 128 → ⊥) → s ≡ served_by (refuse m) nowhere → m ≡ 117 → HostServed h count ws bs kind vs s h bs vs
    host_bad s m n es y =
        only-order s h bs vs
        (λ ms c x. order-done (head_in h) ms bs o vs (refuse 117) (short-edit (head_in h) ms bs (λ z. n (sym c ∙ z)) o) s (head_in h) vs
        (es ∙ ap (λ (x : ℕ). served_by (refuse x) nowhere) y) (refused-head 117 (head_in h)) (told_none 117 0 vs (λ z. omega (arith, z))))

    pub host_done : (s : Served) (h' vs' : List ℕ) (e : Edit) → count ≡ 128 → e ≡ board_host (board_of (head_in h) (records_of ws) bs) o → s ≡ served_by e nowhere
        → head_in h' ≡ head_after e (head_in h) → vs' ≡ told_in e.errno e.value vs
        → HostServed h count ws bs kind vs s h' bs vs'
    host_done s h' vs' e n d es eh ev =
        only-order s h' bs vs'
        (λ ms c x. order-done (head_in h) ms bs o vs e (d ∙ ap (λ (zs : List Mapping). board_host (board_of (head_in h) zs bs) o) (x.same (c ∙ n))) s
        (head_in h') vs' es eh ev)
