-- After every call the index is that of the table's mappings: for each space it lists each of its mappings once, in ascending address.
use Rattle.std.specs.Prelude.{ℕ, zero, suc, ◌≤◌, ◌≡◌, refl, Bool, true, List, ◌++◌, eqb, ltb, negsuc}
use Rattle.std.proofs.Common.{subst, ◌∙◌, arith, eqb-true, ne_eqb, lt-ltb}
use Rattle.lists.specs.Tests.{by-test, only_if, and_both}
use Rattle.lists.specs.Sums.{keep, count_of}
use Rattle.lists.specs.Checks.{first}
use Rattle.ranges.specs.Ranges.{span}
use Rattle.sorted.specs.Sorted.{ordered, ordered-mono, ordered-keep, ordered-map, all_true}
use Rattle.rules_table.specs.declared.Mapping.{Mapping}
use Rattle.rules_table.specs.declared.Table.{Table}
use Rattle.rules_table.specs.Records.{object_at, home_of, used, of_space}
use Rattle.rules_table.specs.Charge.{charge}
use Rattle.rules_table.specs.Good.{good}
use Rattle.rules_calls.specs.declared.Act.{Act}
use Rattle.rules_calls.specs.declared.Act.TheVariants.{Bind, Attach, Detach, Reach, Charge, Next}
use Rattle.rules_calls.specs.Next.{next_number, next_checks, next_edit}
use Rattle.rules_calls.specs.declared.Answer.{Answer}
use Rattle.rules_calls.specs.declared.Edit.{Edit}
use Rattle.rules_calls.specs.declared.Order.{Order}
use Rattle.rules_calls.specs.Edits.{applied, settle, tells}
use Rattle.rules_calls.specs.Answers.{outcome, outcome_id}
use Rattle.rules_calls.specs.Gate.{table_errno}
use Rattle.rules_calls.specs.Reach.{around, memory_at, reach_checks, held_checks, reach_by, reach_of}
use Rattle.rules_calls.specs.Named.{bind_call, attach_call, detach_call}
use Rattle.rules_calls.specs.Orders.{bind_order, attach_order, detach_order, reach_order, act_edit, host_edit}
use Rattle.rules_calls.specs.Call.{call_edit}
use Rattle.rules_history.specs.Calls.{Call}
use Rattle.rules_index.specs.Index.{below, ahead, mapping_at, view, numbers_in, agrees}
use Rattle.rules_index.specs.Board.{Board, good_board, board_edit, board_host, board_after}
use Rattle.rules_lent.specs.Boards.{edit_of, board_reply}
use Rattle.edits.specs.Replies.{call-edit}
use Rattle.index.specs.Listing.{lex-elim}
use Rattle.index.specs.Agreeing.{agrees-lists}
use Rattle.index.specs.Following.{Followed, agrees_after, count-without, keep_all}
use Rattle.laws_board.specs.Deciding.{call-followed, host_followed}
use Rattle.laws_history.specs.History.{step-good}
use Rattle.laws_board.specs.Answers.{good-table, good-index, board_same, host_same}
use Rattle.laws_board.specs.Refused.{board_117}

-- ---- one call

kept : (b : Board) (e : Edit) → good_board b ≡ true → good (applied b.table e) ≡ true → Followed b.table.mappings e.change → good_board (board_after b e) ≡ true
unfolding good_board board_after applied
kept b e g t f =
    and_both (good (applied b.table e)) (agrees (board_after b e).index (applied b.table e).mappings) t
    (agrees_after b.table e.change b.index (good-table b g) (good-index b g) f)

call-good : (t : Table) (request : ℕ) (bytes area : List ℕ) → good t ≡ true → good (applied t (call_edit t request bytes area)) ≡ true
unfolding outcome
call-good t request bytes area g = subst (λ (a : Answer). good a.table ≡ true) (call-edit t request bytes area) (step-good (Call.Command request bytes area) t g)

-- reach and charge change nothing
pub settled-stays : (t : Table) (m k v : ℕ) → applied t (settle m (settle k (tells v))) ≡ t
unfolding applied
settled-stays t zero zero v = refl
settled-stays t zero (suc k) v = refl
settled-stays t (suc m) k v = refl

pub reach-stays : (t : Table) (o : Order) (write : Bool) → applied t (settle (table_errno t) (act_edit t o (Reach write))) ≡ t
unfolding reach_of reach_by
reach-stays t o write =
    let x = (object_at t.objects o.first).kind in
    let h = around t.mappings (home_of x) (span o.address o.length) in
    settled-stays t (table_errno t) (first (reach_checks x o.address o.length ++ held_checks write h) 0) (memory_at o.address h)

host_good : (t : Table) (o : Order) → good t ≡ true → good (applied t (host_edit t o)) ≡ true
unfolding host_edit bind_call attach_call detach_call outcome outcome_id next_edit
host_good t o g = go o.act
  where
    go : (k : Act) → good (applied t (settle (table_errno t) (act_edit t o k))) ≡ true
    go Bind = step-good (Call.Bind o.bitmap o.reserved) t g
    go Attach = step-good (Call.Attach o.second o.first) t g
    go Detach = step-good (Call.Detach o.first) t g
    go (Reach write) = rw (reach-stays t o write) g
    go Charge = rw (settled-stays t (table_errno t) 0 (charge t.mappings)) g
    go Next = rw (settled-stays t (table_errno t) (first (next_checks t.objects o.first) 0) (next_number t.mappings o.first o.address)) g

-- THE LAWS: no call makes a bad board out of a good one
module _ (b : Board) (g : good_board b ≡ true) where
  pub board_good : (request : ℕ) (bytes area : List ℕ) → good_board (board_after b (board_edit b request bytes area)) ≡ true
  board_good request bytes area =
      rw (board_same b (good-index b g) request bytes area)
      (kept b (call_edit b.table request bytes area) g (call-good b.table request bytes area (good-table b g)) (call-followed b.table request bytes area))

  pub board_host-good : (o : Order) → good_board (board_after b (board_host b o)) ≡ true
  board_host-good o = rw (host_same b (good-index b g) o) (kept b (host_edit b.table o) g (host_good b.table o (good-table b g)) (host_followed b.table o))

  pub board_kept : (c : Call) → good_board (board_after b (edit_of c b)) ≡ true
  board_kept (Call.Command request bytes area) = board_good request bytes area
  board_kept (Call.Bind bitmap r) = board_host-good (bind_order bitmap r)
  board_kept (Call.Attach d s) = board_host-good (attach_order d s)
  board_kept (Call.Detach d) = board_host-good (detach_order d)
  board_kept (Call.Reach d a n write) = board_host-good (reach_order d a n write)

-- ---- what it lists

-- the numbers of an index whose records are of space s, in their order
unfoldable pub list_of : ℕ → Board → List ℕ
list_of s b = keep (λ r. of_space s (mapping_at b.table.mappings r)) (numbers_in b.index)

-- the index lists the space: each of its mappings once, and no other number; their addresses ascend
pub record ListsSpace (s : ℕ) (b : Board) : Type 0 where
  pub once : (r : ℕ) → count_of (eqb r) (list_of s b) ≡ only_if (of_space s (mapping_at b.table.mappings r)) 1
  pub ascends : ordered (λ q r. ltb (mapping_at b.table.mappings q).address (mapping_at b.table.mappings r).address) (list_of s b) ≡ true

of_used : (s : ℕ) (m : Mapping) → 1 ≤ s → of_space s m ≡ true → used m ≡ true
unfolding of_space used
of_used s m h e = let z = eqb-true m.space s e in rw (ne_eqb m.space 0 (λ y. omega (arith, y, z, h)))

-- of two of one space, the one ahead has the lower address
ahead_lower : (s : ℕ) (m n : Mapping) → of_space s m ≡ true → of_space s n ≡ true → ahead m n ≡ true → ltb m.address n.address ≡ true
unfolding of_space below
ahead_lower s m n p q e =
    let x = eqb-true m.space s p in
    let y = eqb-true n.space s q in
    lex-elim m.space (suc m.address) n.space n.address e (λ h. absurd (omega (arith, x, y, h))) (λ h k. lt-ltb m.address n.address (omega (arith, k)))

-- THE LAW
pub index-lists : (s : ℕ) (b : Board) → 1 ≤ s → agrees b.index b.table.mappings ≡ true → ListsSpace s b
unfolding list_of view
index-lists s b h a =
    let ms = b.table.mappings in
    let xs = numbers_in b.index in
    let l = agrees-lists b.index ms a in
    let q : ℕ → Bool = λ r. of_space s (mapping_at ms r) in
    record {
      once = λ r.
          count-without r q xs
          ∙ by-test (q r)
          (λ t. rw t (l.once r ∙ rw (of_used s (mapping_at ms r) h t) refl))
          (λ t. rw t refl);
      ascends = ordered-mono q (λ i j. ahead (mapping_at ms i) (mapping_at ms j)) (λ i j. ltb (mapping_at ms i).address (mapping_at ms j).address) (keep q xs)
          (λ i j p r e. ahead_lower s (mapping_at ms i) (mapping_at ms j) p r e) (keep_all (λ i. true) q q xs (λ i u t. t) (all_true xs)) (ordered-keep (λ i j. ahead (mapping_at ms i) (mapping_at ms j)) q xs (ordered-map ahead (mapping_at ms) xs l.order));
    }

-- THE LAW of L9: after any call not answered 117 the index lists exactly the mappings of each space, each once, in ascending address
not_117 : (b : Board) (c : Call) → ((board_reply c b).result ≡ negsuc 116 → ⊥) → good_board b ≡ true
not_117 b c n = by-test (good_board b) (λ g. g) (λ g. absurd (n (board_117 b g c).0))

pub index-after : (b : Board) (c : Call) → ((board_reply c b).result ≡ negsuc 116 → ⊥) → (s : ℕ) → 1 ≤ s → ListsSpace s (board_after b (edit_of c b))
index-after b c n s h = index-lists s (board_after b (edit_of c b)) h (good-index (board_after b (edit_of c b)) (board_kept b (not_117 b c n) c))
