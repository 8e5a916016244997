-- What the index in the caller's memory lists after a call that is not answered 117: the mappings of each space, each once, in ascending address.
use Rattle.std.specs.Prelude.{ℕ, ◌≤◌, ◌≡◌, true, List, ℤ, pos, negsuc}
use Rattle.std.proofs.Common.{sym, ◌∙◌}
use Rattle.lists.specs.Tests.{by-test}
use Rattle.opening.specs.Signed.{result-none}
use Rattle.rules_table.specs.declared.Mapping.{Mapping}
use Rattle.rules_table.specs.declared.Head.{Head}
use Rattle.rules_calls.specs.declared.Edit.{Edit}
use Rattle.rules_calls.specs.declared.Order.{Order}
use Rattle.rules_index.specs.Board.{Board, good_board, fresh_board, board_edit, board_host, index_after, board_after}
use Rattle.rules_lent.specs.Lent.{head_after, records_after, board_of}
use Rattle.rules_lent.specs.Entries.{LentCall, LentHost, LentFresh, fresh_errno}
use Rattle.laws_board.specs.Answers.{good-index}
use Rattle.laws_index.specs.Kept.{ListsSpace, index-lists, board_good, board_host-good}
use Rattle.laws_lent.specs.Applied.{after-board}
use Rattle.laws_lent.specs.Refused.{lent-bad, lent-host_bad}
use Rattle.laws_lent.specs.Lending.{fresh-lent}

-- what is left is the board after the edit
left_is : (h : Head) (ms : List Mapping) (ix : List ℕ) (e : Edit) (h' : Head) (ms' : List Mapping) (ix' : List ℕ) → h' ≡ head_after e h → ms' ≡ records_after e ms → ix' ≡ index_after e.change ms ix
    → board_of h' ms' ix' ≡ board_after (board_of h ms ix) e
left_is h ms ix e h' ms' ix' p q s = rw (p, q, s) (after-board h ms ix e)

lists-after : (b c : Board) → b ≡ c → good_board c ≡ true → (s : ℕ) → 1 ≤ s → ListsSpace s b
lists-after b c e g s k = rw e (index-lists s c k (good-index c g))

-- THE LAWS
module _ (h : Head) (ms : List Mapping) (ix : List ℕ) (request : ℕ) (cmd area : List ℕ) (r : ℤ) (h' : Head) (ms' : List Mapping) (ix' cmd' area' : List ℕ)
    (l : LentCall h ms ix request cmd area r h' ms' ix' cmd' area') (n : r ≡ negsuc 116 → ⊥) where
  good-before : good_board (board_of h ms ix) ≡ true
  good-before = by-test (good_board (board_of h ms ix)) (λ g. g) (λ g. absurd (n (lent-bad h ms ix request cmd area r h' ms' ix' cmd' area' l g).0))

  pub lent-lists : (s : ℕ) → 1 ≤ s → ListsSpace s (board_of h' ms' ix')
  lent-lists =
      let e = board_edit (board_of h ms ix) request cmd area in
      lists-after (board_of h' ms' ix') (board_after (board_of h ms ix) e) (left_is h ms ix e h' ms' ix' l.head l.records l.index) (board_good (board_of h ms ix) good-before request cmd area)

module _ (h : Head) (ms : List Mapping) (ix : List ℕ) (o : Order) (words : List ℕ) (r : ℤ) (h' : Head) (ms' : List Mapping) (ix' words' : List ℕ)
    (l : LentHost h ms ix o words r h' ms' ix' words') (n : r ≡ negsuc 116 → ⊥) where
  host_good_before : good_board (board_of h ms ix) ≡ true
  host_good_before = by-test (good_board (board_of h ms ix)) (λ g. g) (λ g. absurd (n (lent-host_bad h ms ix o words r h' ms' ix' words' l g).0))

  pub lent-host_lists : (s : ℕ) → 1 ≤ s → ListsSpace s (board_of h' ms' ix')
  lent-host_lists =
      let e = board_host (board_of h ms ix) o in
      lists-after (board_of h' ms' ix') (board_after (board_of h ms ix) e) (left_is h ms ix e h' ms' ix' l.head l.records l.index) (board_host-good (board_of h ms ix) host_good_before o)

-- a fresh table that was made stands there with its index
pub lent-fresh : (h : Head) (ms : List Mapping) (ix : List ℕ) (limit : ℕ) (r : ℤ) (h' : Head) (ms' : List Mapping) (ix' : List ℕ) → LentFresh h ms ix limit r h' ms' ix' → r ≡ pos 0
    → board_of h' ms' ix' ≡ fresh_board limit
lent-fresh h ms ix limit r h' ms' ix' l z =
    let n : fresh_errno ms ix limit ≡ 0 = result-none (fresh_errno ms ix limit) (sym l.result ∙ z) in
    rw (l.head, l.records, l.index, n) (fresh-lent limit)
