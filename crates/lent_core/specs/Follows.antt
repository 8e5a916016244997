-- A change that a command decides is one that the index follows.
use Rattle.std.specs.Prelude.{ℕ, ◌<◌, ◌≡◌, refl, true, not, List, length, get_or}
use Rattle.std.proofs.Common.{ap, arith}
use Rattle.lists.specs.Sums.{count_of}
use Rattle.lists.specs.Counting.{count_of-at, count_of-not}
use Rattle.rules_table.specs.declared.Mapping.{Mapping}
use Rattle.rules_table.specs.Records.{zero_mapping, used}
use Rattle.rules_table.specs.Layout.{table_of}
use Rattle.rules_table.specs.Words.{head_in}
use Rattle.rules_calls.specs.declared.Change.{Change}
use Rattle.rules_calls.specs.declared.Change.TheVariants.{Nothing, Put, Drop, Map, Clear}
use Rattle.rules_calls.specs.declared.Edit.{Edit}
use Rattle.rules_index.specs.Index.{numbers_in}
use Rattle.rules_index.specs.Board.{Board, good_board, board_edit}
use Rattle.rules_lent.specs.Lent.{board_of}
use Rattle.index.specs.Agreeing.{agrees-lists, lists_length}
use Rattle.index_search.specs.Indexed.{Indexed, indexed}
use Rattle.index_search.specs.Followable.{Followable}
use Rattle.layout_mappings.specs.Words.{records_of}
use Rattle.table.specs.Sound.{good-sound}
use Rattle.iommufd.specs.Deciding.{Decided}
use Rattle.laws_board.specs.Answers.{good-table, good-index}
use Rattle.laws_board.specs.Refused.{board_changes}
use Rattle.laws_board.specs.Deciding.{Shown, board_shown}

-- a released record is no mapping: so not all of them are listed
room : (ms : List Mapping) (i : ℕ) → i < length ms → get_or ms i zero_mapping ≡ zero_mapping → count_of used ms < length ms
unfolding used
room ms i h e = omega (arith, count_of-at (λ m. not (used m)) ms zero_mapping i h (rw e refl), count_of-not used ms)

-- a change that is one
abbrev is_change : Change → ℕ
is_change Nothing = 0
is_change (Put i) = 1
is_change (Drop i) = 1
is_change (Map i m) = 1
is_change (Clear s r) = 1

module _ (b : Board) (g : good_board b ≡ true) where
  its_index : Indexed (length (numbers_in b.index)) b.index b.table.mappings
  its_index = indexed b.table b.index (good-table b g) (good-index b g)

  -- there are 128 records, and one of them is released
  its_room : (i : ℕ) → i < length b.table.mappings → get_or b.table.mappings i zero_mapping ≡ zero_mapping → (length (numbers_in b.index) < 128) × (i < 128)
  its_room i h e =
      let ms = b.table.mappings in
      let n = (good-sound b.table (good-table b g)).counted in
      let k = lists_length (numbers_in b.index) ms (agrees-lists b.index ms (good-index b g)) in
      (omega (arith, n, k, room ms i h e), omega (arith, n, h))

-- where mappings come or go the board is good
followable : (b : Board) (c : Change) → Shown b.table.mappings c → ((c ≡ Nothing → ⊥) → good_board b ≡ true) → Followable c b.index b.table.mappings
followable b Nothing s g = tt
followable b (Put i) s g = tt
followable b (Drop i) s g = its_index b (g (λ e. omega (arith, ap is_change e)))
followable b (Map i m) s g =
    let k = g (λ e. omega (arith, ap is_change e)) in
    let r = its_room b k i s.0 s.1 in
    (its_index b k, r.0, r.1)
followable b (Clear a r) s g = (its_index b (g (λ e. omega (arith, ap is_change e))), s.0)

-- THE LAW
pub follows : (h : List ℕ) (ws : List (List ℕ)) (bs : List ℕ) (request : ℕ) (cs rs cs' rs' : List ℕ) (e : Edit) → Decided (board_of (head_in h) (records_of ws) bs) request cs rs e cs' rs'
    → Followable e.change bs (records_of ws)
unfolding table_of
follows h ws bs request cs rs cs' rs' e d =
    let b = board_of (head_in h) (records_of ws) bs in
    rw d.edit (followable b (board_edit b request cs rs).change (board_shown b request cs rs) (board_changes b request cs rs))
