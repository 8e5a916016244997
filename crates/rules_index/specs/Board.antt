-- A table with what stands beside it, and what a call leaves of both (L9). The rules of the calls speak of the table; an index other than the table's makes it bad, and after every other call it is
-- the index of the table again.
use Rattle.std.specs.Prelude.{ℕ, ◌+◌, ◌≡◌, refl, Bool, not, ◌&&◌, cond, List, [], ◌∷◌, ◌++◌, map, leb, replicate}
use Rattle.lists.specs.Sums.{keep}
use Rattle.ranges.specs.Ranges.{range, span, last_of, inside}
use Rattle.rules_table.specs.Limits.{object_count, mapping_count}
use Rattle.rules_table.specs.declared.Mapping.{Mapping}
use Rattle.rules_table.specs.declared.Table.{Table}
use Rattle.rules_table.specs.Records.{zero_mapping, of_space, extent, within, fresh_table}
use Rattle.rules_table.specs.Good.{good}
use Rattle.rules_calls.specs.declared.Change.{Change}
use Rattle.rules_calls.specs.declared.Change.TheVariants.{Nothing, Put, Drop, Map, Clear}
use Rattle.rules_calls.specs.declared.Edit.{Edit}
use Rattle.rules_calls.specs.Edits.{refuse, tells, settle, applied}
use Rattle.rules_calls.specs.declared.Order.{Order}
use Rattle.rules_calls.specs.Requests.{lookup}
use Rattle.rules_calls.specs.Gate.{gate}
use Rattle.rules_calls.specs.Orders.{host_edit}
use Rattle.rules_calls.specs.Call.{Done, call_edit, row_done}
use Rattle.rules_index.specs.Index.{lex, below, mapping_at, numbers_in, padded, agrees, agreeing}

pub record Board : Type 0 where
  pub table : Table
  pub index : List ℕ

unfoldable pub fresh_board : ℕ → Board
fresh_board limit = record { table = fresh_table limit; index = replicate mapping_count 0 }

-- not bad: the table is good, and the index is that of its mappings
unfoldable pub good_board : Board → Bool
good_board b = good b.table && agrees b.index b.table.mappings

-- the numbers of the records that do not pass
unfoldable pub without : (Mapping → Bool) → List ℕ → List Mapping → List ℕ
without p xs ms = keep (λ r. not (p (mapping_at ms r))) xs

-- a number comes behind those whose records begin before address a of space s
unfoldable pub inserted : ℕ → ℕ → ℕ → List ℕ → List Mapping → List ℕ
inserted s a r xs ms = keep (λ k. below s a (mapping_at ms k)) xs ++ (r ∷ without (below s a) xs ms)

-- the index after a change of the records
abbrev pub index_after : Change → List Mapping → List ℕ → List ℕ
index_after Nothing ms ix = ix
index_after (Put i) ms ix = ix
index_after (Drop i) ms ix = cond (leb object_count i) ix (padded (without (of_space (i + 1)) (numbers_in ix) ms))
index_after (Map i m) ms ix = padded (inserted m.space m.address (i + 1) (numbers_in ix) ms)
index_after (Clear s r) ms ix = padded (without (within s r) (numbers_in ix) ms)

-- the edit that a call decides: 117 where the index is another, else what it decides over the table
unfoldable pub guarded : Board → Edit → Edit
guarded b e = settle (gate (agrees b.index b.table.mappings) 0) e

-- a command, and what it leaves; a host call
unfoldable pub board_edit : Board → ℕ → List ℕ → List ℕ → Edit
board_edit b request bytes area = guarded b (call_edit b.table request bytes area)

unfoldable pub board_done : Board → ℕ → List ℕ → List ℕ → Done
board_done b request bytes area = row_done (lookup request) b.table (board_edit b request bytes area) bytes area

unfoldable pub board_host : Board → Order → Edit
board_host b o = guarded b (host_edit b.table o)

-- the board after an edit
unfoldable pub board_after : Board → Edit → Board
board_after b e = record { table = applied b.table e; index = index_after e.change b.table.mappings b.index }

-- ---- examples: to unfold `follows` is to unfold all that it lists

unfoldable pub follows : Change → List Mapping → List ℕ → List ℕ
unfolding without inserted keep below lex mapping_at numbers_in padded of_space within inside extent span last_of
follows c ms ix = index_after c ms ix

-- a mapping of space s at address a
abbrev at : ℕ → ℕ → Mapping
at s a = record { space = s; rights = 2; founder = 0; backing = 1; address = a; length = 16; memory = 0 }

-- record 1 is in space 2, record 2 is released, records 3 and 4 are in space 1
abbrev four : List Mapping
four = at 2 0 ∷ zero_mapping ∷ at 1 16 ∷ at 1 0 ∷ []

abbrev ix : List ℕ
ix = padded (4 ∷ 3 ∷ 1 ∷ [])

-- record 2 becomes a mapping: behind record 3, behind all, between records 4 and 3
mapped : map (λ (m : Mapping). index_after (Map 1 m) four ix) (at 1 32 ∷ at 3 0 ∷ at 1 8 ∷ [])
    ≡ (padded (4 ∷ 3 ∷ 2 ∷ 1 ∷ []) ∷ padded (4 ∷ 3 ∷ 1 ∷ 2 ∷ []) ∷ padded (4 ∷ 2 ∷ 3 ∷ 1 ∷ []) ∷ [])
unfolding follows
mapped = refl

-- UNMAP of 0 to 15 takes record 4, of 0 to 31 also record 3; DESTROY of space 1 both, of space 2 record 1
cleared : map (λ (c : Change). index_after c four ix) (Clear 1 (range 0 15) ∷ Clear 1 (range 0 31) ∷ Drop 0 ∷ Drop 1 ∷ [])
    ≡ (padded (3 ∷ 1 ∷ []) ∷ padded (1 ∷ []) ∷ padded (1 ∷ []) ∷ padded (4 ∷ 3 ∷ []) ∷ [])
unfolding follows
cleared = refl

-- with the index of its mappings an edit stands, with any other it is 117; so of a fresh board, of one with a number too many and of one that is a zero short
unfoldable pub guards : Board → Edit → Edit
unfolding guarded agreeing
guards b e = guarded b e

guarded-edits : map (λ (ix : List ℕ). guarded record { table = fresh_table 4; index = ix } (tells 7)) (replicate 128 0 ∷ (1 ∷ replicate 127 0) ∷ replicate 127 0 ∷ []) ≡ (tells 7 ∷ refuse 117 ∷ refuse 117 ∷ [])
unfolding guards fresh_table
guarded-edits = refl
