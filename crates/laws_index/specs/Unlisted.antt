-- The searches of reach and of placement find the same whatever the records that are not listed hold (L9): what they find is told by the listed records alone, of any records that
-- agree with the table's on what its index lists.
use Rattle.std.specs.Prelude.{ℕ, ◌≤◌, ◌<◌, ◌≡◌, true, Option}
use Rattle.std.proofs.Math.Path.{ap}
use Rattle.std.proofs.Common.{◌∙◌}
use mathlib.Core.List.{List}
use Rattle.lists.specs.Each.{Each}
use Rattle.ranges.specs.declared.Range.{Range}
use Rattle.rangelists.specs.Listed.{allowed}
use Rattle.placement.specs.Candidates.{place_of}
use Rattle.rules_table.specs.declared.Mapping.{Mapping}
use Rattle.rules_table.specs.declared.Table.{Table}
use Rattle.rules_table.specs.Records.{object_at}
use Rattle.rules_table.specs.Spaces.{alignment}
use Rattle.rules_table.specs.Good.{good}
use Rattle.rules_calls.specs.Landing.{lowest_tried, blocked_in, automatic}
use Rattle.rules_calls.specs.Reach.{around}
use Rattle.rules_index.specs.Index.{mapping_at, view, numbers_in}
use Rattle.rules_index.specs.Board.{Board, good_board}
use Rattle.index.specs.Touched.{held_in, held-is}
use Rattle.index.specs.Agreeing.{agrees-lists}
use Rattle.index.specs.Following.{good-before}
use Rattle.index.specs.Verdict.{unlisted}
use Rattle.gaps.specs.Blocked.{gap_is}
use Rattle.laws_board.specs.Answers.{good-table, good-index}

module _ (b : Board) (g : good_board b ≡ true) (ns : List Mapping) (same : Each (λ r. mapping_at b.table.mappings r ≡ mapping_at ns r) (numbers_in b.index)) (s : ℕ) (h : 0 < s) where
  viewed : view (numbers_in b.index) b.table.mappings ≡ view (numbers_in b.index) ns
  viewed = unlisted (numbers_in b.index) b.table.mappings ns same

  -- the mapping of the space that holds an interval whole
  pub reach-unlisted : (r : Range) → r.start ≤ r.last → around b.table.mappings s r ≡ held_in (view (numbers_in b.index) ns) s r
  reach-unlisted r k =
      let l = agrees-lists b.index b.table.mappings (good-index b g) in
      held-is (numbers_in b.index) b.table.mappings s r l (good-before b.table (numbers_in b.index) (good-table b g) l) h k
      ∙ ap (λ (ls : List Mapping). held_in ls s r) viewed

  -- the place of n bytes
  pub automatic-listed : (n : ℕ) → automatic b.table.objects b.table.mappings s n ≡ automatic b.table.objects (view (numbers_in b.index) ns) s n
  unfolding automatic
  automatic-listed n =
      let os = b.table.objects in
      let l = agrees-lists b.index b.table.mappings (good-index b g) in
      gap_is (alignment os s) n lowest_tried (allowed (object_at os s).allow) os s h (numbers_in b.index) b.table.mappings l
      ∙ ap (λ (ls : List Mapping). place_of (alignment os s) n lowest_tried (blocked_in os ls s) (allowed (object_at os s).allow)) viewed
