-- Next at the door (README): what the host call tells of a good table with its index.
use Rattle.std.specs.Prelude.{ℕ, zero, suc, ◌≤◌, ◌<◌, ◌≡◌, refl, true, false, not, List, []}
use Rattle.std.proofs.Common.{sym, ap, ◌∙◌, arith}
use Rattle.lists.specs.Tests.{contrary, and_left, and_right}
use Rattle.lists.specs.Checks.{when, first_passes, first-nil}
use Rattle.rules_table.specs.declared.Object.{Object}
use Rattle.rules_table.specs.declared.Mapping.{Mapping}
use Rattle.rules_table.specs.Records.{space_at, object_at}
use Rattle.rules_table.specs.Good.{good}
use Rattle.rules_calls.specs.Edits.{tells, settle}
use Rattle.rules_calls.specs.Gate.{table_errno}
use Rattle.rules_calls.specs.Next.{next_number, next_checks, next_edit}
use Rattle.rules_calls.specs.Orders.{next_order, host_edit}
use Rattle.rules_index.specs.Index.{agrees}
use Rattle.rules_index.specs.Board.{Board, good_board, guarded, board_host}
use Rattle.table.specs.Sound.{good-sound}
use Rattle.index_next.specs.NextMapping.{NextMapping, next_number-is}

space-id : (os : List Object) (s : ℕ) → space_at os s ≡ true → 0 < s
unfolding space_at object_at
space-id os zero e = contrary false e refl
space-id os (suc i) e = omega arith

next-edit : (os : List Object) (ms : List Mapping) (s a : ℕ) → space_at os s ≡ true → next_edit os ms s a ≡ tells (next_number ms s a)
unfolding next_edit next_checks
next-edit os ms s a e = ap (λ (n : ℕ). settle n (tells (next_number ms s a))) (first_passes (when (not (space_at os s)) 2) [] 0 (rw e refl) ∙ first-nil 0)

next-door : (b : Board) (s a : ℕ) → good_board b ≡ true → space_at b.table.objects s ≡ true → tells (next_number b.table.mappings s a) ≡ board_host b (next_order s a)
unfolding good_board board_host guarded host_edit table_errno
next-door b s a g e =
    rw (and_right (good b.table) (agrees b.index b.table.mappings) g, and_left (good b.table) (agrees b.index b.table.mappings) g) (sym (next-edit b.table.objects b.table.mappings s a e))

-- THE LAW
pub next-is : (b : Board) (s a : ℕ) → good_board b ≡ true → space_at b.table.objects s ≡ true
    → ((board_host b (next_order s a)).errno ≡ 0) × ((board_host b (next_order s a)).value ≤ 128) × NextMapping b.table.mappings s a (board_host b (next_order s a)).value
unfolding good_board
next-is b s a g e =
    let n = next_number-is b.table.mappings s a (space-id b.table.objects s e) in
    let c = (good-sound b.table (and_left (good b.table) (agrees b.index b.table.mappings) g)).counted in
    rw (← next-door b s a g e) (refl, omega (arith, n.most, c), n)
