-- The lines of a plan's commands, one after the other, and a list that is filled with them.
use Prim.Native.Nat.{ℕ, zero, suc, ◌+◌, ◌-◌, ◌*◌, ◌≤◌, ◌<◌}
use mathlib.Core.Path.{◌≡◌, refl, sym, ap, ◌∙◌}
use mathlib.Core.Bool.{Bool, true, false}
use Rattle.std.specs.Prelude.{Some, None, is_some}
use mathlib.Core.List.{List, [], ◌∷◌, ◌++◌, map, append_assoc, append-nil}
use native.Mathlib.Nat.{le_of_suc-le-suc, not-suc-le-zero}
use native.Mathlib.Numerals.{add-one}
use native.Mathlib.Omega.{arith}
use lib.ListN.{length, take, set}
use Rattle.wire.specs.Fields.{field}
use Rattle.rules_table.specs.declared.Table.{Table}
use Rattle.plan_shape.specs.declared.Section.TheVariants.{Commands}
use Rattle.plan.specs.declared.Ready.{Ready}
use Rattle.plan_commands.specs.declared.Line as Kept
use Rattle.plan_commands.specs.declared.Ran.{Ran}
use Rattle.plan_shape.specs.Plan.{commands_at, command_end, item_end, items_end, order_at, orders, plan_of}
use Rattle.plan_commands.specs.Ran.{answer_to, ran_by, ran_at}
use Rattle.plan.specs.Running.{Line, kept_of, line_by, lines_from, lines_of, is_ready, ready_of, good_plan, shown}
use Rattle.plan_shape.specs.Ends.{item_from, items_turn}
use Rattle.plan.proofs.Judging.{ready_good, ready_test, ready_set, ready_is, ready_length, ready_room}

pub command-room : (bs : List ℕ) (at : ℕ) → item_end Commands bs at ≤ length bs → at + (12 + field 4 bs (at + 4) + field 4 bs (at + 8)) ≤ length bs
unfolding item_end command_end
command-room bs at h = h

pub items_after : (left m : ℕ) (bs : List ℕ) (at : ℕ) (t : Table) (r : Ran) → items_end Commands left bs at ≤ length bs → 0 < left → m ≡ left - 1 → r ≡ ran_at t bs at → items_end Commands m bs r.next ≤ length bs
unfolding ran_at ran_by
items_after left m bs at t r room h f e = rw (f, e) (omega (arith, room, items_turn Commands bs left at h))

-- ---- the next line

abbrev pub line_of : ℕ → Ran → Line
line_of k r = record { number = k; request = r.line.request; result = r.line.result; charge = r.line.charge }

pub lines-turn : (left : ℕ) (bs : List ℕ) (at k : ℕ) (t : Table) (r : Ran) → 0 < left → r ≡ ran_at t bs at
    → lines_from k t (orders left bs at) ≡ line_of k r ∷ lines_from (k + 1) r.table (orders (left - 1) bs r.next)
unfolding lines_from orders line_by ran_at ran_by
lines-turn zero bs at k t r h e = absurd (omega arith)
lines-turn (suc n) bs at k t r h e =
    let f : n ≡ suc n - 1 = omega arith in
    rw e (ap (λ (m : ℕ). line_by k (order_at bs at) (answer_to t (order_at bs at)) ∷ lines_from (k + 1) (answer_to t (order_at bs at)).table (orders m bs (item_end Commands bs at))) f)

pub lines_none : (left : ℕ) (bs : List ℕ) (at k : ℕ) (t : Table) → left ≤ 0 → lines_from k t (orders left bs at) ≡ []
unfolding lines_from orders
lines_none zero bs at k t h = refl
lines_none (suc n) bs at k t h = absurd (omega arith)

-- ---- a list that is filled from the front

take_stored : {A : Type 0} (xs : List A) (k : ℕ) (x : A) → k < length xs → take (suc k) (set xs k x) ≡ take k xs ++ (x ∷ [])
take_stored [] k x h = absurd (not-suc-le-zero h)
take_stored (y ∷ ys) zero x h = refl
take_stored (y ∷ ys) (suc k) x h = ap (λ r. y ∷ r) (take_stored ys k x (le_of_suc-le-suc h))

pub filled_none : (m n : ℕ) (bs : List ℕ) (at : ℕ) (t : Table) → m ≡ n → map kept_of (lines_from 0 t (orders m bs at)) ≡ map kept_of (lines_from 0 t (orders n bs at))
filled_none m n bs at t e = rw e refl

module _ (left : ℕ) (bs : List ℕ) (at k : ℕ) (t : Table) (xs : List Kept.Line) {r : List Kept.Line} (v : take k xs ++ map kept_of (lines_from k t (orders left bs at)) ≡ r) where
  pub filled_on : (s : Ran) (m : ℕ) → 0 < left → m ≡ left - 1 → s ≡ ran_at t bs at → k < length xs
      → take (k + 1) (set xs k s.line) ++ map kept_of (lines_from (k + 1) s.table (orders m bs s.next)) ≡ r
  filled_on s m h i e l =
      ap (λ (n : ℕ). take (k + 1) (set xs k s.line) ++ map kept_of (lines_from (k + 1) s.table (orders n bs s.next))) i
      ∙ ap (λ (n : ℕ). take n (set xs k s.line) ++ map kept_of (lines_from (k + 1) s.table (orders (left - 1) bs s.next))) (add-one k)
      ∙ ap (λ (ys : List Kept.Line). ys ++ map kept_of (lines_from (k + 1) s.table (orders (left - 1) bs s.next))) (take_stored xs k s.line l)
      ∙ append_assoc (take k xs) (s.line ∷ []) (map kept_of (lines_from (k + 1) s.table (orders (left - 1) bs s.next)))
      ∙ ap (λ (ls : List Line). take k xs ++ map kept_of ls) (sym (lines-turn left bs at k t s h e))
      ∙ v

  pub filled_all : (n : ℕ) → left ≤ 0 → k + left ≡ n → take n xs ≡ r
  filled_all n h e =
      let g : n ≡ k = omega (arith, h, e) in
      ap (λ (m : ℕ). take m xs) g ∙ sym (append-nil (take k xs)) ∙ ap (λ (ls : List Line). take k xs ++ map kept_of ls) (sym (lines_none left bs at k t h)) ∙ v

-- ---- the whole plan

-- a command has 8 bytes or more, so that few fit
pub items_count : (bs : List ℕ) (n at : ℕ) → 8 * n + at ≤ items_end Commands n bs at
unfolding items_end
items_count bs zero at = omega arith
items_count bs (suc n) at = omega (arith, item_from Commands bs at, items_count bs n (item_end Commands bs at))

lines-count : (n : ℕ) (bs : List ℕ) (at k : ℕ) (t : Table) → length (lines_from k t (orders n bs at)) ≡ n
unfolding lines_from orders
lines-count zero bs at k t = refl
lines-count (suc n) bs at k t = ap suc (lines-count n bs (item_end Commands bs at) (k + 1) (answer_to t (order_at bs at)).table)

bad-shown : (bs : List ℕ) → is_ready bs ≡ false → shown bs ≡ []
unfolding shown
bad-shown bs h = rw h refl

-- what a run answers: whether the plan is good, how many lines it has, and the lines
abbrev pub Answers : List ℕ → Bool → ℕ → List Kept.Line → Type 0
Answers bs good count lines = (good ≡ is_ready bs) × (count ≡ length (shown bs)) × (take count lines ≡ map kept_of (shown bs))

pub bad-answers : (bs : List ℕ) → None ≡ ready_of bs → (lines : List Kept.Line) → Answers bs false 0 lines
bad-answers bs e lines =
    let h : is_ready bs ≡ false = sym (ready_good bs) ∙ ap is_some (sym e) in
    let n : shown bs ≡ [] = bad-shown bs h in
    (sym h, sym (ap length n), sym (ap (map kept_of) n))

module _ (bs : List ℕ) (r : Ready) (e : Some r ≡ ready_of bs) where
  good-shown : lines_from 0 r.table (orders r.count bs r.at) ≡ shown bs
  unfolding shown lines_of plan_of good_plan
  good-shown =
      let c : r.count ≡ field 4 bs (commands_at bs) = ap (λ (x : Ready). x.count) (ready_is bs r e) in
      let a : r.at ≡ commands_at bs + 4 = ap (λ (x : Ready). x.at) (ready_is bs r e) in
      rw (ready_test bs r e, ready_set bs r e, c, a) refl

  pub good-fits : r.count ≤ 8192
  good-fits = omega (arith, items_count bs r.count r.at, ready_room bs r e, ready_length bs r e)

  pub good-answers : (lines : List Kept.Line) → take r.count lines ≡ map kept_of (lines_from 0 r.table (orders r.count bs r.at)) → Answers bs true r.count lines
  good-answers lines a = (sym (ready_test bs r e), sym (lines-count r.count bs r.at 0 r.table) ∙ ap length good-shown, a ∙ ap (map kept_of) good-shown)
