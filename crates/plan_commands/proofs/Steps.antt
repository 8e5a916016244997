-- A command of a plan: the copies are the plan's bytes, and what the door leaves is what was run.
use Prim.Native.Nat.{ℕ, ◌+◌, ◌-◌}
use lib.IntN.{ℤ}
use mir.Syntax.{w32}
use mir.Val.{to_z, of_z}
use mathlib.Core.Path.{◌≡◌, refl, ap, ◌∙◌}
use mathlib.Core.List.{List}
use native.Mathlib.Omega.{arith}
use lib.ListN.{take, drop}
use Rattle.wire.specs.Fields.{field}
use Rattle.rules_table.specs.declared.Table.{Table}
use Rattle.rules_table.specs.Charge.{charge}
use Rattle.rules_calls.specs.declared.Answer.{Answer}
use Rattle.rules_calls.specs.Call.{call_done}
use Rattle.plan_shape.specs.declared.Section.TheVariants.{Commands}
use Rattle.plan_commands.specs.declared.Ran.{Ran}
use Rattle.plan_shape.specs.Plan.{command_end, item_end, part, order_at}
use Rattle.plan_commands.specs.Ran.{answer_to, ran_by, ran_at}
use Rattle.plan_shape.specs.Ends.{part-is}

pub called : (t : Table) (n : ℕ) (bytes ranges cmd area : List ℕ) (a : Answer) → cmd ≡ bytes → area ≡ ranges → a ≡ (call_done t n cmd area).answer → a ≡ (call_done t n bytes ranges).answer
called t n bytes ranges cmd area a e f g = g ∙ rw (e, f) refl

-- the numbers of a command, the answer to it, and the charge after it
ran_cong : (q p g h x y : ℕ) (z w : ℤ) (t u : Table) → q ≡ p → z ≡ w → g ≡ h → x ≡ y → t ≡ u
    → ◌≡◌ {A = Ran} record { line = record { request = q; result = z; charge = g }; next = x; table = t } record { line = record { request = p; result = w; charge = h }; next = y; table = u }
ran_cong q p g h x y z w t u eq ez eg ex et = rw (eq, ez, eg, ex, et)

module _ (t : Table) (bs : List ℕ) (at q n m : ℕ) (a : Answer) (eq : q ≡ field 4 bs at) (en : n ≡ field 4 bs (at + 4)) (em : m ≡ field 4 bs (at + 8)) where
  answer-is : a ≡ (call_done t q (take (at + 12 + n - (at + 12)) (drop (at + 12) bs)) (take (at + 12 + n + m - (at + 12 + n)) (drop (at + 12 + n) bs))).answer → a ≡ answer_to t (order_at bs at)
  unfolding answer_to order_at
  answer-is e =
      let bytes : take (at + 12 + n - (at + 12)) (drop (at + 12) bs) ≡ part (at + 12) (field 4 bs (at + 4)) bs = part-is bs (at + 12) n (at + 12 + n) refl ∙ ap (λ (k : ℕ). part (at + 12) k bs) en in
      let area : take (at + 12 + n + m - (at + 12 + n)) (drop (at + 12 + n) bs) ≡ part (at + 12 + field 4 bs (at + 4)) (field 4 bs (at + 8)) bs
      = part-is bs (at + 12 + n) m (at + 12 + n + m) refl ∙ ap (λ (k : ℕ). part (at + 12 + n) k bs) em ∙ ap (λ (k : ℕ). part (at + 12 + k) (field 4 bs (at + 8)) bs) en in
      e
      ∙ ap (λ (x : List ℕ). (call_done t q x (take (at + 12 + n + m - (at + 12 + n)) (drop (at + 12 + n) bs))).answer) bytes
      ∙ ap (λ (x : List ℕ). (call_done t q (part (at + 12) (field 4 bs (at + 4)) bs) x).answer) area
      ∙ ap (λ (k : ℕ). (call_done t k (part (at + 12) (field 4 bs (at + 4)) bs) (part (at + 12 + field 4 bs (at + 4)) (field 4 bs (at + 8)) bs)).answer) eq

  next-is : at + 12 + n + m ≡ item_end Commands bs at
  unfolding item_end command_end
  next-is = omega (arith, en, em)

  pub ran_is : (g : ℕ) → a ≡ (call_done t q (take (at + 12 + n - (at + 12)) (drop (at + 12) bs)) (take (at + 12 + n + m - (at + 12 + n)) (drop (at + 12 + n) bs))).answer
      → to_z w32 (of_z w32 a.result) ≡ a.result → g ≡ charge a.table.mappings
      → record { line = record { request = q; result = to_z w32 (of_z w32 a.result); charge = g }; next = at + 12 + n + m; table = a.table } ≡ ran_at t bs at
  unfolding ran_at ran_by order_at
  ran_is g e ez eg =
      let f : a ≡ answer_to t (order_at bs at) = answer-is e in
      ran_cong q _ g _ (at + 12 + n + m) _ (to_z w32 (of_z w32 a.result)) _ a.table _ eq (ez ∙ ap (λ (x : Answer). x.result) f) (eg ∙ ap (λ (x : Answer). charge x.table.mappings) f) next-is (ap (λ (x : Answer). x.table) f)
