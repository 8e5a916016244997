-- The loops of the setup, and all of it: one law where a call is refused, one where it goes on.
use Prim.Native.Nat.{ℕ, zero, suc, ◌+◌, ◌-◌, ◌≤◌, ◌<◌, min}
use mathlib.Core.Path.{◌≡◌, refl, sym, ap, ◌∙◌}
use mathlib.Core.List.{List}
use lib.ListN.{length}
use Rattle.std.specs.Prelude.{Result, Ok, Err}
use native.Mathlib.Omega.{arith}
use Rattle.wire.specs.Fields.{field}
use Rattle.rules_table.specs.declared.Table.{Table}
use Rattle.rules_calls.specs.declared.Answer.{Answer}
use Rattle.rules_calls.specs.Answers.{fresh_answer}
use Rattle.plan_shape.specs.declared.Section.{Section}
use Rattle.plan_shape.specs.declared.Section.TheVariants.{Devices, Attachments}
use Rattle.plan_shape.specs.Plan.{item_end, items_end, device_at, pair_at, devices, pairs, attachments_at, plan_of}
use Rattle.plan_shape.specs.Ends.{items_room}
use Rattle.plan_setup.specs.Setting.{setup_by, onward, with_space, with_spaces, with_device, with_devices, with_pair, with_pairs, set_up}

-- ---- the loops: what is left of the work, from the table that is reached, gives what the whole does

pub spaces-turn : (left : ℕ) (t : Table) → 0 < left → with_spaces left t ≡ onward (with_space t) (with_spaces (left - 1))
unfolding with_spaces
spaces-turn zero t h = absurd (omega arith)
spaces-turn (suc n) t h = let e : n ≡ suc n - 1 = omega arith in ap (λ (m : ℕ). onward (with_space t) (with_spaces m)) e

pub spaces-none : (left : ℕ) (t : Table) → left ≤ 0 → with_spaces left t ≡ Ok t
unfolding with_spaces
spaces-none zero t h = refl
spaces-none (suc n) t h = absurd (omega arith)

pub devices-turn : (left : ℕ) (bs : List ℕ) (at : ℕ) (t : Table) → 0 < left → with_devices (devices left bs at) t ≡ onward (with_device (device_at bs at) t) (with_devices (devices (left - 1) bs (item_end Devices bs at)))
unfolding with_devices devices
devices-turn zero bs at t h = absurd (omega arith)
devices-turn (suc n) bs at t h = let e : n ≡ suc n - 1 = omega arith in ap (λ (m : ℕ). onward (with_device (device_at bs at) t) (with_devices (devices m bs (item_end Devices bs at)))) e

pub devices-none : (left : ℕ) (bs : List ℕ) (at : ℕ) (t : Table) → left ≤ 0 → with_devices (devices left bs at) t ≡ Ok t
unfolding with_devices devices
devices-none zero bs at t h = refl
devices-none (suc n) bs at t h = absurd (omega arith)

pub pairs-turn : (left : ℕ) (bs : List ℕ) (at : ℕ) (t : Table) → 0 < left → with_pairs (pairs left bs at) t ≡ onward (with_pair (pair_at bs at) t) (with_pairs (pairs (left - 1) bs (item_end Attachments bs at)))
unfolding with_pairs pairs
pairs-turn zero bs at t h = absurd (omega arith)
pairs-turn (suc n) bs at t h = let e : n ≡ suc n - 1 = omega arith in ap (λ (m : ℕ). onward (with_pair (pair_at bs at) t) (with_pairs (pairs m bs (item_end Attachments bs at)))) e

pub pairs-none : (left : ℕ) (bs : List ℕ) (at : ℕ) (t : Table) → left ≤ 0 → with_pairs (pairs left bs at) t ≡ Ok t
unfolding with_pairs pairs
pairs-none zero bs at t h = refl
pairs-none (suc n) bs at t h = absurd (omega arith)

-- a call of the work that is left, `w`: it ends the work or leads on
module _ {w r : Result Table Table} (c : Result Table Table) (f : Table → Result Table Table) (turn : w ≡ onward c f) (v : w ≡ r) where
  pub turn-stops : (t : Table) → Err t ≡ c → Err t ≡ r
  unfolding onward
  turn-stops t e = ap (λ (x : Result Table Table). onward x f) e ∙ sym turn ∙ v

  pub turn-goes : (t : Table) → Ok t ≡ c → f t ≡ r
  unfolding onward
  turn-goes t e = ap (λ (x : Result Table Table). onward x f) e ∙ sym turn ∙ v

-- the next space, the next device, the next attachment
pub spaces-go : (left m : ℕ) (t u : Table) {r : Result Table Table} → with_spaces left t ≡ r → 0 < left → m ≡ left - 1 → Ok u ≡ with_space t → with_spaces m u ≡ r
spaces-go left m t u v h f e = ap (λ (n : ℕ). with_spaces n u) f ∙ turn-goes (with_space t) (with_spaces (left - 1)) (spaces-turn left t h) v u e

pub devices-go : (left m : ℕ) (bs : List ℕ) (at x : ℕ) (t u : Table) {r : Result Table Table} → with_devices (devices left bs at) t ≡ r → 0 < left → m ≡ left - 1 → Ok u ≡ with_device (device_at bs at) t → x ≡ item_end Devices bs at
    → with_devices (devices m bs x) u ≡ r
devices-go left m bs at x t u v h f e g =
    ap (λ (n : ℕ). with_devices (devices n bs x) u) f
    ∙ ap (λ (y : ℕ). with_devices (devices (left - 1) bs y) u) g
    ∙ turn-goes (with_device (device_at bs at) t) (with_devices (devices (left - 1) bs (item_end Devices bs at))) (devices-turn left bs at t h) v u e

pub pairs-go : (left m : ℕ) (bs : List ℕ) (at x : ℕ) (t u : Table) {r : Result Table Table} → with_pairs (pairs left bs at) t ≡ r → 0 < left → m ≡ left - 1 → Ok u ≡ with_pair (pair_at bs at) t → x ≡ item_end Attachments bs at
    → with_pairs (pairs m bs x) u ≡ r
pairs-go left m bs at x t u v h f e g =
    ap (λ (n : ℕ). with_pairs (pairs n bs x) u) f
    ∙ ap (λ (y : ℕ). with_pairs (pairs (left - 1) bs y) u) g
    ∙ turn-goes (with_pair (pair_at bs at) t) (with_pairs (pairs (left - 1) bs (item_end Attachments bs at))) (pairs-turn left bs at t h) v u e

-- what is left after an item ends by the last byte too
pub items-left : (k : Section) (bs : List ℕ) (left m at : ℕ) → items_end k left bs at ≤ length bs → 0 < left → m ≡ left - 1 → (x : ℕ) → x ≡ min (item_end k bs at) (length bs + 1) → items_end k m bs x ≤ length bs
items-left k bs left m at room some f x e = rw f (items_room k bs left at room some x e)

-- ---- the whole setup: a refusal is handed through, else the next section is done

on_stop : (t : Table) (w : Result Table Table) (f : Table → Result Table Table) → Err t ≡ w → Err t ≡ onward w f
unfolding onward
on_stop t w f e = ap (λ (x : Result Table Table). onward x f) e

on_go : (t : Table) (w y : Result Table Table) (f : Table → Result Table Table) → Ok t ≡ w → y ≡ f t → y ≡ onward w f
unfolding onward
on_go t w y f e g = g ∙ ap (λ (x : Result Table Table). onward x f) e

module _ (bs : List ℕ) (limit : ℕ) (a : Answer) (el : limit ≡ field 8 bs 0) (ea : a ≡ fresh_answer limit) where
  first-call : setup_by a ≡ setup_by (fresh_answer (field 8 bs 0))
  first-call = ap setup_by (ea ∙ ap fresh_answer el)

  pub limit-refused : (r : Table) → Err r ≡ setup_by a → Err r ≡ set_up (plan_of bs)
  unfolding set_up plan_of
  limit-refused r h = on_stop r _ _ (on_stop r _ _ (on_stop r _ _ (h ∙ first-call)))

  module _ (t : Table) (n : ℕ) (h : Ok t ≡ setup_by a) (en : n ≡ field 4 bs 8) where
    second : (s : Result Table Table) → s ≡ with_spaces n t → s ≡ onward (setup_by (fresh_answer (field 8 bs 0))) (with_spaces (field 4 bs 8))
    second s e = on_go t _ s (with_spaces (field 4 bs 8)) (h ∙ first-call) (e ∙ ap (λ (k : ℕ). with_spaces k t) en)

    pub spaces-refused : (r : Table) → Err r ≡ with_spaces n t → Err r ≡ set_up (plan_of bs)
    unfolding set_up plan_of
    spaces-refused r e = on_stop r _ _ (on_stop r _ _ (second (Err r) e))

    module _ (u : Table) (k : ℕ) (e : Ok u ≡ with_spaces n t) (ek : k ≡ field 4 bs 12) where
      third : (d : Result Table Table) → d ≡ with_devices (devices k bs 16) u → d ≡ onward (onward (setup_by (fresh_answer (field 8 bs 0))) (with_spaces (field 4 bs 8))) (with_devices (devices (field 4 bs 12) bs 16))
      third d f = on_go u _ d (with_devices (devices (field 4 bs 12) bs 16)) (second (Ok u) e) (f ∙ ap (λ (m : ℕ). with_devices (devices m bs 16) u) ek)

      pub devices-refused : (r : Table) → Err r ≡ with_devices (devices k bs 16) u → Err r ≡ set_up (plan_of bs)
      unfolding set_up plan_of
      devices-refused r f = on_stop r _ _ (third (Err r) f)

      pub all_done : (v : Table) (x m : ℕ) (p : Result Table Table) → Ok v ≡ with_devices (devices k bs 16) u → x ≡ attachments_at bs → m ≡ field 4 bs x → p ≡ with_pairs (pairs m bs (x + 4)) v → p ≡ set_up (plan_of bs)
      unfolding set_up plan_of
      all_done v x m p f ex em q =
          on_go v _ p (with_pairs (pairs (field 4 bs (attachments_at bs)) bs (attachments_at bs + 4))) (third (Ok v) f)
          (q ∙ ap (λ (y : ℕ). with_pairs (pairs y bs (x + 4)) v) em ∙ ap (λ (y : ℕ). with_pairs (pairs (field 4 bs y) bs (y + 4)) v) ex)
