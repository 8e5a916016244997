-- Reach's answers, for every good table: 0 with an address, -1 and -14 are each given exactly in the case that the plain terms name. A refusal has address 0 beside it.
use Rattle.std.specs.Prelude.{ℕ, zero, suc, ◌+◌, ◌-◌, ◌≡◌, Bool, true, not, eqb, pos, negsuc, Option, None, Some}
use Rattle.std.proofs.Math.Path.{refl}
use Rattle.std.proofs.Common.{sym, ap, ◌∙◌, arith}
use Rattle.std.proofs.Math.Bool.{false}
use mathlib.Core.List.{[], ◌∷◌}
use borrow.Author.Tests.{eqb-false, ne_eqb, not-false, le-ltb}
use Rattle.lists.specs.Tests.{by-test, contrary}
use Rattle.lists.specs.Checks.{when, first, first-nil, first_passes, first-each, passed}
use Rattle.ranges.specs.Ranges.{U64MAX, passes, passes-false, span}
use Rattle.rules_table.specs.declared.Attachment.TheVariants.{Loose, Attached}
use Rattle.rules_table.specs.Flags.{bit}
use Rattle.rules_calls.specs.Results.{signed_result}
use Rattle.opening.specs.Signed.{result-none, result-errno}
use Rattle.rules_table.specs.declared.Kind.{Kind}
use Rattle.rules_table.specs.declared.Kind.TheVariants.{Free, Space, Device}
use Rattle.rules_table.specs.declared.Mapping.{Mapping}
use Rattle.rules_table.specs.declared.Table.{Table}
use Rattle.rules_table.specs.Records.{object_at, is_device, is_attached, home_of, can_write, can_read}
use Rattle.rules_table.specs.Good.{good}
use Rattle.table.specs.Sound.{good-sound}
use Rattle.rules_calls.specs.declared.Edit.{Edit}
use Rattle.rules_calls.specs.Edits.{settle}
use Rattle.rules_calls.specs.Reach.{around, may_do, reach_checks, reach_of}
use Rattle.rules_calls.specs.Orders.{reached_by}
use Rattle.rules_calls.specs.Named.{reach_call}
use Rattle.rules_calls.specs.declared.Reached.{Reached}
use Rattle.rules_calls.specs.Gate.{table_errno}
use Rattle.host_reach.specs.Held.{reach_in, reach_split}
use Rattle.laws_reach.specs.Plain.{right_in, Asked, Reaches, Denied, Nowhere}
use Rattle.laws_reach.specs.Reach.{answers}
use Rattle.laws_reach.proofs.Found.{held_found, found-held, unheld-none, none-unheld}

-- ---- the right

write-bit : (k : ℕ) (m : Mapping) → k ≡ 0 → can_write m ≡ bit k m.rights
unfolding can_write
write-bit k m e = rw e

read-bit : (k : ℕ) (m : Mapping) → k ≡ 1 → can_read m ≡ bit k m.rights
unfolding can_read
read-bit k m e = rw e

-- the right that reach asks is the mapping's own
pub may_is : (write : Bool) (m : Mapping) → may_do write m ≡ right_in write m.rights
may_is true m = write-bit _ m (omega arith)
may_is false m = read-bit _ m (omega arith)

-- ---- the checks

attached-is : (k : Kind) → is_attached k ≡ true → k ≡ Device (Attached (home_of k))
attached-is Free e = contrary false e refl
attached-is Space e = contrary false e refl
attached-is (Device Loose) e = contrary false e refl
attached-is (Device (Attached s)) e = refl

-- no check answers k
abbrev Later : ℕ → Type 0
Later k = (k ≡ 2 → ⊥) × (k ≡ 22 → ⊥) × (k ≡ 75 → ⊥)

-- so where k is answered, they passed
later : (k : ℕ) → Later k → (x : Kind) (a n : ℕ) → first (reach_checks x a n) 0 ≡ k → first (reach_checks x a n) 0 ≡ 0
unfolding reach_checks
later k h x a n =
    first-each (λ (e : ℕ). e ≡ k → e ≡ 0) (reach_checks x a n) 0
    (λ z. absurd (h.0 (sym z)), (λ z. absurd (h.1 (sym z)), (λ z. absurd (h.1 (sym z)), (λ z. absurd (h.2 (sym z)), tt))))
    (λ z. refl)

settled : (c : ℕ) (r : Edit) → (c ≡ (settle c r).errno → c ≡ 0) → c ≡ 0
settled zero r f = refl
settled (suc c) r f = f refl

module _ (t : Table) (d a n : ℕ) where
  asked_of : first (reach_checks (object_at t.objects d).kind a n) 0 ≡ 0 → Asked t d (home_of (object_at t.objects d).kind) a n
  unfolding reach_checks
  asked_of e =
      let k = (object_at t.objects d).kind in
      let ok = passed (reach_checks k a n) 0 (when false 0) (λ z. omega (arith, z), (λ z. omega (arith, z), (λ z. omega (arith, z), (λ z. omega (arith, z), tt)))) e in
      let ne = eqb-false n 0 (ok 2 (omega arith)) in
      record { attached = attached-is k (not-false (is_attached k) (ok 1 (omega arith))); some = omega (arith, ne); ends = omega (arith, ne, passes-false a n (ok 3 (omega arith))) }

  asked_by : (write : Bool) (k : ℕ) → Later k → (reach_of t.objects t.mappings d a n write).errno ≡ k → Asked t d (home_of (object_at t.objects d).kind) a n
  asked_by write k h e =
      let x = (object_at t.objects d).kind in
      let s = ap (λ (r : Edit). r.errno) (reach_split t.objects t.mappings d a n write) in
      asked_of (settled (first (reach_checks x a n) 0) (reach_in a write (around t.mappings (home_of x) (span a n))) (λ z. later k h x a n (z ∙ sym s ∙ e)))

  checks-pass : (s : ℕ) → Asked t d s a n → first (reach_checks (object_at t.objects d).kind a n) 0 ≡ 0
  unfolding reach_checks passes
  checks-pass s q =
      let k = (object_at t.objects d).kind in
      let e = q.attached in
      first_passes (when (not (is_device k)) 2) (when (not (is_attached k)) 22 ∷ when (eqb n 0) 22 ∷ when (passes a n) 75 ∷ []) 0 (rw e)
      ∙ first_passes (when (not (is_attached k)) 22) (when (eqb n 0) 22 ∷ when (passes a n) 75 ∷ []) 0 (rw e)
      ∙ first_passes (when (eqb n 0) 22) (when (passes a n) 75 ∷ []) 0 (ne_eqb n 0 (λ z. omega (arith, z, q.some)))
      ∙ first_passes (when (passes a n) 75) [] 0 (le-ltb U64MAX (a + (n - 1)) (omega (arith, q.ends)))
      ∙ first-nil 0

-- ---- what the mapping found has, by the errno

module _ (a : ℕ) (write : Bool) where
  in_0 : (o : Option Mapping) → (reach_in a write o).errno ≡ 0 → (m : Mapping) × (o ≡ Some m) × (may_do write m ≡ true) × ((reach_in a write o).value ≡ m.memory + (a - m.address))
  in_0 None e = absurd (omega (arith, e))
  in_0 (Some m) e = by-test (may_do write m) (λ t. (m, refl, t, rw t)) (λ t. absurd (omega (arith, rw t at e)))

  in_1 : (o : Option Mapping) → (reach_in a write o).errno ≡ 1 → (m : Mapping) × (o ≡ Some m) × (may_do write m ≡ false)
  in_1 None e = absurd (omega (arith, e))
  in_1 (Some m) e = by-test (may_do write m) (λ t. absurd (omega (arith, rw t at e))) (λ t. (m, refl, t))

  in_14 : (o : Option Mapping) → (reach_in a write o).errno ≡ 14 → o ≡ None
  in_14 None e = refl
  in_14 (Some m) e = by-test (may_do write m) (λ t. absurd (omega (arith, rw t at e))) (λ t. absurd (omega (arith, rw t at e)))

-- ---- the laws

module _ (t : Table) (g : good t ≡ true) (d a n : ℕ) (write : Bool) where
  good-reach : reach_call t d a n write ≡ reached_by (reach_of t.objects t.mappings d a n write)
  unfolding reach_call table_errno
  good-reach = rw g

  -- once the checks passed, reach is what the search found
  reach-in : (s : ℕ) → Asked t d s a n → reach_call t d a n write ≡ reached_by (reach_in a write (around t.mappings s (span a n)))
  reach-in s q = good-reach ∙ ap reached_by (reach_split t.objects t.mappings d a n write) ∙ rw (checks-pass t d a n s q, q.attached) refl

  -- from the case to the answer
  reaches-0 : (y : ℕ) → Reaches t d a n write y → reach_call t d a n write ≡ answers (pos 0) y
  unfolding signed_result
  reaches-0 y r =
      let m = r.mapping in
      let at : m.memory + (a - m.address) ≡ y = omega (arith, r.offset) in
      reach-in r.space r.asked
      ∙ rw (held_found t (good-sound t g) d r.space a n r.asked m r.held, may_is write m, r.right) (ap (answers (pos 0)) at)

  denied-1 : Denied t d a n write → reach_call t d a n write ≡ answers (negsuc 0) 0
  unfolding signed_result
  denied-1 r = reach-in r.space r.asked ∙ rw (held_found t (good-sound t g) d r.space a n r.asked r.mapping r.held, may_is write r.mapping, r.right) refl

  nowhere-14 : Nowhere t d a n → reach_call t d a n write ≡ answers (negsuc 13) 0
  unfolding signed_result
  nowhere-14 r = reach-in r.space r.asked ∙ rw (unheld-none t (good-sound t g) d r.space a n r.asked r.unheld) refl

  -- from the answer to the case, in the space that the device's record names
  abbrev home : ℕ
  home = home_of (object_at t.objects d).kind

  abbrev found : Option Mapping
  found = around t.mappings home (span a n)

  abbrev errno : ℕ
  errno = (reach_of t.objects t.mappings d a n write).errno

  errno-is : (reach_call t d a n write).result ≡ signed_result errno
  errno-is = ap (λ (x : Reached). x.result) good-reach

  errno-in : Asked t d home a n → (reach_call t d a n write).result ≡ signed_result (reach_in a write found).errno
  errno-in q = ap (λ (x : Reached). x.result) (reach-in home q)

  0_reaches : (y : ℕ) → reach_call t d a n write ≡ answers (pos 0) y → Reaches t d a n write y
  0_reaches y e =
      let r : (reach_call t d a n write).result ≡ pos 0 = ap (λ (x : Reached). x.result) e in
      let q = asked_by t d a n write 0 (λ z. omega (arith, z), λ z. omega (arith, z), λ z. omega (arith, z)) (result-none errno (sym errno-is ∙ r)) in
      let w = in_0 a write found (result-none (reach_in a write found).errno (sym (errno-in q) ∙ r)) in
      let m = w.0 in
      let at : y ≡ (reach_in a write found).value = ap (λ (x : Reached). x.address) (sym e ∙ reach-in home q) in
      record { space = home; asked = q; mapping = m; held = found-held t (good-sound t g) d home a n q m w.1; right = sym (may_is write m) ∙ w.2; offset = omega (arith, at, w.3) }

  1_denied : (reach_call t d a n write).result ≡ negsuc 0 → Denied t d a n write
  1_denied r =
      let q = asked_by t d a n write 1 (λ z. omega (arith, z), λ z. omega (arith, z), λ z. omega (arith, z)) (result-errno errno 0 (sym errno-is ∙ r)) in
      let w = in_1 a write found (result-errno (reach_in a write found).errno 0 (sym (errno-in q) ∙ r)) in
      record { space = home; asked = q; mapping = w.0; held = found-held t (good-sound t g) d home a n q w.0 w.1; right = sym (may_is write w.0) ∙ w.2 }

  14_nowhere : (reach_call t d a n write).result ≡ negsuc 13 → Nowhere t d a n
  14_nowhere r =
      let q = asked_by t d a n write 14 (λ z. omega (arith, z), λ z. omega (arith, z), λ z. omega (arith, z)) (result-errno errno 13 (sym errno-is ∙ r)) in
      record { space = home; asked = q; unheld = none-unheld t (good-sound t g) d home a n q (in_14 a write found (result-errno (reach_in a write found).errno 13 (sym (errno-in q) ∙ r))) }

  -- THE LAWS: 0 with y, exactly if the device reaches y
  pub reach-0 : (y : ℕ) → (reach_call t d a n write ≡ answers (pos 0) y → Reaches t d a n write y) × (Reaches t d a n write y → reach_call t d a n write ≡ answers (pos 0) y)
  reach-0 y = (0_reaches y, reaches-0 y)

  -- -1, exactly if it is denied
  pub reach-1 : ((reach_call t d a n write).result ≡ negsuc 0 → Denied t d a n write) × (Denied t d a n write → reach_call t d a n write ≡ answers (negsuc 0) 0)
  reach-1 = (1_denied, denied-1)

  -- -14, exactly if no mapping holds what it asks for
  pub reach-14 : ((reach_call t d a n write).result ≡ negsuc 13 → Nowhere t d a n) × (Nowhere t d a n → reach_call t d a n write ≡ answers (negsuc 13) 0)
  reach-14 = (14_nowhere, nowhere-14)
