-- Checks one by one, and an edit after them: a refusal where one fired, else what the call changes.
use Rattle.std.specs.Prelude.{ℕ, zero, suc, ◌≤◌, ◌≡◌, refl, Bool, true, false, List, [], ◌∷◌, ◌++◌, Option, None, Some, Result, Ok, Err}
use Rattle.std.proofs.Common.{sym, ap, ◌∙◌, arith}
use Rattle.lists.specs.Tests.{by-test, contrary}
use Rattle.lists.specs.Checks.{Check, when, first, first-append, first-fires, first_passes}
use Rattle.checks.specs.declared.Errno.{Errno}
use Rattle.checks.specs.Refused.{number_of, refused, number-some}
use Rattle.rules_table.specs.declared.Object.{Object}
use Rattle.rules_table.specs.Records.{is_space, object_at}
use Rattle.rules_calls.specs.declared.Edit.{Edit}
use Rattle.rules_calls.specs.Edits.{refuse, settle, no_record, added}

-- a check by itself, and the checks after it, are one list of checks. b is what the code found of it
pub checked : (b c : Bool) (n r rest ok : ℕ) (cs : List (Check ℕ)) → r ≡ first (when b n ∷ []) rest → b ≡ c → rest ≡ first cs ok → r ≡ first (when c n ∷ cs) ok
checked b c n r rest ok cs e f g =
    e ∙ ap (λ (x : ℕ). first (when b n ∷ []) x) g ∙ ap (λ (x : Bool). first (when x n ∷ []) (first cs ok)) f ∙ sym (first-append (when c n ∷ []) cs ok)

pub checked-last : (b c : Bool) (n r ok : ℕ) → r ≡ first (when b n ∷ []) ok → b ≡ c → r ≡ first (when c n ∷ []) ok
checked-last b c n r ok e f = e ∙ ap (λ (x : Bool). first (when x n ∷ []) ok) f

-- ---- the edit

-- what was decided: the edit, or the refusal by its number
abbrev pub decided : Result Edit Errno → Edit
decided (Ok e) = e
decided (Err n) = refuse (number_of n)

pub settle-refused : (n m : ℕ) (r e : Edit) → n ≡ m → (n ≡ 0 → ⊥) → r ≡ refuse n → r ≡ settle m e
settle-refused n zero r e s h k = absurd (h s)
settle-refused n (suc m) r e s h k = k ∙ ap refuse s

pub settle-taken : (n m : ℕ) (r e : Edit) → n ≡ m → n ≡ 0 → r ≡ e → r ≡ settle m e
settle-taken n zero r e s h k = k
settle-taken n (suc m) r e s h k = absurd (omega arith)

-- a function that ends early by ? tells the refusal of the checks; one that goes on, its edit
pub refused-err : {A : Type 0} (r : Result A Errno) (e : Errno) → r ≡ Err e → refused r ≡ 0 → ⊥
refused-err r e p z = number-some e (sym (ap refused p) ∙ z)

pub refused-ok : {A : Type 0} (r : Result A Errno) (a : A) → r ≡ Ok a → refused r ≡ 0
refused-ok r a p = ap refused p

pub settle-err : {A : Type 0} (r : Result A Errno) (e : Errno) (m : ℕ) (d : Result Edit Errno) (x : Edit) → r ≡ Err e → d ≡ Err e → refused r ≡ m → decided d ≡ settle m x
settle-err {A} r e m d x p q s = settle-refused (refused r) m (decided d) x s (refused-err r e p) (ap decided q ∙ sym (ap (λ (r : Result A Errno). refuse (refused r)) p))

pub settle-ok : {A : Type 0} (r : Result A Errno) (a : A) (m : ℕ) (d x : Edit) → r ≡ Ok a → refused r ≡ m → d ≡ x → d ≡ settle m x
settle-ok r a m d x p s = settle-taken (refused r) m d x s (refused-ok r a p)

-- ---- "no record: 12" at the end of a list: what `added` refuses by itself

full : (cs : List (Check ℕ)) → settle (first cs 12) (refuse 12) ≡ settle (first cs 0) (refuse 12)
unfolding first
full [] = refl
full (c ∷ cs) =
    by-test c.fires
    (λ e. ap (λ (x : ℕ). settle x (refuse 12)) (first-fires c cs 12 e ∙ sym (first-fires c cs 0 e)))
    (λ e. ap (λ (x : ℕ). settle x (refuse 12)) (first_passes c cs 12 e) ∙ full cs ∙ sym (ap (λ (x : ℕ). settle x (refuse 12)) (first_passes c cs 0 e)))

pub settle-record : (cs : List (Check ℕ)) (f : Option ℕ) (n : Object) → settle (first cs 0) (added f n) ≡ settle (first (cs ++ no_record f ∷ []) 0) (added f n)
unfolding first
settle-record cs None n = sym (ap (λ (x : ℕ). settle x (refuse 12)) (first-append cs (no_record None ∷ []) 0) ∙ full cs)
settle-record cs (Some i) n = sym (ap (λ (x : ℕ). settle x (added (Some i) n)) (first-append cs (no_record (Some i) ∷ []) 0))

-- a space has an id from 1 on
pub space-id : (os : List Object) (id : ℕ) → is_space (object_at os id).kind ≡ true → 1 ≤ id
unfolding object_at
space-id os zero e = contrary false e refl
space-id os (suc i) e = omega arith
