-- Checks by name, one after another: a check or a stage that fires decides, one that passes leaves the reason to what comes after it.
use Rattle.std.specs.Prelude.{Option, is_some, Result, Err}
use Prim.Native.Nat.{ℕ}
use mathlib.Core.Path.{◌≡◌, refl, sym, ap, subst, ◌∙◌}
use mathlib.Core.Bool.{Bool, true, false, not}
use mathlib.Core.List.{List, [], ◌∷◌, ◌++◌}
use native.Mathlib.Omega.{arith}
use lib.Dec.{eqb}
use borrow.Author.Tests.{eqb-true, eqb-false, ne_eqb}
use Rattle.lists.specs.Tests.{contrary}
use Rattle.lists.specs.Each.{Each}
use Rattle.lists.specs.Checks.{Check, when, first, first-fires, first_passes, first-append, first-stays, first_goes, first-each, Refusals}
use Rattle.rules_table.specs.declared.Object.{Object}
use Rattle.rules_table.specs.declared.Mapping.{Mapping}
use Rattle.rules_calls.specs.Landing.{fixed_checks, automatic_checks, place_checks}
use Rattle.rules_calls.specs.Edits.{is_none}
use Rattle.rules_reasons.specs.declared.Reason.{Reason}
use Rattle.rules_reasons.specs.declared.Reason.TheVariants.{Accepted}
use Rattle.rules_reasons.specs.Reasons.{named, place_names}
use Rattle.rules_reasons.specs.Explain.{reason_code}
use Rattle.reason_words.specs.Words.{Short, code_accepted, code_refuses}
use Rattle.cmd_explain.specs.Numbered.{told_or}

-- a check that fired stops the list: it is the outcome whatever comes after it. b is what the code found of it
pub stop : (b c : Bool) (n r : Reason) (cs : List (Check Reason)) → b ≡ c → ((rest : Reason) → r ≡ first (when b n ∷ []) rest) → (rest : Reason) → r ≡ first (when c n ∷ cs) rest
stop b c n r cs e h rest = h (first cs rest) ∙ ap (λ (x : Bool). first (when x n ∷ []) (first cs rest)) e ∙ sym (first-append (when c n ∷ []) cs rest)

-- one that passed leaves the outcome to them
pub pass : (b c : Bool) (n : Reason) (cs : List (Check Reason)) → b ≡ c → ((rest : Reason) → rest ≡ first (when b n ∷ []) rest) → (rest : Reason) → first cs rest ≡ first (when c n ∷ cs) rest
pass b c n cs e h rest = h (first cs rest) ∙ ap (λ (x : Bool). first (when x n ∷ []) (first cs rest)) e ∙ sym (first-append (when c n ∷ []) cs rest)

pub last : {A : Type 0} (b c : Bool) (n : Reason) (x : Result A Reason) → b ≡ c → ((rest : Reason) → told_or x rest ≡ first (when b n ∷ []) rest) → (rest : Reason) → told_or x rest ≡ first (when c n ∷ []) rest
last b c n x e h rest = h rest ∙ ap (λ (y : Bool). first (when y n ∷ []) rest) e

-- a check that stopped, by its name
pub after : {A : Type 0} {x : Result A Reason} {r : Reason} → x ≡ Err r → (rest : Reason) → told_or x rest ≡ r
after e rest = ap (λ y. told_or y rest) e

-- the same of a list, with another behind it
pub stops : (cs ds : List (Check Reason)) (r : Reason) → ((rest : Reason) → r ≡ first cs rest) → r ≡ first (cs ++ ds) Accepted
stops cs ds r h = h (first ds Accepted) ∙ sym (first-append cs ds Accepted)

pub goes : (cs ds : List (Check Reason)) → ((rest : Reason) → rest ≡ first cs rest) → first (cs ++ ds) Accepted ≡ first ds Accepted
goes cs ds h = first-append cs ds Accepted ∙ sym (h (first ds Accepted))

-- what std says of `is_none`, as an equation
pub none-is : {A : Type 0} (o : Option A) (b : Bool) → is_some o ≡ not b → b ≡ is_none o
none-is o true e = sym (ap (λ (x : Bool). not x) e)
none-is o false e = sym (ap (λ (x : Bool). not x) e)

-- an alignment of 0 is that of no space
pub no-space : (a : ℕ) (b : Bool) → not (eqb a 0) ≡ b → a ≡ 0 → b ≡ false
no-space a b e z = sym e ∙ rw z

pub is-space : (a : ℕ) (b : Bool) → not (eqb a 0) ≡ b → (a ≡ 0 → ⊥) → b ≡ true
is-space a b e h = sym e ∙ rw (ne_eqb a 0 h)

-- ---- a reason that is accepted, or not, as the code asks

pub is-accepted : (r : Reason) (b : Bool) → b ≡ eqb (reason_code r) 0 → not b ≡ false → r ≡ Accepted
is-accepted r true e f = code_accepted r (eqb-true (reason_code r) 0 (sym e))
is-accepted r false e f = contrary true refl f

pub is-refused : (r : Reason) (b : Bool) → b ≡ eqb (reason_code r) 0 → not b ≡ true → r ≡ Accepted → ⊥
is-refused r false e f = code_refuses r (eqb-false (reason_code r) 0 (sym e))
is-refused r true e f = contrary false f refl

-- ---- stages

module _ (why : Reason) where
  -- a stage decides
  pub stage_refused : (cs ds : List (Check Reason)) (r : Reason) → why ≡ first (cs ++ ds) Accepted → r ≡ first cs Accepted → (r ≡ Accepted → ⊥) → r ≡ why
  stage_refused cs ds r w e h = first-stays cs Accepted r (first ds Accepted) e h ∙ sym (first-append cs ds Accepted) ∙ sym w

  -- or passes
  pub stage_passed : (cs ds : List (Check Reason)) (r : Reason) → why ≡ first (cs ++ ds) Accepted → Refusals cs Accepted → r ≡ first cs Accepted → r ≡ Accepted → why ≡ first ds Accepted
  stage_passed cs ds r w h e z = w ∙ first-append cs ds Accepted ∙ sym (first_goes cs Accepted (first ds Accepted) h (sym z ∙ e))

  -- a single check
  pub check-fires : (b : Bool) (n : Reason) (cs : List (Check Reason)) → why ≡ first (when b n ∷ cs) Accepted → b ≡ true → n ≡ why
  check-fires b n cs w e = sym (w ∙ first-fires (when b n) cs Accepted e)

  pub check-passes : (b : Bool) (n : Reason) (cs : List (Check Reason)) → why ≡ first (when b n ∷ cs) Accepted → b ≡ false → why ≡ first cs Accepted
  check-passes b n cs w e = w ∙ first_passes (when b n) cs Accepted e

-- each name is short: so is the reason
pub short-first : (cs : List (Check Reason)) (r : Reason) → r ≡ first cs Accepted → Each (λ (c : Check Reason). Short c.answer) cs → Short r
short-first cs r e h = subst (λ (q : Reason). Short q) (sym e) (first-each (λ (q : Reason). Short q) cs Accepted h (omega arith))

-- the checks of a place, with those after them
pub places-append : (os : List Object) (ms : List Mapping) (s : ℕ) (f : Bool) (n x : ℕ) (cs : List (Check ℕ)) (ns : List Reason)
    → named (place_checks os ms s f n x ++ cs) (place_names os ms s f n x ++ ns) ≡ named (place_checks os ms s f n x) (place_names os ms s f n x) ++ named cs ns
unfolding named place_checks place_names fixed_checks automatic_checks
places-append os ms s true n x cs ns = refl
places-append os ms s false n x cs ns = refl

-- none of their names is that of no reason
pub places-refuse : (os : List Object) (ms : List Mapping) (s : ℕ) (f : Bool) (n x : ℕ) → Refusals (named (place_checks os ms s f n x) (place_names os ms s f n x)) Accepted
unfolding named place_checks place_names fixed_checks automatic_checks
places-refuse os ms s true n x = (code_refuses _ (λ z. omega (arith, z)), (code_refuses _ (λ z. omega (arith, z)), (code_refuses _ (λ z. omega (arith, z)), tt)))
places-refuse os ms s false n x = (code_refuses _ (λ z. omega (arith, z)), (code_refuses _ (λ z. omega (arith, z)), tt))
