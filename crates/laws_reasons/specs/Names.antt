-- Each check of the opening, of MAP and of COPY has one name, and the name's number is the check's. A check that gets no name leaves an empty type to prove.
use Prim.Native.Nat.{ℕ, zero, suc}
use Rattle.std.specs.Prelude.{◌≡◌, Bool, true, false, Option}
use Rattle.std.proofs.Math.Path.{refl, sym, ap}
use Rattle.std.proofs.Common.{◌∙◌}
use mathlib.Core.List.{List, [], ◌∷◌, ◌++◌}
use Rattle.lists.specs.Tests.{by-test}
use Rattle.lists.specs.Each.{Each}
use Rattle.lists.specs.Checks.{Check, when, first, first-fires, first_passes}
use Rattle.ranges.specs.Pages.{pages_touched}
use Rattle.rules_table.specs.Flags.{fixed}
use Rattle.rules_table.specs.declared.Object.{Object}
use Rattle.rules_table.specs.declared.Mapping.{Mapping}
use Rattle.rules_table.specs.Charge.{charge, free_mapping}
use Rattle.rules_calls.specs.declared.Edit.{Edit}
use Rattle.rules_calls.specs.Edits.{settle}
use Rattle.rules_calls.specs.Opening.{opening_errno, size_checks, open_checks}
use Rattle.rules_calls.specs.Landing.{fixed_checks, automatic_checks, place_checks}
use Rattle.rules_calls.specs.Map.{MapFields, map_number_checks, room_checks, map_checks}
use Rattle.rules_calls.specs.Copy.{CopyFields, copy_number_checks, source_of, source_checks, record_checks, copy_checks}
use Rattle.rules_reasons.specs.Reasons.{reason_errno, named, open_names, map_number_names, copy_number_names, source_names, place_names, room_names, record_names, map_names, copy_names}

module _ {A R : Type 0} (answered : A → ℕ) (number : R → ℕ) where
  -- one name each, with its number: that of the check's answer
  abbrev pub Numbered : List (Check A) → List R → Type 0
  Numbered [] [] = Unit {0}
  Numbered [] (r ∷ rs) = ⊥
  Numbered (c ∷ cs) [] = ⊥
  Numbered (c ∷ cs) (r ∷ rs) = (answered c.answer ≡ number r) × Numbered cs rs

  -- lists that are put together
  pub numbered-append : (cs ds : List (Check A)) (rs qs : List R) → Numbered cs rs → Numbered ds qs → Numbered (cs ++ ds) (rs ++ qs)
  numbered-append [] ds [] qs h k = k
  numbered-append [] ds (r ∷ rs) qs h k = absurd h
  numbered-append (c ∷ cs) ds [] qs h k = absurd h
  numbered-append (c ∷ cs) ds (r ∷ rs) qs h k = (h.0, numbered-append cs ds rs qs h.1 k)

  -- THE LAW: the name of the first check that fires has the number that the checks answer
  pub first-named : (a : A) (ok : R) (cs : List (Check A)) (rs : List R) → answered a ≡ number ok → Numbered cs rs → number (first (named cs rs) ok) ≡ answered (first cs a)
  unfolding first named
  first-named a ok [] [] e h = sym e
  first-named a ok [] (r ∷ rs) e h = absurd h
  first-named a ok (c ∷ cs) [] e h = absurd h
  first-named a ok (c ∷ cs) (r ∷ rs) e h =
      by-test c.fires
      (λ t. ap number (first-fires (when c.fires r) (named cs rs) ok t) ∙ sym h.0 ∙ sym (ap answered (first-fires c cs a t)))
      (λ t. ap number (first_passes (when c.fires r) (named cs rs) ok t) ∙ first-named a ok cs rs e h.1 ∙ sym (ap answered (first_passes c cs a t)))

  -- and so where an edit comes behind the checks, and a name of its own behind their names
  pub settle-named : (a : A) (r : R) (e : Edit) (cs : List (Check A)) (rs : List R) → answered a ≡ 0 → number r ≡ e.errno → Numbered cs rs → Each (λ q. number q ≡ 0 → ⊥) rs
      → number (first (named cs rs) r) ≡ (settle (answered (first cs a)) e).errno
  unfolding first named
  settle-named a r e [] [] z k h n = k ∙ sym (ap (λ (x : ℕ). (settle x e).errno) z)
  settle-named a r e [] (q ∷ qs) z k h n = absurd h
  settle-named a r e (c ∷ cs) [] z k h n = absurd h
  settle-named a r e (c ∷ cs) (q ∷ qs) z k h n =
      by-test c.fires
      (λ t. ap number (first-fires (when c.fires q) (named cs qs) r t) ∙ sym (refused (number q) n.0) ∙ sym (ap (λ (x : ℕ). (settle x e).errno) (ap answered (first-fires c cs a t) ∙ h.0)))
      (λ t. ap number (first_passes (when c.fires q) (named cs qs) r t) ∙ settle-named a r e cs qs z k h.1 n.1 ∙ sym (ap (λ (x : A). (settle (answered x) e).errno) (first_passes c cs a t)))
    where
      refused : (m : ℕ) → (m ≡ 0 → ⊥) → (settle m e).errno ≡ m
      refused zero f = absurd (f refl)
      refused (suc m) f = refl

-- checks that answer by their number
abbrev pub itself : ℕ → ℕ
itself n = n

-- ---- the lists, one by one

pub open_numbered : (known : ℕ) (bytes : List ℕ) → Numbered opening_errno reason_errno (open_checks known bytes) open_names
unfolding open_checks size_checks
open_numbered known bytes = (refl, (refl, (refl, (refl, tt))))

map_numbers : (os : List Object) (c : MapFields) → Numbered itself reason_errno (map_number_checks os c) map_number_names
unfolding map_number_checks
map_numbers os c = (refl, (refl, (refl, (refl, (refl, (refl, tt))))))

copy_numbers : (os : List Object) (c : CopyFields) → Numbered itself reason_errno (copy_number_checks os c) copy_number_names
unfolding copy_number_checks
copy_numbers os c = (refl, (refl, (refl, (refl, (refl, (refl, (refl, tt)))))))

source-numbers : (flags : ℕ) (o : Option Mapping) → Numbered itself reason_errno (source_checks flags o) source_names
unfolding source_checks
source-numbers flags o = (refl, (refl, tt))

place-numbers : (os : List Object) (ms : List Mapping) (s : ℕ) (fixed : Bool) (n x : ℕ) → Numbered itself reason_errno (place_checks os ms s fixed n x) (place_names os ms s fixed n x)
unfolding place_checks place_names fixed_checks automatic_checks
place-numbers os ms s true n x = (refl, (refl, (refl, tt)))
place-numbers os ms s false n x = (refl, (refl, tt))

room-numbers : (free : Option ℕ) (limit charged pages : ℕ) → Numbered itself reason_errno (room_checks free limit charged pages) room_names
unfolding room_checks
room-numbers free limit charged pages = (refl, (refl, tt))

record_numbers : (free : Option ℕ) → Numbered itself reason_errno (record_checks free) record_names
unfolding record_checks
record_numbers free = (refl, tt)

-- ---- MAP and COPY

pub map_numbered : (limit : ℕ) (os : List Object) (ms : List Mapping) (c : MapFields) → Numbered itself reason_errno (map_checks limit os ms c) (map_names os ms c)
unfolding map_checks map_names
map_numbered limit os ms c =
    numbered-append itself reason_errno (map_number_checks os c) _ map_number_names _ (map_numbers os c)
    (numbered-append itself reason_errno (place_checks os ms c.space (fixed c.flags) c.length c.address) _ (place_names os ms c.space (fixed c.flags) c.length c.address) _
    (place-numbers os ms c.space (fixed c.flags) c.length c.address)
    (room-numbers (free_mapping ms) limit (charge ms) (pages_touched c.memory c.length)))

pub copy_numbered : (os : List Object) (ms : List Mapping) (c : CopyFields) → Numbered itself reason_errno (copy_checks os ms c) (copy_names os ms c)
unfolding copy_checks copy_names
copy_numbered os ms c =
    numbered-append itself reason_errno (copy_number_checks os c) _ copy_number_names _ (copy_numbers os c)
    (numbered-append itself reason_errno (source_checks c.flags (source_of ms c.source c.origin c.length)) _ source_names _ (source-numbers c.flags (source_of ms c.source c.origin c.length))
    (numbered-append itself reason_errno (place_checks os ms c.target (fixed c.flags) c.length c.address) _ (place_names os ms c.target (fixed c.flags) c.length c.address) _
    (place-numbers os ms c.target (fixed c.flags) c.length c.address)
    (record_numbers (free_mapping ms))))
