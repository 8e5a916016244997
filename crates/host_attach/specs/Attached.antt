-- Attach's checks in two parts: what the objects are, then what stands in the space.
use Rattle.std.specs.Prelude.{ℕ, zero, suc, ◌<◌, ◌≡◌, refl, Bool, true, not, ◌&&◌, ◌||◌}
use Rattle.std.proofs.Common.{sym, ◌∙◌, arith}
use Rattle.std.proofs.Math.Path.{ap}
use Rattle.std.proofs.Math.Bool.{false}
use mathlib.Core.List.{List, [], ◌∷◌}
use Rattle.std.proofs.Math.Dec.{eqb}
use borrow.Author.Tests.{eqb-true, ne_eqb}
use Rattle.lists.specs.Tests.{by-test, contrary}
use Rattle.lists.specs.Search.{any, any-or, any-cong}
use Rattle.lists.specs.Checks.{Check, when, first, first-append, passed, Refusals}
use Rattle.ranges.specs.declared.Range.{Range}
use Rattle.ranges.specs.Ranges.{share, share-comm}
use Rattle.rangelists.specs.Listed.{reserved, allowed}
use Rattle.rules_table.specs.declared.Object.{Object}
use Rattle.rules_table.specs.declared.Mapping.{Mapping}
use Rattle.rules_table.specs.Records.{object_at, space_at, is_space, is_device, is_attached, used, of_space, extent, touches}
use Rattle.rules_table.specs.Good.{lists_touch}
use Rattle.rules_calls.specs.Attach.{blocked_by, misfits, alignment_with, attach_checks}
use Rattle.check_reserved.specs.Clear.{strikes}

-- o is the object to attach, h the object of the space's id
unfoldable pub attach_kinds : Object → Object → List (Check ℕ)
attach_kinds o h = when (not (is_device o.kind)) 2 ∷ when (not (is_space h.kind)) 2 ∷ when (is_attached o.kind) 16 ∷ []

unfoldable pub attach_fits : List Object → List Mapping → Object → ℕ → List (Check ℕ)
attach_fits os ms o s =
    when (any (blocked_by s (reserved o.reserved)) ms || lists_touch (reserved o.reserved) (allowed (object_at os s).allow)) 98
    ∷ when (any (misfits s (alignment_with os s o)) ms) 98
    ∷ []

pub attach_parts : (os : List Object) (ms : List Mapping) (o : Object) (s : ℕ) → first (attach_checks os ms o s) 0 ≡ first (attach_kinds o (object_at os s)) (first (attach_fits os ms o s) 0)
unfolding attach_checks attach_kinds attach_fits space_at
attach_parts os ms o s = first-append (attach_kinds o (object_at os s)) (attach_fits os ms o s) 0

pub kinds-refuse : (o h : Object) → Refusals (attach_kinds o h) 0
unfolding attach_kinds
kinds-refuse o h = (λ y. omega (arith, y), (λ y. omega (arith, y), (λ y. omega (arith, y), tt)))

-- where they pass, the id is that of a space
pub kinds-space : (os : List Object) (o : Object) (s n : ℕ) → n ≡ first (attach_kinds o (object_at os s)) 0 → n ≡ 0 → 0 < s
unfolding attach_kinds object_at
kinds-space os o zero n e z = let p = passed (attach_kinds o (object_at os zero)) 0 (when false 0) (kinds-refuse o (object_at os zero)) (sym e ∙ z) 1 (omega arith) in contrary true refl p
kinds-space os o (suc i) n e z = omega arith

and_false : (b : Bool) → (b && false) ≡ false
and_false true = refl
and_false false = refl

and_or : (a b c : Bool) → (a && (b || c)) ≡ ((a && b) || (a && c))
and_or true b c = refl
and_or false b c = refl

none_any : {A : Type 0} (p : A → Bool) (xs : List A) → ((x : A) → p x ≡ false) → any p xs ≡ false
unfolding any
none_any p [] h = refl
none_any p (x ∷ xs) h = rw (h x, none_any p xs h)

-- some mapping against some range, from either side
module _ (s : ℕ) (h : 0 < s) where
  strikes-one : (r : Range) (m : Mapping) → (of_space s m && share (extent m) r) ≡ strikes s r m
  unfolding strikes touches of_space used
  strikes-one r m =
      by-test (eqb m.space s)
      (λ e. let n : eqb m.space 0 ≡ false = ne_eqb m.space 0 (λ z. omega (arith, z, h, eqb-true m.space s e)) in rw (e, n) (share-comm (extent m) r))
      (λ e. rw e (sym (and_false (not (eqb m.space 0)))))

  blocked_none : (m : Mapping) → blocked_by s [] m ≡ false
  unfolding blocked_by any
  blocked_none m = and_false (of_space s m)

  blocked_cons : (r : Range) (rs : List Range) (m : Mapping) → blocked_by s (r ∷ rs) m ≡ (strikes s r m || blocked_by s rs m)
  unfolding blocked_by any
  blocked_cons r rs m = and_or (of_space s m) (share (extent m) r) (any (share (extent m)) rs) ∙ ap (λ (b : Bool). b || (of_space s m && any (share (extent m)) rs)) (strikes-one r m)

  pub struck_blocked : (rs : List Range) (ms : List Mapping) → any (blocked_by s rs) ms ≡ any (λ r. any (strikes s r) ms) rs
  unfolding any
  struck_blocked [] ms = none_any (blocked_by s []) ms blocked_none
  struck_blocked (r ∷ rs) ms = any-cong (blocked_by s (r ∷ rs)) (λ m. strikes s r m || blocked_by s rs m) ms (blocked_cons r rs) ∙ any-or (strikes s r) (blocked_by s rs) ms ∙ ap (λ (b : Bool). any (strikes s r) ms || b) (struck_blocked rs ms)
