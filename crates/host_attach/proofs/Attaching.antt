-- What each return gives, in the words of the definitions of attach.
use Prim.Native.Nat.{ℕ, ◌-◌, ◌<◌, max}
use mathlib.Core.Path.{◌≡◌, sym, ap, ◌∙◌}
use mathlib.Core.Bool.{Bool, ◌||◌}
use mathlib.Core.List.{List, [], ◌∷◌}
use Rattle.lists.specs.Search.{any}
use Rattle.lists.specs.Checks.{Check, when, first, first-append, first-stays, first_goes}
use Rattle.ranges.specs.declared.Range.{Range}
use Rattle.alignment.specs.Pages.{smallest_page}
use Rattle.rangelists.specs.Listed.{allowed}
use Rattle.rules_table.specs.declared.Object.{Object}
use Rattle.rules_table.specs.declared.Mapping.{Mapping}
use Rattle.rules_table.specs.Records.{object_at}
use Rattle.rules_table.specs.Spaces.{alignment}
use Rattle.rules_table.specs.Good.{lists_touch}
use Rattle.rules_calls.specs.declared.Edit.{Edit}
use Rattle.rules_calls.specs.declared.Change.TheVariants.{Put}
use Rattle.rules_calls.specs.Edits.{accept, refuse}
use Rattle.edits.specs.Settled.{settle-refused, settle-taken}
use Rattle.rules_calls.specs.Attach.{blocked_by, misfits, alignment_with, attached_object, attach_checks, attach_edit}
use Rattle.check_reserved.specs.Clear.{strikes}
use Rattle.host_attach.specs.Attached.{attach_kinds, attach_fits, attach_parts, kinds-refuse, kinds-space, struck_blocked}

-- the first check by itself: it fires, or leaves the answer to those after it. b is what the code found of it
pub check-fires : (b c : Bool) (n r : ℕ) (cs : List (Check ℕ)) → r ≡ first (when b n ∷ []) 0 → (r ≡ 0 → ⊥) → b ≡ c → r ≡ first (when c n ∷ cs) 0
check-fires b c n r cs e h f =
    first-stays (when b n ∷ []) 0 r (first cs 0) e h ∙ ap (λ (x : Bool). first (when x n ∷ []) (first cs 0)) f ∙ sym (first-append (when c n ∷ []) cs 0)

pub check-passes : (b c : Bool) (n r : ℕ) (cs : List (Check ℕ)) → (n ≡ 0 → ⊥) → 0 ≡ first (when b n ∷ []) 0 → b ≡ c → r ≡ first cs 0 → r ≡ first (when c n ∷ cs) 0
check-passes b c n r cs h e f k =
    k ∙ first_goes (when b n ∷ []) 0 (first cs 0) (h, tt) e ∙ ap (λ (x : Bool). first (when x n ∷ []) (first cs 0)) f ∙ sym (first-append (when c n ∷ []) cs 0)

-- the checks of attach, by what is known of the space: h is its object and a its alignment
module _ (os : List Object) (s a : ℕ) (h : Object) (eh : h ≡ object_at os s) (ea : a ≡ alignment os s) where
  pub attach_blocked : (b m l : Bool) (rs : List Range) (ms : List Mapping) → 0 < s → m ≡ any (λ r. any (strikes s r) ms) rs → l ≡ lists_touch rs (allowed h.allow) → b ≡ (m || l)
      → b ≡ (any (blocked_by s rs) ms || lists_touch rs (allowed (object_at os s).allow))
  attach_blocked b m l rs ms h em el eb = eb ∙ rw (em, el, eh, ← struck_blocked s h rs ms)

  pub attach_misfit : (b : Bool) (p n : ℕ) (o : Object) (ms : List Mapping) → p ≡ smallest_page o.bitmap → n ≡ max p a → b ≡ any (misfits s n) ms
      → b ≡ any (misfits s (alignment_with os s o)) ms
  unfolding alignment_with
  attach_misfit b p n o ms ep en eb = eb ∙ rw (en, ep, ea)

-- a refusal by the checks, or the device with its attachment changed
module _ (os : List Object) (d : ℕ) (o : Object) (e : o ≡ object_at os d) where
  module _ (ms : List Mapping) (s : ℕ) (h : Object) (eh : h ≡ object_at os s) (n : ℕ) (en : n ≡ first (attach_kinds o h) 0) where
    kinds : n ≡ first (attach_kinds o (object_at os s)) 0
    kinds = en ∙ ap (λ (x : Object). first (attach_kinds o x) 0) eh

    pub attach_space : n ≡ 0 → 0 < s
    attach_space z = kinds-space os o s n kinds z

    -- the objects refuse
    pub attach_wrong : (r : Edit) → (n ≡ 0 → ⊥) → r ≡ refuse n → r ≡ attach_edit os ms d s
    unfolding attach_edit
    attach_wrong r z q =
        settle-refused n _ r _
        (first-stays (attach_kinds o (object_at os s)) 0 n (first (attach_fits os ms o s) 0) kinds z ∙ sym (attach_parts os ms o s) ∙ ap (λ (x : Object). first (attach_checks os ms x s) 0) e) z q

    module _ (zn : n ≡ 0) (k : ℕ) (ek : k ≡ first (attach_fits os ms o s) 0) where
      fits-are : k ≡ first (attach_checks os ms (object_at os d) s) 0
      fits-are =
          first_goes (attach_kinds o (object_at os s)) 0 k (kinds-refuse o (object_at os s)) (sym zn ∙ kinds)
          ∙ ap (λ (x : ℕ). first (attach_kinds o (object_at os s)) x) ek
          ∙ sym (attach_parts os ms o s)
          ∙ ap (λ (x : Object). first (attach_checks os ms x s) 0) e

      -- what stands in the space refuses
      pub attach_unfit : (r : Edit) → (k ≡ 0 → ⊥) → r ≡ refuse k → r ≡ attach_edit os ms d s
      unfolding attach_edit
      attach_unfit r z q = settle-refused k _ r _ fits-are z q

      pub attach_taken : (i : ℕ) (o' : Object) (r : Edit) → k ≡ 0 → i ≡ d - 1 → o' ≡ attached_object o s → r ≡ accept 0 (Put i) o' → r ≡ attach_edit os ms d s
      unfolding attach_edit
      attach_taken i o' r z x p q = settle-taken k _ r _ fits-are z (q ∙ rw (p, x, e))
