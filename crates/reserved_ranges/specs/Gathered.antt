-- What the objects reserve in a space, gathered slot by slot: what stands before a slot, what is left from it on, and how many ranges there can be.
use Rattle.std.specs.Prelude.{ℕ, ◌+◌, ◌*◌, ◌≤◌, ◌<◌, min, ◌≡◌, refl, Bool, true, false, ◌||◌, List, [], ◌∷◌, ◌++◌, length, get_or, take, drop}
use Rattle.std.proofs.Common.{sym, ap, ◌∙◌, append_assoc, append-nil, add-one, arith, length-take, length-append, take-append-drop, drop_of_length-le, take-suc, take_all}
use Rattle.lists.specs.Tests.{by-test}
use Rattle.lists.specs.Search.{any, any_append, any-nil, drop_turn}
use Rattle.ranges.specs.declared.Range.{Range}
use Rattle.rangelists.specs.Listed.{listed, places, ranges_in}
use Rattle.rules_table.specs.declared.Object.{Object}
use Rattle.rules_table.specs.Records.{zero_object, attached_to}
use Rattle.rules_table.specs.Spaces.{reserved_for, reserved_of}

pub reserved_of-append : (os ps : List Object) (s : ℕ) → reserved_of (os ++ ps) s ≡ reserved_of os s ++ reserved_of ps s
unfolding reserved_of
reserved_of-append [] ps s = refl
reserved_of-append (o ∷ os) ps s =
    ap (λ (rs : List Range). reserved_for s o ++ rs) (reserved_of-append os ps s) ∙ sym (append_assoc (reserved_for s o) (reserved_of os s) (reserved_of ps s))

pub reserved_of-snoc : (os : List Object) (o : Object) (s : ℕ) → reserved_of (os ++ (o ∷ [])) s ≡ reserved_of os s ++ reserved_for s o
unfolding reserved_of
reserved_of-snoc os o s = reserved_of-append os (o ∷ []) s ∙ ap (λ (rs : List Range). reserved_of os s ++ rs) (append-nil (reserved_for s o))

reserved_of-nil : (s : ℕ) → reserved_of [] s ≡ []
unfolding reserved_of
reserved_of-nil s = refl

reserved_of-cons : (o : Object) (os : List Object) (s : ℕ) → reserved_of (o ∷ os) s ≡ reserved_for s o ++ reserved_of os s
unfolding reserved_of
reserved_of-cons o os s = refl

-- one more object
pub reserved_of-next : (os : List Object) (i s : ℕ) → i < length os
    → reserved_of (take (i + 1) os) s ≡ reserved_of (take i os) s ++ reserved_for s (get_or os i zero_object)
reserved_of-next os i s h = rw (add-one, take-suc os i zero_object h) (reserved_of-snoc (take i os) (get_or os i zero_object) s)

-- what is left at slot i: what it reserves, and what is left behind it
pub reserved_of-left : (os : List Object) (i s : ℕ) → i < length os
    → reserved_of (drop i os) s ≡ reserved_for s (get_or os i zero_object) ++ reserved_of (drop (i + 1) os) s
reserved_of-left os i s h = ap (λ (ps : List Object). reserved_of ps s) (drop_turn os zero_object i h) ∙ reserved_of-cons (get_or os i zero_object) (drop (i + 1) os) s

pub reserved_of-done : (os : List Object) (i s : ℕ) → length os ≤ i → reserved_of (drop i os) s ≡ []
reserved_of-done os i s h = ap (λ (ps : List Object). reserved_of ps s) (drop_of_length-le os h) ∙ reserved_of-nil s

-- all slots
pub reserved_of-all : (os : List Object) (i s : ℕ) → length os ≤ i → reserved_of (take i os) s ≡ reserved_of os s
reserved_of-all os i s h = ap (λ (ps : List Object). reserved_of ps s) (take_all i os h)

-- before slot i, and from it on
pub reserved_of-split : (os : List Object) (i s : ℕ) → reserved_of os s ≡ reserved_of (take i os) s ++ reserved_of (drop i os) s
reserved_of-split os i s = ap (λ (ps : List Object). reserved_of ps s) (sym (take-append-drop i os)) ∙ reserved_of-append (take i os) (drop i os) s

-- ---- how many

pub reserved_for-most : (s : ℕ) (o : Object) → length (reserved_for s o) ≤ 4
unfolding reserved_for ranges_in listed
reserved_for-most s o =
    by-test (attached_to s o.kind)
    (λ e. rw (e, length-take (min o.reserved.count 4) (places o.reserved.starts o.reserved.lasts)) (omega arith))
    (λ e. rw e (omega arith))

pub reserved_of-most : (os : List Object) (s : ℕ) → length (reserved_of os s) ≤ 4 * length os
unfolding reserved_of
reserved_of-most [] s = omega arith
reserved_of-most (o ∷ os) s = omega (arith, length-append (reserved_for s o) (reserved_of os s), reserved_for-most s o, reserved_of-most os s)

-- ---- a search that stands at slot i: what is left to search gives the answer k of the whole

module _ (p : Range → Bool) (os : List Object) (s i : ℕ) {k : Bool} (v : any p (reserved_of (drop i os) s) ≡ k) where
  turn : i < length os → (any p (reserved_for s (get_or os i zero_object)) || any p (reserved_of (drop (i + 1) os) s)) ≡ k
  turn h = sym (ap (any p) (reserved_of-left os i s h) ∙ any_append p (reserved_for s (get_or os i zero_object)) (reserved_of (drop (i + 1) os) s)) ∙ v

  pub slot-found : i < length os → true ≡ any p (reserved_for s (get_or os i zero_object)) → true ≡ k
  slot-found h e = sym (rw (← e)) ∙ turn h

  pub slot-on : i < length os → false ≡ any p (reserved_for s (get_or os i zero_object)) → any p (reserved_of (drop (i + 1) os) s) ≡ k
  slot-on h e = sym (rw (← e)) ∙ turn h

  pub slot-end : length os ≤ i → false ≡ k
  slot-end h = sym (ap (any p) (reserved_of-done os i s h) ∙ any-nil p) ∙ v
