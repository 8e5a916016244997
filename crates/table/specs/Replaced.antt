-- One object record is replaced: what stays true of the others, of alignment and of reserved ranges.
use Prim.Native.Nat.{ℕ, zero, suc, ◌<◌}
use Rattle.std.specs.Prelude.{◌≡◌, Bool, true, false, not, ◌&&◌, List, leb, eqb, length, get_or, set}
use Rattle.std.proofs.Math.Path.{refl, ap}
use Rattle.std.proofs.Common.{sym, ◌∙◌, le_of_suc-le-suc, leb-true, leb-false, eqb-true, eq-eqb}
use Rattle.std.proofs.Math.ListN.{get_or-eq_default}
use Rattle.std.proofs.Math.Seq.{get_or-set_same, get_or-set_other}
use Rattle.std.proofs.lemmas.Bool.{eqb-false, not-true}
use Rattle.lists.specs.Tests.{by-test, contrary, and_left, and_right}
use Rattle.lists.specs.Search.{any, all-at, any-slot}
use Rattle.lists.specs.Each.{Each, Each-imp, Each-set, Each-at, Each-zip, Each-all, all-Each, Each-any_false}
use Rattle.rangelists.specs.Listed.{reserved, allowed}
use Rattle.rules_table.specs.declared.Attachment.TheVariants.{Loose, Attached}
use Rattle.rules_table.specs.declared.Kind.{Kind}
use Rattle.rules_table.specs.declared.Kind.TheVariants.{Free, Space, Device}
use Rattle.rules_table.specs.declared.Object.{Object}
use Rattle.rules_table.specs.Records.{zero_object, free_object, is_space, object_at, space_at, attached_to}
use Rattle.rules_table.specs.Good.{device_names, device_valid, list_valid, lists_touch, list_clear, object_zero}
use Rattle.table.specs.Checked.{object_ok, device_by, zero_by, object_by, objects_ok}
use Rattle.lists.specs.Ends.{get_d_any}

-- the object with the id of a place
pub object_at-slot : (os : List Object) (i : ℕ) (d : Object) → i < length os → object_at os (suc i) ≡ get_or os i d
unfolding object_at
object_at-slot os i d h = get_d_any os i free_object d h

pub object_at-past : (os : List Object) (id : ℕ) → length os < id → object_at os id ≡ free_object
unfolding object_at
object_at-past os zero h = refl
object_at-past os (suc i) h = get_or-eq_default os free_object (le_of_suc-le-suc h)

-- ---- the object with an id, after a store at place i

module _ (os : List Object) (i : ℕ) (n : Object) where
  pub object_at-set_same : i < length os → object_at (set os i n) (suc i) ≡ n
  unfolding object_at
  object_at-set_same h = get_or-set_same os i n free_object h

  pub object_at-set_other : (id : ℕ) → (id ≡ suc i → ⊥) → object_at (set os i n) id ≡ object_at os id
  unfolding object_at
  object_at-set_other zero ne = refl
  object_at-set_other (suc j) ne = get_or-set_other os i j n free_object (λ e. ne (ap suc e))

  pub space_at-set_other : (id : ℕ) → (id ≡ suc i → ⊥) → space_at (set os i n) id ≡ space_at os id
  unfolding space_at
  space_at-set_other id ne = ap (λ (o : Object). is_space o.kind) (object_at-set_other id ne)

  pub space_at-set_same : i < length os → space_at (set os i n) (suc i) ≡ is_space n.kind
  unfolding space_at
  space_at-set_same h = ap (λ (o : Object). is_space o.kind) (object_at-set_same h)

-- an id that is a space has a place
pub space_at-slot : (os : List Object) (id : ℕ) → space_at os id ≡ true → (i : ℕ) × (id ≡ suc i) × (i < length os)
unfolding space_at object_at
space_at-slot os zero e = contrary false e refl
space_at-slot os (suc i) e =
    by-test (leb (length os) i)
    (λ t. contrary false (sym (ap (λ (o : Object). is_space o.kind) (get_or-eq_default os free_object (leb-true (length os) i t))) ∙ e) refl)
    (λ t. (i, refl, leb-false (length os) i t))

-- ---- an object that keeps its rules in another list of objects: the space it names is one there, with an allow list that its ranges do not touch

kept_by : (os qs : List Object) (o : Object) (k : Kind) → object_by os o k ≡ true
    → ((s : ℕ) → attached_to s k ≡ true → space_at os s ≡ true → (space_at qs s ≡ true) × (lists_touch (reserved o.reserved) (allowed (object_at qs s).allow) ≡ false))
    → object_by qs o k ≡ true
kept_by os qs o Free e h = e
kept_by os qs o Space e h = e
kept_by os qs o (Device Loose) e h = e
kept_by os qs o (Device (Attached s)) e h =
    let b = device_by o (Device (Attached s)) in
    let z = zero_by o (Device (Attached s)) in
    let c = not (lists_touch (reserved o.reserved) (allowed (object_at os s).allow)) in
    let n = and_left (space_at os s) (b && (true && (c && z))) e in
    let r = and_right (space_at os s) (b && (true && (c && z))) e in
    let k = h s (eq-eqb s s refl) n in
    rw (k.0, k.1, and_left b (true && (c && z)) r) (and_right c z (and_right b (true && (c && z)) r))

module _ (os qs : List Object) (o : Object) where
  pub object-kept : object_ok os o ≡ true
      → ((s : ℕ) → attached_to s o.kind ≡ true → space_at os s ≡ true → (space_at qs s ≡ true) × (lists_touch (reserved o.reserved) (allowed (object_at qs s).allow) ≡ false))
      → object_ok qs o ≡ true
  unfolding object_ok device_names device_valid list_valid list_clear object_zero
  object-kept e h = kept_by os qs o o.kind e h

-- an attached device names a space, whose allow list its ranges do not touch
attached-by : (os : List Object) (o : Object) (k : Kind) (s : ℕ) → object_by os o k ≡ true → attached_to s k ≡ true → (space_at os s ≡ true) × (lists_touch (reserved o.reserved) (allowed (object_at os s).allow) ≡ false)
attached-by os o Free s e f = contrary false f refl
attached-by os o Space s e f = contrary false f refl
attached-by os o (Device Loose) s e f = contrary false f refl
attached-by os o (Device (Attached h)) s e f =
    let b = device_by o (Device (Attached h)) in
    let z = zero_by o (Device (Attached h)) in
    let t = lists_touch (reserved o.reserved) (allowed (object_at os h).allow) in
    let n = and_left (space_at os h) (b && (true && (not t && z))) e in
    let r = and_right (space_at os h) (b && (true && (not t && z))) e in
    let same : h ≡ s = eqb-true h s f in
    rw (← same) (n, not-true t (and_left (not t) z (and_right b (true && (not t && z)) r)))

pub object-attached : (os : List Object) (o : Object) (s : ℕ) → object_ok os o ≡ true → attached_to s o.kind ≡ true → (space_at os s ≡ true) × (lists_touch (reserved o.reserved) (allowed (object_at os s).allow) ≡ false)
unfolding object_ok device_names device_valid list_valid list_clear object_zero
object-attached os o s e f = attached-by os o o.kind s e f

-- the object at a place keeps the rules
pub object_at-ok : (os : List Object) (i : ℕ) → i < length os → objects_ok os ≡ true → object_ok os (object_at os (suc i)) ≡ true
unfolding objects_ok
object_at-ok os i h e = rw (object_at-slot os i free_object h) (all-at (object_ok os) os free_object e i h)

-- ---- the rule of all objects after a store

-- no device is attached to what is no space
pub none-attached : (os : List Object) (s : ℕ) → objects_ok os ≡ true → space_at os s ≡ false → any (λ o. attached_to s o.kind) os ≡ false
unfolding objects_ok
none-attached os s e f =
    by-test (any (λ o. attached_to s o.kind) os)
    (λ t. let w = any-slot (λ (o : Object). attached_to s o.kind) os zero_object t in
    contrary (space_at os s) (object-attached os (get_or os w.0 zero_object) s (Each-at (λ o. object_ok os o ≡ true) os zero_object w.0 w.1 (Each-all (object_ok os) os e)) w.2).0 f)
    (λ t. t)

-- a record to which the devices attached there can stay attached
abbrev pub Hosts : List Object → ℕ → Object → Type 0
Hosts os i n = Each (λ o. attached_to (suc i) o.kind ≡ true → (is_space n.kind ≡ true) × (lists_touch (reserved o.reserved) (allowed n.allow) ≡ false)) os

pub objects-replaced : (os : List Object) (i : ℕ) (n : Object) → i < length os → objects_ok os ≡ true → Hosts os i n → object_ok (set os i n) n ≡ true → objects_ok (set os i n) ≡ true
unfolding objects_ok
objects-replaced os i n h e stay new =
    all-Each (object_ok (set os i n)) (set os i n)
    (Each-set (λ o. object_ok (set os i n) o ≡ true) os i n new
    (Each-zip (λ o. object_ok os o ≡ true) (λ o. attached_to (suc i) o.kind ≡ true → (is_space n.kind ≡ true) × (lists_touch (reserved o.reserved) (allowed n.allow) ≡ false)) (λ o. object_ok (set os i n) o ≡ true) os
    one (Each-all (object_ok os) os e) stay))
  where
    one : (o : Object) → object_ok os o ≡ true → (attached_to (suc i) o.kind ≡ true → (is_space n.kind ≡ true) × (lists_touch (reserved o.reserved) (allowed n.allow) ≡ false)) → object_ok (set os i n) o ≡ true
    one o k f = object-kept os (set os i n) o k (λ s a b. at s a (eqb s (suc i)) refl)
      where
        at : (s : ℕ) → attached_to s o.kind ≡ true → (b : Bool) → eqb s (suc i) ≡ b → (space_at (set os i n) s ≡ true) × (lists_touch (reserved o.reserved) (allowed (object_at (set os i n) s).allow) ≡ false)
        at s a true t =
            let e : s ≡ suc i = eqb-true s (suc i) t in
            let g = f (rw (← e) a) in
            rw e (space_at-set_same os i n h ∙ g.0, ap (λ (x : Object). lists_touch (reserved o.reserved) (allowed x.allow)) (object_at-set_same os i n h) ∙ g.1)
        at s a false t =
            let ne = eqb-false s (suc i) t in
            let g = object-attached os o s k a in
            (space_at-set_other os i n s ne ∙ g.0, ap (λ (x : Object). lists_touch (reserved o.reserved) (allowed x.allow)) (object_at-set_other os i n s ne) ∙ g.1)

-- a record with no device attached to it may become anything
pub hosts_none : (os : List Object) (i : ℕ) (n : Object) → any (λ o. attached_to (suc i) o.kind) os ≡ false → Hosts os i n
hosts_none os i n e = Each-imp (λ (o : Object). attached_to (suc i) o.kind ≡ false) _ os (λ o f a. contrary (attached_to (suc i) o.kind) a f) (Each-any_false (λ o. attached_to (suc i) o.kind) os e)
