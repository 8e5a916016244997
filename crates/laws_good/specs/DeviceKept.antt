-- Bind, attach and detach keep a good table good.
use Prim.Native.Nat.{ℕ, zero, suc, ◌+◌, ◌-◌, ◌≤◌, ◌<◌, min, max}
use Rattle.std.specs.Prelude.{◌≡◌, Bool, true, ◌&&◌, List, [], ◌∷◌, leb, ltb, eqb, get_or, set, take, drop}
use Rattle.std.proofs.Math.Path.{refl}
use Rattle.std.proofs.Common.{sym, ap, ◌∙◌, arith}
use Rattle.std.proofs.Math.Bool.{false}
use Rattle.std.proofs.Math.Nat.{mod-one}
use Rattle.std.proofs.Math.ListN.{get_or-eq_default}
use Rattle.std.proofs.Math.ListN as ListN
use borrow.Author.Tests.{eqb-true, eq-eqb, leb-true, leb-false, ltb-false, not-false, le-ltb}
use Rattle.lists.specs.Tests.{by-test, contrary, and_left, and_right, and_both, or_not_left, or_not_right}
use Rattle.lists.specs.Search.{any, any-nil, all}
use Rattle.lists.specs.Each.{Each-zip, Each-of, Each-any_false}
use Rattle.lists.specs.Checks.{when, first, passed}
use Rattle.ranges.specs.declared.Range.{Range}
use Rattle.ranges.specs.Ranges.{share}
use Rattle.alignment.specs.Pages.{smallest_page, Power, page-power}
use Rattle.alignment.specs.Multiples.{multiple, multiple-of, fits}
use Rattle.alignment.specs.Highest.{multiple-lower, max_power}
use Rattle.rangelists.specs.Listed.{Reserved, places, listed, reserved, allowed, valid, ranges_in}
use Rattle.wire.specs.Fields.{zeros}
use Rattle.rules_table.specs.declared.Attachment.TheVariants.{Loose}
use Rattle.rules_table.specs.declared.Kind.{Kind}
use Rattle.rules_table.specs.declared.Kind.TheVariants.{Free, Space, Device}
use Rattle.rules_table.specs.declared.Object.{Object}
use Rattle.rules_table.specs.declared.Mapping.{Mapping}
use Rattle.rules_table.specs.declared.Table.{Table}
use Rattle.rules_table.specs.Records.{free_object, is_space, is_device, is_attached, object_at, space_at, used, of_space, extent}
use Rattle.rules_table.specs.Spaces.{page_for, alignment, reserved_for}
use Rattle.table.specs.Aligned.{alignment-power}
use Rattle.rules_table.specs.Charge.{free_record}
use Rattle.rules_table.specs.Good.{device_names, device_valid, list_valid, list_clear, object_zero, no_list, reserved_rest, allow_rest, lists_touch}
use Rattle.table.specs.Checked.{object_ok, kind_names, device_by, list_clear_by, zero_by, object_by}
use Rattle.table.specs.Sound.{Sound}
use Rattle.table.specs.Facts.{UsedOk}
use Rattle.table.specs.Replaced.{object_at-ok, object_at-set_other, space_at-set_other, none-attached, hosts_none}
use Rattle.table.specs.Moved.{Quiet}
use Rattle.rules_calls.specs.declared.Change.TheVariants.{Put}
use Rattle.rules_calls.specs.Edits.{accept, added, applied, settle}
use Rattle.edits.specs.Kept.{Bears, AllBorne, put-sound, quiet_bears, elsewhere, settle-sound, added-sound}
use Rattle.rules_table.specs.Fits.{bind_checks, device_fits}
use Rattle.rules_calls.specs.Bind.{only_first, trimmed, new_device, bind_edit, bind_rule}
use Rattle.rules_calls.specs.Attach.{blocked_by, misfits, alignment_with, attached_object, loose_object, attach_checks, attach_edit, detach_checks, detach_edit}
use Rattle.edits.specs.Settled.{settle-record}

-- ---- bind

-- the ranges in use are those passed, and every other place is zero
places-first : (n : ℕ) (ss ls : List ℕ) → take n (places (only_first n ss) (only_first n ls)) ≡ take n (places ss ls)
unfolding places only_first
places-first zero ss ls = refl
places-first (suc n) [] ls = refl
places-first (suc n) (s ∷ ss) [] = refl
places-first (suc n) (s ∷ ss) (l ∷ ls) = ap {B = List Range} (λ r. record { start = s; last = l } ∷ r) (places-first n ss ls)

zeros-rest : (n : ℕ) (xs : List ℕ) → zeros (drop n (only_first n xs)) ≡ true
unfolding zeros all only_first
zeros-rest zero [] = refl
zeros-rest (suc n) [] = refl
zeros-rest zero (x ∷ xs) = zeros-rest zero xs
zeros-rest (suc n) (x ∷ xs) = zeros-rest n xs

reserved-trimmed : (l : Reserved) → l.count ≤ 4 → reserved (trimmed l) ≡ reserved l
unfolding ranges_in trimmed listed
reserved-trimmed l h = let e : min l.count 4 ≡ l.count = omega arith in rw e (places-first l.count l.starts l.lasts)

bind_passed : (bitmap : ℕ) (l : Reserved) → first (bind_checks bitmap l) 0 ≡ 0 → (i : ℕ) → i < 3 → (get_or (bind_checks bitmap l) i (when false 0)).fires ≡ false
unfolding bind_checks
bind_passed bitmap l e i h = passed (bind_checks bitmap l) 0 (when false 0) (λ z. omega (arith, z), (λ z. omega (arith, z), (λ z. omega (arith, z), tt))) e i h

-- what bind accepts keeps the rules of objects
module _ (bitmap : ℕ) (l : Reserved) (e : first (bind_checks bitmap l) 0 ≡ 0) where
  bitmap-some : eqb bitmap 0 ≡ false
  unfolding bind_checks
  bitmap-some = or_not_left (eqb bitmap 0) (ltb 4096 (smallest_page bitmap)) (bind_passed bitmap l e 0 (omega arith))

  page-most : smallest_page bitmap ≤ 4096
  unfolding bind_checks
  page-most = ltb-false 4096 (smallest_page bitmap) (or_not_right (eqb bitmap 0) (ltb 4096 (smallest_page bitmap)) (bind_passed bitmap l e 0 (omega arith)))

  count_most : l.count ≤ 4
  unfolding bind_checks
  count_most = ltb-false 4 l.count (bind_passed bitmap l e 1 (omega arith))

  ranges-valid : valid (reserved l) ≡ true
  unfolding bind_checks
  ranges-valid = not-false (valid (reserved l)) (bind_passed bitmap l e 2 (omega arith))

  rest-zero : (xs : List ℕ) → zeros (drop (min l.count 4) (only_first l.count xs)) ≡ true
  rest-zero xs = let s : min l.count 4 ≡ l.count = omega (arith, count_most) in rw s (zeros-rest l.count xs)

  new_device-ok : (os : List Object) → object_ok os (new_device bitmap l) ≡ true
  unfolding object_ok device_names device_valid list_valid list_clear object_zero no_list allow_rest reserved_rest device_fits bind_checks new_device trimmed zeros all any
  new_device-ok os =
      rw (bitmap-some, le-ltb 4096 (smallest_page bitmap) page-most, le-ltb 4 l.count count_most, reserved-trimmed l count_most, ranges-valid, rest-zero l.starts, rest-zero l.lasts) refl

quiet_new : (bitmap : ℕ) (l : Reserved) → Quiet (new_device bitmap l)
unfolding new_device
quiet_new bitmap l s = refl

-- the check for a record says what `added` refuses by itself
bind_is : (os : List Object) (bitmap : ℕ) (l : Reserved) → settle (first (bind_checks bitmap l) 0) (added (free_record os) (new_device bitmap l)) ≡ bind_edit os bitmap l
unfolding bind_edit bind_rule
bind_is os bitmap l = settle-record (bind_checks bitmap l) (free_record os) (new_device bitmap l)

pub bind_sound : (t : Table) (bitmap : ℕ) (l : Reserved) → Sound t → Sound (applied t (bind_edit t.objects bitmap l))
bind_sound t bitmap l g =
    rw (sym (bind_is t.objects bitmap l))
    (settle-sound t (first (bind_checks bitmap l) 0) (added (free_record t.objects) (new_device bitmap l)) g
    (λ e. added-sound t (new_device bitmap l) g (quiet_new bitmap l) (new_device-ok bitmap l e)))

-- ---- attach and detach

-- an id that is a device has a place, and is no space
pub device-slot : (os : List Object) (d : ℕ) → is_device (object_at os d).kind ≡ true → (i : ℕ) × (d ≡ suc i) × (i < ListN.length os) × (space_at os (suc i) ≡ false)
unfolding space_at object_at
device-slot os zero e = contrary false e refl
device-slot os (suc i) e =
    by-test (leb (ListN.length os) i)
    (λ t. contrary false (sym (ap (λ (o : Object). is_device o.kind) (get_or-eq_default os free_object (leb-true (ListN.length os) i t))) ∙ e) refl)
    (λ t. (i, refl, leb-false (ListN.length os) i t, no-space (get_or os i free_object).kind e))
  where
    no-space : (k : Kind) → is_device k ≡ true → is_space k ≡ false
    no-space Free e = refl
    no-space Space e = contrary false e refl
    no-space (Device a) e = refl

-- the fields of a device that keeps the rules are those that bind takes, and it has no allow list
abbrev fields_ok : Object → Bool
fields_ok o = device_fits o && (reserved_rest o && no_list o)

device-by : (os : List Object) (o : Object) (k : Kind) → is_device k ≡ true
    → object_by os o k ≡ true → fields_ok o ≡ true
device-by os o Free d e = contrary false d refl
device-by os o Space d e = contrary false d refl
device-by os o (Device a) d e =
    let f = device_by o (Device a) in
    let z = zero_by o (Device a) in
    let r = and_right (kind_names os (Device a)) (f && (true && (list_clear_by os o (Device a) && z))) e in
    and_both f z (and_left f (true && (list_clear_by os o (Device a) && z)) r) (and_right (list_clear_by os o (Device a)) z (and_right f (true && (list_clear_by os o (Device a) && z)) r))

device-fields : (os : List Object) (o : Object) → is_device o.kind ≡ true → object_ok os o ≡ true → fields_ok o ≡ true
unfolding object_ok device_names device_valid list_valid list_clear object_zero
device-fields os o d e = device-by os o o.kind d e

-- ---- detach

loose-ok : (os qs : List Object) (o : Object) → fields_ok o ≡ true → object_ok qs (loose_object o) ≡ true
unfolding object_ok device_names device_valid list_valid list_clear object_zero device_fits loose_object no_list allow_rest reserved_rest
loose-ok os qs o e =
    let f = device_by o (Device Loose) in
    let z = zero_by o (Device Loose) in
    rw (and_left f z e) (and_right f z e)

quiet_loose : (o : Object) → Quiet (loose_object o)
unfolding loose_object
quiet_loose o s = refl

pub detach_passed : (o : Object) → first (detach_checks o) 0 ≡ 0 → is_device o.kind ≡ true
unfolding detach_checks
detach_passed o e = not-false (is_device o.kind) (passed (detach_checks o) 0 (when false 0) (λ z. omega (arith, z), (λ z. omega (arith, z), tt)) e 0 (omega arith))

-- an object of the device's own making takes its place
pub device-put : (t : Table) (d : ℕ) (n : Object) → Sound t → is_device (object_at t.objects d).kind ≡ true
    → ((i : ℕ) → d ≡ suc i → space_at t.objects (suc i) ≡ false → (object_ok (set t.objects i n) n ≡ true) × AllBorne t i n) → Sound (applied t (accept 0 (Put (d - 1)) n))
unfolding applied
device-put t d n g dev f =
    let p = device-slot t.objects d dev in
    let k = f p.0 p.1 p.3 in
    let s : suc p.0 - 1 ≡ p.0 = omega arith in
    let place : d - 1 ≡ p.0 = ap (λ (x : ℕ). x - 1) p.1 ∙ s in
    rw place (put-sound t p.0 n g (omega (arith, p.2, g.places)) (hosts_none t.objects p.0 n (none-attached t.objects (suc p.0) g.objects p.3)) k.0 k.1)

pub detach_sound : (t : Table) (d : ℕ) → Sound t → Sound (applied t (detach_edit t.objects d))
unfolding detach_edit
detach_sound t d g =
    settle-sound t (first (detach_checks (object_at t.objects d)) 0) (accept 0 (Put (d - 1)) (loose_object (object_at t.objects d))) g
    (λ e.
    let dev = detach_passed (object_at t.objects d) e in
    let p = device-slot t.objects d dev in
    let ok : object_ok t.objects (object_at t.objects d) ≡ true = rw p.1 (object_at-ok t.objects p.0 p.2 g.objects) in
    let fields = device-fields t.objects (object_at t.objects d) dev ok in
    device-put t d (loose_object (object_at t.objects d)) g dev
    (λ i s none. (
      loose-ok t.objects (set t.objects i (loose_object (object_at t.objects d))) (object_at t.objects d) fields,
      Each-of _ t.mappings (λ m u k. quiet_bears t.objects i (loose_object (object_at t.objects d)) m (quiet_loose (object_at t.objects d)) (elsewhere t.objects i (loose_object (object_at t.objects d)) m none k)),
    )))

-- ---- attach

-- what fits the higher of two pages fits each
fits-lower : (a b x n : ℕ) → Power a → Power b → a ≤ b → fits b x n ≡ true → fits a x n ≡ true
unfolding fits
fits-lower a b x n p q h e =
    and_both (multiple a x) (multiple a (x + n))
    (multiple-lower a b x p q h (and_left (multiple b x) (multiple b (x + n)) e))
    (multiple-lower a b (x + n) p q h (and_right (multiple b x) (multiple b (x + n)) e))

-- everything fits page 1
fits_one : (x n : ℕ) → fits 1 x n ≡ true
unfolding fits
fits_one x n = and_both (multiple 1 x) (multiple 1 (x + n)) (multiple-of 1 x (mod-one x)) (multiple-of 1 (x + n) (mod-one (x + n)))

module _ (os : List Object) (ms : List Mapping) (o : Object) (s : ℕ) (e : first (attach_checks os ms o s) 0 ≡ 0) where
  attach_passed : (i : ℕ) → i < 5 → (get_or (attach_checks os ms o s) i (when false 0)).fires ≡ false
  unfolding attach_checks
  attach_passed i h = passed (attach_checks os ms o s) 0 (when false 0) (λ z. omega (arith, z), (λ z. omega (arith, z), (λ z. omega (arith, z), (λ z. omega (arith, z), (λ z. omega (arith, z), tt))))) e i h

  pub is-device : is_device o.kind ≡ true
  unfolding attach_checks
  is-device = not-false (is_device o.kind) (attach_passed 0 (omega arith))

  is-space : space_at os s ≡ true
  unfolding attach_checks
  is-space = not-false (space_at os s) (attach_passed 1 (omega arith))

  pub not_attached : is_attached o.kind ≡ false
  unfolding attach_checks
  not_attached = attach_passed 2 (omega arith)

  none-blocked : any (blocked_by s (reserved o.reserved)) ms ≡ false
  unfolding attach_checks
  none-blocked = or_not_left (any (blocked_by s (reserved o.reserved)) ms) (lists_touch (reserved o.reserved) (allowed (object_at os s).allow)) (attach_passed 3 (omega arith))

  lists-clear : lists_touch (reserved o.reserved) (allowed (object_at os s).allow) ≡ false
  unfolding attach_checks
  lists-clear = or_not_right (any (blocked_by s (reserved o.reserved)) ms) (lists_touch (reserved o.reserved) (allowed (object_at os s).allow)) (attach_passed 3 (omega arith))

  none-misfits : any (misfits s (alignment_with os s o)) ms ≡ false
  unfolding attach_checks
  none-misfits = attach_passed 4 (omega arith)

  -- in its new place it keeps the rules of objects
  attached-ok : (i : ℕ) → fields_ok o ≡ true → space_at os (suc i) ≡ false → object_ok (set os i (attached_object o s)) (attached_object o s) ≡ true
  unfolding object_ok device_names device_valid list_valid list_clear object_zero device_fits attached_object no_list allow_rest reserved_rest
  attached-ok i fields lone =
      let f = device_by o (Device Loose) in
      let z = zero_by o (Device Loose) in
      let ne : s ≡ suc i → ⊥ = λ q. contrary (space_at os (suc i)) (rw (← q) is-space) lone in
      rw (space_at-set_other os i (attached_object o s) s ne, is-space, and_left f z fields, object_at-set_other os i (attached_object o s) s ne, lists-clear) (and_right f z fields)

  -- and bears every mapping: those of the space by the checks, the others because it asks nothing of them
  attached-clear : (m : Mapping) → blocked_by s (reserved o.reserved) m ≡ false → any (share (extent m)) (reserved_for m.space (attached_object o s)) ≡ false
  unfolding blocked_by of_space reserved_for attached_object
  attached-clear m clear =
      by-test (eqb s m.space)
      (λ q. rw q (sym (rw (eq-eqb m.space s (sym (eqb-true s m.space q)))) ∙ clear))
      (λ q. rw q (any-nil (share (extent m))))

  attached-fits : (m : Mapping) → misfits s (alignment_with os s o) m ≡ false → fits (page_for m.space (attached_object o s)) m.address m.length ≡ true
  unfolding misfits alignment_with of_space page_for attached_object
  attached-fits m fit =
      by-test (eqb s m.space)
      (λ q. rw q (fits-lower (smallest_page o.bitmap) (max (smallest_page o.bitmap) (alignment os s)) m.address m.length
      (page-power o.bitmap) (max_power (smallest_page o.bitmap) (alignment os s) (page-power o.bitmap) (alignment-power os s)) (omega arith)
      (not-false (fits (max (smallest_page o.bitmap) (alignment os s)) m.address m.length) (sym (rw (eq-eqb m.space s (sym (eqb-true s m.space q)))) ∙ fit))))
      (λ q. rw q (fits_one m.address m.length))

  attached-bears : (i : ℕ) (m : Mapping) → space_at os (suc i) ≡ false → UsedOk os m → blocked_by s (reserved o.reserved) m ≡ false → misfits s (alignment_with os s o) m ≡ false → Bears os i (attached_object o s) m
  attached-bears i m lone k clear fit = record { names = elsewhere os i (attached_object o s) m lone k; clear = attached-clear m clear; aligned = attached-fits m fit }

pub attach_sound : (t : Table) (d s : ℕ) → Sound t → Sound (applied t (attach_edit t.objects t.mappings d s))
unfolding attach_edit
attach_sound t d s g =
    let os = t.objects in
    let ms = t.mappings in
    let o = object_at t.objects d in
    settle-sound t (first (attach_checks os ms o s) 0) (accept 0 (Put (d - 1)) (attached_object o s)) g
    (λ e.
    let dev = is-device os ms o s e in
    let p = device-slot os d dev in
    let ok : object_ok os o ≡ true = rw p.1 (object_at-ok os p.0 p.2 g.objects) in
    let fields = device-fields os o dev ok in
    device-put t d (attached_object o s) g dev
    (λ i q lone. (
      attached-ok os ms o s e i fields lone,
      Each-zip (λ m. blocked_by s (reserved o.reserved) m ≡ false) (λ m. misfits s (alignment_with os s o) m ≡ false) (λ m. used m ≡ true → UsedOk os m → Bears os i (attached_object o s) m) ms
          (λ m a b u k. attached-bears os ms o s e i m lone k a b)
          (Each-any_false (blocked_by s (reserved o.reserved)) ms (none-blocked os ms o s e)) (Each-any_false (misfits s (alignment_with os s o)) ms (none-misfits os ms o s e)),
    )))
