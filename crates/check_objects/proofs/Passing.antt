-- What one slot tells; and one pass over the slots: what was seen before slot i and what is left from i on answer for the whole.
use Rattle.std.specs.Prelude.{Option, None, Some}
use Prim.Native.Nat.{ℕ, zero, suc, ◌+◌, ◌-◌, ◌≤◌, ◌<◌, max}
use mathlib.Core.Path.{◌≡◌, refl, sym, ap, subst, ◌∙◌}
use mathlib.Core.Bool.{Bool, true, false}
use mathlib.Core.List.{List}
use native.Mathlib.Omega.{arith}
use lib.Dec.{ltb}
use lib.ListN.{length, get_or, set, drop, replicate, length-set}
use borrow.Author.Tests.{ltb-true, ltb-false}
use Rattle.lists.specs.Tests.{by-test}
use Rattle.lists.specs.Search.{all, seek, seek_found, seek-on, seek-end}
use Rattle.wire.specs.Fields.{zeros}
use Rattle.rules_table.specs.declared.Kind.{Kind}
use Rattle.rules_table.specs.declared.Object.{Object}
use Rattle.rules_table.specs.Records.{zero_object, free_object, is_free}
use Rattle.rules_table.specs.Charge.{free_record}
use Rattle.rules_table.specs.Good.{reserved_rest, allow_rest, no_device, no_list}
use Rattle.table.specs.Checked.{object_ok, objects_ok}
use Rattle.check_objects.specs.declared.Turn.{Turn}
use Rattle.check_objects.specs.Pages.{slot_of, ask_of}
use Rattle.object_rules.specs.Judged.{named_place, fits_by, judged-ok}
use Rattle.check_objects.specs.Passed.{Turned, Next, Passed, free_after, free_to}
use Rattle.check_objects.proofs.Judging.{ok_left, ok-start, ok-failed, ok-on, ok_end}
use Rattle.check_objects.proofs.Paging.{Kept, kept-start, kept_on, kept-skip, kept-end}

-- ---- one slot

module _ (os : List Object) (i : ℕ) (many : length os ≡ 32) (k : Kind) (b : Bool) (ek : k ≡ (get_or os i zero_object).kind)
    (eb : b ≡ fits_by (get_or os (named_place k) zero_object) (get_or os i zero_object) k) where
  -- an object judged with the one that it names
  judged : (t : Bool) → b ≡ t → object_ok os (get_or os i zero_object) ≡ t
  judged t e =
      let same : fits_by (get_or os (named_place k) zero_object) (get_or os i zero_object) k ≡ object_ok os (get_or os i zero_object)
      = ap (λ (n : Kind). fits_by (get_or os (named_place n) zero_object) (get_or os i zero_object) n) ek ∙ judged-ok os (get_or os i zero_object) many in
      sym (eb ∙ same) ∙ e

  pub turned-bad : b ≡ false → object_ok os (get_or os i zero_object) ≡ false
  turned-bad = judged false

  pub turned : (t : Turn) → b ≡ true → (w : ℕ) → w ≡ (get_or os i zero_object).bitmap → t.free ≡ is_free k
      → t.slot ≡ slot_of (i + 1) k → t.slot < 33 → t.page ≡ ask_of w k → Turned os i t
  turned t e w ew ef es l ep = record {
    good = judged true e;
    free = ef ∙ ap is_free ek;
    slot = es ∙ ap (slot_of (i + 1)) ek;
    below = l;
    page = ep ∙ ap (λ (n : ℕ). ask_of n k) ew ∙ ap (ask_of (get_or os i zero_object).bitmap) ek;
  }

-- ---- the lowest free record, from place i on

unfoldable pub free_left : ℕ → List Object → Option ℕ
free_left i os = seek (λ (o : Object). is_free o.kind) i (drop i os)

pub free-start : (os : List Object) → free_left 0 os ≡ free_record os
unfolding free_left free_record
free-start os = refl

module _ (os : List Object) (i : ℕ) {k : Option ℕ} (v : free_left i os ≡ k) where
  pub free-found : i < length os → is_free (get_or os i zero_object).kind ≡ true → Some i ≡ k
  unfolding free_left
  free-found h e = seek_found (λ (o : Object). is_free o.kind) os i refl zero_object h e ∙ v

  pub free_on : i < length os → is_free (get_or os i zero_object).kind ≡ false → free_left (i + 1) os ≡ k
  unfolding free_left
  free_on h e = seek-on (λ (o : Object). is_free o.kind) os i refl zero_object h e ∙ v

  pub free-end : length os ≤ i → None ≡ k
  unfolding free_left
  free-end h = seek-end (λ (o : Object). is_free o.kind) os i refl h ∙ v

-- a record that was found, or else the first of those left
abbrev or_else : Option ℕ → Option ℕ → Option ℕ
or_else (Some j) g = Some j
or_else None g = g

free-turn : (os : List Object) (i : ℕ) (f : Option ℕ) {k : Option ℕ} → or_else f (free_left i os) ≡ k → i < length os
    → or_else (free_after f i (is_free (get_or os i zero_object).kind)) (free_left (i + 1) os) ≡ k
free-turn os i (Some j) v h = v
free-turn os i None v h =
    by-test (is_free (get_or os i zero_object).kind)
    (λ e. rw e (free-found os i v h e))
    (λ e. rw e (free_on os i v h e))

free-last : (os : List Object) (i : ℕ) (f : Option ℕ) {k : Option ℕ} → or_else f (free_left i os) ≡ k → length os ≤ i → f ≡ k
free-last os i (Some j) v h = v
free-last os i None v h = free-end os i v h

-- the released slots from i on before j are passed over
free-next : (os : List Object) (i j : ℕ) (f : Option ℕ) {k : Option ℕ} → length os ≡ 32 → or_else f (free_left i os) ≡ k → Next os i j
    → or_else (free_to f i j) (free_left j os) ≡ k
unfolding free_to
free-next os i j (Some n) many v x = v
free-next os i j None many v x =
    by-test (ltb i j)
    (λ t. let h = ltb-true i j t in
    rw t (free-found os i v (omega (arith, many, x.upto)) (ap (λ (o : Object). is_free o.kind) (x.released i (omega arith) h))))
    (λ t. let z : j ≡ i = omega (arith, ltb-false i j t, x.from) in rw (t, z) v)

-- ---- all of it

-- the rules, before slot i
record Ruling (os : List Object) (i : ℕ) (pages : List ℕ) : Type 0 where
  ok : ok_left i os ≡ objects_ok os
  kept : Kept os i pages

-- before slot i
pub record Passing (os : List Object) (i : ℕ) (free : Option ℕ) (pages : List ℕ) : Type 0 where
  pub many : length os ≡ 32
  pub upto : i ≤ 32
  pub room : length pages ≡ 33
  pub ok : ok_left i os ≡ objects_ok os
  pub kept : Kept os i pages
  pub lowest : or_else free (free_left i os) ≡ free_record os

-- ---- released slots are passed over

module _ (os : List Object) (pages : List ℕ) (many : length os ≡ 32) (room : length pages ≡ 33) where
  free-good : object_ok os free_object ≡ true
  unfolding no_device no_list reserved_rest allow_rest zeros all
  free-good = sym (judged-ok os free_object many)

  ruling_skip : (i : ℕ) → Ruling os i pages → i < 32 → get_or os i zero_object ≡ free_object → Ruling os (i + 1) pages
  ruling_skip i v h e = record {
    ok = ok-on os i many v.ok h (ap (object_ok os) e ∙ free-good);
    kept = kept-skip os i pages room v.kept (omega (arith, many)) e;
  }

  ruling_skips : (n i : ℕ) → Ruling os i pages → i + n ≤ 32 → ((k : ℕ) → i ≤ k → k < i + n → get_or os k zero_object ≡ free_object) → Ruling os (i + n) pages
  ruling_skips zero i v h e = let z : i + 0 ≡ i = omega arith in rw z v
  ruling_skips (suc n) i v h e =
      let z : i + suc n ≡ i + 1 + n = omega arith in
      rw z (ruling_skips n (i + 1) (ruling_skip i v (omega arith) (e i (omega arith) (omega arith))) (omega arith) (λ k a b. e k (omega arith) (omega arith)))

passing-next : (os : List Object) (i j : ℕ) (free lowest : Option ℕ) (pages : List ℕ) → Passing os i free pages → Next os i j → lowest ≡ free_to free i j
    → Passing os j lowest pages
passing-next os i j free lowest pages v x e =
    let z : i + (j - i) ≡ j = omega (arith, x.from) in
    let r : Ruling os j pages = subst (λ (n : ℕ). Ruling os n pages) z (ruling_skips os pages v.many v.room (j - i) i
    record { ok = v.ok; kept = v.kept } (omega (arith, x.from, x.upto)) (λ k a b. x.released k a (omega (arith, b, x.from)))) in
    record { many = v.many; upto = x.upto; room = v.room; ok = r.ok; kept = r.kept; lowest = rw e (free-next os i j free v.many v.lowest x) }

pub passing-start : (os : List Object) (pages : List ℕ) → length os ≡ 32 → pages ≡ replicate 33 0
    → (j : ℕ) (lowest : Option ℕ) → Next os 0 j → lowest ≡ free_to None 0 j → Passing os j lowest pages
passing-start os pages m e j lowest x f =
    passing-next os 0 j None lowest pages
    (rw e (record { many = m; upto = omega arith; room = refl; ok = ok-start os; kept = kept-start os; lowest = free-start os })) x f

-- ---- the others

module _ (os : List Object) (i : ℕ) (free : Option ℕ) (pages : List ℕ) (v : Passing os i free pages) where
  pub passing-failed : object_ok os (get_or os i zero_object) ≡ false → i < 32 → objects_ok os ≡ false
  passing-failed e l = sym (ok-failed os i v.many v.ok l e)

  passing-turn : (t : Turn) → Turned os i t → i < 32 → (q : ℕ) (here : Option ℕ) → q ≡ max (get_or pages t.slot 0) t.page
      → here ≡ free_after free i t.free
      → Passing os (i + 1) here (set pages t.slot q)
  passing-turn t w l q here eq ef =
      let m : i < length os = omega (arith, v.many) in
      record {
        many = v.many;
        upto = omega (arith, l);
        room = length-set pages t.slot q ∙ v.room;
        ok = ok-on os i v.many v.ok l w.good;
        kept = kept_on os i pages v.room v.kept t.slot t.page q m w.slot w.below w.page eq;
        lowest = rw (ef ∙ ap (free_after free i) w.free) (free-turn os i free v.lowest m);
      }

  pub passing-on : (t : Turn) → Turned os i t → i < 32 → (q : ℕ) (here : Option ℕ) → q ≡ max (get_or pages t.slot 0) t.page
      → here ≡ free_after free i t.free
      → (j a b : ℕ) (lowest : Option ℕ) → Next os (i + 1) j → lowest ≡ free_to here a b → a ≡ i + 1 → b ≡ j
      → Passing os j lowest (set pages t.slot q)
  passing-on t w l q here eq ef j a b lowest x f ea eb =
      passing-next os (i + 1) j here lowest (set pages t.slot q) (passing-turn t w l q here eq ef) x (f ∙ rw (ea, eb))

  pub passing-end : 32 ≤ i → Passed os record { free = free } pages
  passing-end l =
      let past : length os ≤ i = omega (arith, v.many) in
      let good : objects_ok os ≡ true = sym (ok_end os i v.ok past) in
      record {
        good = good;
        free = free-last os i free v.lowest past;
        aligned = kept-end os i pages v.room v.kept v.many past good;
      }

pub pages-long : (pages : List ℕ) → pages ≡ replicate 33 0 → length pages ≡ 33
pages-long pages e = ap length e ∙ refl
