-- What a release takes off the charge: the pages of the backings that no mapping has any more, each once.
use Rattle.std.specs.Prelude.{ℕ, suc, ◌+◌, ◌-◌, ◌<◌, ◌≡◌, Bool, true, false, ◌&&◌, eqb, pos}
use Rattle.std.proofs.Math.Path.{refl, sym}
use Rattle.std.proofs.Common.{ap, ◌∙◌, arith, eqb-true, ne_eqb}
use Rattle.std.proofs.Math.Bool.{not}
use mathlib.Core.List.{List, [], ◌∷◌, map}
use Rattle.std.proofs.lemmas.Bool.{lt-leb}
use Rattle.lists.specs.Tests.{by-test, only_if, and_right, and_not_right}
use Rattle.lists.specs.Search.{any, any-cong, any-mono}
use Rattle.lists.specs.Checks.{first}
use Rattle.lists.specs.Each.{Each}
use Rattle.lists.specs.Below.{sum_below-cong, sum_below-add}
use Rattle.lists.specs.Update.{any-map}
use Rattle.ranges.specs.declared.Range.{Range}
use Rattle.wire.specs.Fields.{field}
use Rattle.rules_table.specs.declared.Kind.{Kind}
use Rattle.rules_table.specs.declared.Kind.TheVariants.{Space}
use Rattle.rules_table.specs.declared.Object.{Object}
use Rattle.rules_table.specs.declared.Mapping.{Mapping}
use Rattle.rules_table.specs.declared.Table.{Table}
use Rattle.rules_table.specs.Records.{free_object, object_at, space_at, of_space, within, release}
use Rattle.rules_table.specs.Charge.{backs, charge_in, charge}
use Rattle.rules_table.specs.Good.{good}
use Rattle.table.specs.Checked.{record_ok}
use Rattle.table.specs.Sound.{Backing, Agree, good-sound}
use Rattle.table.specs.Cleared.{release-true, release-false, release-records, release-agree}
use Rattle.table.specs.Charged.{info_pages, charge-info}
use Rattle.rules_calls.specs.Edits.{accept, settle, applied}
use Rattle.edits.specs.Parts.{drop_space, clear_inside}
use Rattle.rules_calls.specs.Answers.{outcome}
use Rattle.rules_calls.specs.Gate.{gate_errno}
use Rattle.rules_calls.specs.Objects.{destroy_checks, removal, destroy_edit}
use Rattle.laws_good.specs.SpaceKept.{is-object, object-slot, is-kind}
use Rattle.rules_calls.specs.Unmap.{range_asked}
use Rattle.rules_calls.specs.Named.{destroy_answer, unmap_answer}
use Rattle.laws_mapping.specs.Passed.{settled-zero}
use Rattle.laws_mapping.specs.Accepted.{accepted}
use Rattle.laws_history.specs.Steps.{unmap_after}

-- a mapping that is not released has the backing b
unfoldable pub stays : (Mapping → Bool) → List Mapping → ℕ → Bool
stays p ms b = any (λ m. not (p m) && backs b m) ms

-- the charge of the mappings whose backing has every mapping released: each backing once
unfoldable pub freed : (Mapping → Bool) → List Mapping → ℕ
freed p ms = charge_in (λ m. not (stays p ms m.backing)) ms

module _ (p : Mapping → Bool) (ms : List Mapping) where
  kept-backs : (k : ℕ) (m : Mapping) → backs (k + 1) (release p m) ≡ (not (p m) && backs (k + 1) m)
  unfolding backs
  kept-backs k m = by-test (p m) (λ e. rw (release-true p m e, e) (ne_eqb 0 (k + 1) (λ z. omega (arith, z)))) (λ e. rw (release-false p m e, e))

  after-stays : (k : ℕ) → any (backs (k + 1)) (map (release p) ms) ≡ stays p ms (k + 1)
  unfolding stays
  after-stays k = any-map (backs (k + 1)) (release p) ms ∙ any-cong (λ m. backs (k + 1) (release p m)) (λ m. not (p m) && backs (k + 1) m) ms (kept-backs k)

  stays-had : (b : ℕ) → stays p ms b ≡ true → any (backs b) ms ≡ true
  unfolding stays
  stays-had b e = any-mono (λ m. not (p m) && backs b m) (backs b) ms (λ m h. and_right (not (p m)) (backs b m) h) e

  same-backing : (b : ℕ) (m : Mapping) → (not (stays p ms m.backing) && backs b m) ≡ (not (stays p ms b) && backs b m)
  unfolding backs
  same-backing b m =
      by-test (eqb m.backing b)
      (λ e. rw (eqb-true m.backing b e))
      (λ e. and_not_right (not (stays p ms m.backing)) (eqb m.backing b) e ∙ sym (and_not_right (not (stays p ms b)) (eqb m.backing b) e))

  any_none : (xs : List Mapping) → any (λ (m : Mapping). false) xs ≡ false
  unfolding any
  any_none [] = refl
  any_none (x ∷ xs) = any_none xs

  any-fixed : (c : Bool) (b : ℕ) (xs : List Mapping) → any (λ m. c && backs b m) xs ≡ (c && any (backs b) xs)
  any-fixed true b xs = refl
  any-fixed false b xs = any_none xs

  gone_had : (b : ℕ) → any (λ m. not (stays p ms m.backing) && backs b m) ms ≡ (not (stays p ms b) && any (backs b) ms)
  gone_had b = any-cong (λ m. not (stays p ms m.backing) && backs b m) (λ m. not (stays p ms b) && backs b m) ms (same-backing b) ∙ any-fixed (not (stays p ms b)) b ms

split : (had stay : Bool) (c : ℕ) → (stay ≡ true → had ≡ true) → only_if had c ≡ only_if stay c + only_if (not stay && had) c
split had true c h = rw (h refl) (omega arith)
split had false c h = omega arith

-- THE LAW: the charge before is the charge after and the pages of the backings of which every mapping was released
pub release-freed : (os : List Object) (info : ℕ → Backing) (ms : List Mapping) → Each (λ m. record_ok os m ≡ true) ms → Agree info ms → (p : Mapping → Bool)
    → charge ms ≡ charge (map (release p) ms) + freed p ms
unfolding charge freed
release-freed os info ms ok agree p =
    charge-info os info ms ok agree (λ m. true)
    ∙ sum_below-cong (λ k. only_if (any (backs (k + 1)) ms) (info_pages (info (k + 1)))) (λ k. only_if (any (backs (k + 1)) (map (release p) ms)) (info_pages (info (k + 1))) + only_if (any (λ m. not (stays p ms m.backing) && backs (k + 1) m) ms) (info_pages (info (k + 1)))) 128 (λ k h. one k)
    ∙ sum_below-add (λ k. only_if (any (backs (k + 1)) (map (release p) ms)) (info_pages (info (k + 1)))) (λ k. only_if (any (λ m. not (stays p ms m.backing) && backs (k + 1) m) ms) (info_pages (info (k + 1)))) 128
    ∙ sym (rw (charge-info os info (map (release p) ms) (release-records p os ms ok) (release-agree p info ms agree) (λ m. true), charge-info os info ms ok agree (λ m. not (stays p ms m.backing))) refl)
  where
    one : (k : ℕ) → only_if (any (backs (k + 1)) ms) (info_pages (info (k + 1))) ≡ only_if (any (backs (k + 1)) (map (release p) ms)) (info_pages (info (k + 1))) + only_if (any (λ m. not (stays p ms m.backing) && backs (k + 1) m) ms) (info_pages (info (k + 1)))
    one k = rw (after-stays p ms k, gone_had p ms (k + 1)) (split (any (backs (k + 1)) ms) (stays p ms (k + 1)) (info_pages (info (k + 1))) (stays-had p ms (k + 1)))

-- ---- by the edit: UNMAP's and DESTROY's

pub clear-freed : (t : Table) → good t ≡ true → (s : ℕ) (r : Range) → charge t.mappings ≡ charge (clear_inside t s r).mappings + freed (within s r) t.mappings
unfolding applied
clear-freed t g s r = let k = good-sound t g in release-freed t.objects k.info t.mappings k.records k.agree (within s r)

pub drop_freed : (t : Table) → good t ≡ true → (i : ℕ) → i < 32 → charge t.mappings ≡ charge (drop_space t i).mappings + freed (of_space (i + 1)) t.mappings
unfolding applied
drop_freed t g i h = let k = good-sound t g in rw (lt-leb 32 i h) (release-freed t.objects k.info t.mappings k.records k.agree (of_space (i + 1)))

-- an accepted UNMAP, in its bytes
pub unmap_freed : (t : Table) → good t ≡ true → (bytes : List ℕ) → (unmap_answer t bytes).result ≡ pos 0
    → charge t.mappings ≡ charge (unmap_answer t bytes).table.mappings + freed (within (field 4 bytes 4) (range_asked (field 8 bytes 8) (field 8 bytes 16))) t.mappings
unmap_freed t g bytes ok = rw (unmap_after t bytes ok) (clear-freed t g (field 4 bytes 4) (range_asked (field 8 bytes 8) (field 8 bytes 16)))

-- an accepted DESTROY of a space
pub destroy_freed : (t : Table) → good t ≡ true → (bytes : List ℕ) → (destroy_answer t bytes).result ≡ pos 0 → space_at t.objects (field 4 bytes 4) ≡ true
    → charge t.mappings ≡ charge (destroy_answer t bytes).table.mappings + freed (of_space (field 4 bytes 4)) t.mappings
unfolding destroy_answer destroy_edit outcome applied space_at
destroy_freed t g bytes ok space =
    let os = t.objects in
    let id = field 4 bytes 4 in
    let a = accepted t 0x3B80 bytes (destroy_edit os id) ok in
    let c = settled-zero (first (destroy_checks os id) 0) (accept 0 (removal (object_at os id).kind (id - 1)) free_object) a.errno in
    let p = object-slot os id (is-object os id c) in
    let z : suc p.0 - 1 ≡ p.0 = omega arith in
    let n : p.0 + 1 ≡ id = let y = p.1 in omega (arith, y) in
    let at : id - 1 ≡ p.0 = ap (λ (x : ℕ). x - 1) p.1 ∙ z in
    let is : settle (gate_errno t 0x3B80 bytes) (destroy_edit os id) ≡ accept 0 (removal Space p.0) free_object
    = a.same ∙ ap (λ (m : ℕ). settle m (accept 0 (removal (object_at os id).kind (id - 1)) free_object)) c ∙ ap (λ (i : ℕ). accept 0 (removal (object_at os id).kind i) free_object) at
    ∙ ap (λ (k : Kind). accept 0 (removal k p.0) free_object) (is-kind (object_at os id).kind space) in
    rw is (drop_freed t g p.0 (omega (arith, p.2, (good-sound t g).places)) ∙ ap (λ (x : ℕ). charge (drop_space t p.0).mappings + freed (of_space x) t.mappings) n)
