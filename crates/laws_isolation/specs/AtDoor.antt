-- Answering alike, at the door; and that tables which agree literally on a space are alike.
use Rattle.std.specs.Prelude.{ℕ, ◌≡◌, true, not, List, map, eqb}
use Rattle.std.proofs.Math.Path.{refl}
use Rattle.std.proofs.Common.{sym, ap, ◌∙◌}
use borrow.Author.Tests.{ne_eqb}
use Rattle.lists.specs.Tests.{by-test, only_if}
use Rattle.lists.specs.Each.{Each-of}
use Rattle.lists.specs.Sums.{sum_of-cong, count_of}
use Rattle.lists.specs.Update.{sum_of-map}
use Rattle.ranges.specs.declared.Range.{Range}
use Rattle.rangelists.specs.Listed.{reserved, allowed}
use Rattle.wire.specs.Fields.{field}
use Rattle.rules_table.specs.declared.Object.{Object}
use Rattle.rules_table.specs.declared.Mapping.{Mapping}
use Rattle.rules_table.specs.declared.Table.{Table}
use Rattle.rules_table.specs.Records.{space_at, is_space, attached_to, used, of_space}
use Rattle.rules_table.specs.Charge.{charge}
use Rattle.rules_table.specs.Good.{good}
use Rattle.rules_table.specs.Untouched.{only_of, only_at, Untouched}
use Rattle.rules_calls.specs.Answers.{outcome}
use Rattle.rules_calls.specs.Call.{Done, call_done}
use Rattle.rules_calls.specs.Named.{map_answer, map_bytes, unmap_answer, unmap_bytes, allow_answer, ranges_result, ranges_reply, ranges_written}
use Rattle.rules_history.specs.Alike.{Shape, shape, mappings_weigh, devices_weigh, Alike}
use Rattle.laws_isolation.specs.Isolated.{map_alike, unmap_alike, allow-alike, ranges-alike}

-- result, command bytes and range area are the same
abbrev pub SameAnswer : Done → Done → Type 0
SameAnswer d e = (d.answer.result ≡ e.answer.result) × (d.bytes ≡ e.bytes) × (d.area ≡ e.area)

module _ (t u : Table) (gt : good t ≡ true) (gu : good u ≡ true) (bytes area : List ℕ) where
  pub door-map : Alike (field 4 bytes 8) t u → SameAnswer (call_done t 0x3B85 bytes area) (call_done u 0x3B85 bytes area)
  unfolding call_done map_answer map_bytes
  door-map a = let q = map_alike t u gt gu bytes a in (q.0, q.1, refl)

  module _ (a : Alike (field 4 bytes 4) t u) where
    pub door-unmap : SameAnswer (call_done t 0x3B86 bytes area) (call_done u 0x3B86 bytes area)
    unfolding call_done unmap_answer unmap_bytes
    door-unmap = let q = unmap_alike t u gt gu bytes a in (q.0, q.1, refl)

    pub door-allow : SameAnswer (call_done t 0x3B82 bytes area) (call_done u 0x3B82 bytes area)
    unfolding call_done allow_answer
    door-allow = (allow-alike t u gt gu bytes a area, refl, refl)

    pub door-ranges : SameAnswer (call_done t 0x3B84 bytes area) (call_done u 0x3B84 bytes area)
    unfolding call_done ranges_result ranges_reply ranges_written outcome
    door-ranges = ranges-alike t u gt gu bytes a area

-- the mappings of a space weigh what they weigh among themselves
module _ (s : ℕ) (ne : s ≡ 0 → ⊥) where
  only-weigh : (w : Shape → ℕ) (ms : List Mapping) → mappings_weigh w s (map (only_of s) ms) ≡ mappings_weigh w s ms
  unfolding mappings_weigh only_of of_space
  only-weigh w ms =
      sum_of-map (λ (m : Mapping). only_if (of_space s m) (w (shape m))) (only_of s) ms
      ∙ sum_of-cong (λ (m : Mapping). only_if (of_space s (only_of s m)) (w (shape (only_of s m)))) (λ (m : Mapping). only_if (of_space s m) (w (shape m))) ms (Each-of _ ms one)
    where
      one : (m : Mapping) → only_if (of_space s (only_of s m)) (w (shape (only_of s m))) ≡ only_if (of_space s m) (w (shape m))
      one m = by-test (eqb m.space s) (λ e. rw e (rw e)) (λ e. rw (e, ne_eqb 0 s (λ z. ne (sym z))))

devices-weigh : (s : ℕ) (w : ℕ → List Range → ℕ) (os : List Object) → devices_weigh w s (map (only_at s) os) ≡ devices_weigh w s os
unfolding devices_weigh only_at
devices-weigh s w os =
    sum_of-map (λ (o : Object). only_if (attached_to s o.kind) (w o.bitmap (reserved o.reserved))) (only_at s) os
    ∙ sum_of-cong (λ (o : Object). only_if (attached_to s (only_at s o).kind) (w (only_at s o).bitmap (reserved (only_at s o).reserved))) (λ (o : Object). only_if (attached_to s o.kind) (w o.bitmap (reserved o.reserved))) os (Each-of _ os one)
  where
    one : (o : Object) → only_if (attached_to s (only_at s o).kind) (w (only_at s o).bitmap (reserved (only_at s o).reserved)) ≡ only_if (attached_to s o.kind) (w o.bitmap (reserved o.reserved))
    one o = by-test (attached_to s o.kind) (λ e. rw e (rw e)) (λ e. rw e)

-- tables that agree literally on the space are alike
pub agree-alike : (s : ℕ) (t u : Table) → (s ≡ 0 → ⊥) → Untouched s t u → t.limit ≡ u.limit → charge t.mappings ≡ charge u.mappings
    → count_of (λ m. not (used m)) t.mappings ≡ count_of (λ m. not (used m)) u.mappings → Alike s t u
unfolding space_at
agree-alike s t u ne q l c f = record {
  space = ap (λ (o : Object). is_space o.kind) (sym q.itself);
  allow = ap (λ (o : Object). allowed o.allow) (sym q.itself);
  mappings = λ w. sym (only-weigh s ne w t.mappings) ∙ ap (mappings_weigh w s) (sym q.mappings) ∙ only-weigh s ne w u.mappings;
  devices = λ w. sym (devices-weigh s w t.objects) ∙ ap (devices_weigh w s) (sym q.devices) ∙ devices-weigh s w u.objects;
  limit = l;
  charge = c;
  free = f;
}
