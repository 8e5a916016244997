-- Laws of what an edit leaves untouched: an object that is replaced, mappings that are released, a new object in a free record.
use Rattle.std.specs.Prelude.{ℕ, zero, suc, ◌+◌, ◌≡◌, refl, Bool, true, false, List, [], ◌∷◌, map, leb, eqb, get_or, Option, None, Some}
use Rattle.std.proofs.Common.{sym, ◌∙◌, add-one, eqb-true}
use Rattle.std.proofs.Math.Seq.{map-set_same}
use Rattle.lists.specs.Tests.{by-test, contrary}
use Rattle.rules_table.specs.declared.Object.{Object}
use Rattle.rules_table.specs.declared.Mapping.{Mapping}
use Rattle.rules_table.specs.declared.Table.{Table}
use Rattle.rules_table.specs.Records.{free_object, space_at, attached_to, of_space, release}
use Rattle.rules_table.specs.Charge.{free_record}
use Rattle.table.specs.Cleared.{release-true, release-false}
use Rattle.table.specs.Sound.{Sound}
use Rattle.table.specs.Replaced.{object_at-set_other}
use Rattle.rules_calls.specs.declared.Edit.{Edit}
use Rattle.rules_calls.specs.Edits.{settle, added, applied}
use Rattle.edits.specs.Parts.{put_object, drop_space}
use Rattle.edits.specs.Kept.{free-slot}
use Rattle.rules_table.specs.Untouched.{only_of, only_at, Untouched}

pub untouched-same : (s : ℕ) (t : Table) → Untouched s t t
untouched-same s t = record { mappings = refl; itself = refl; devices = refl }

pub settle-untouched : (s : ℕ) (t : Table) (n : ℕ) (e : Edit) → (n ≡ 0 → Untouched s t (applied t e)) → Untouched s t (applied t (settle n e))
unfolding applied
settle-untouched s t zero e h = h refl
settle-untouched s t (suc n) e h = untouched-same s t

-- an object is replaced that is neither the space nor attached to it, before and after
pub put-untouched : (s : ℕ) (t : Table) (i : ℕ) (n : Object) → (s ≡ suc i → ⊥) → attached_to s (get_or t.objects i free_object).kind ≡ false → attached_to s n.kind ≡ false → Untouched s t (put_object t i n)
unfolding applied only_at
put-untouched s t i n ne old new = record {
  mappings = refl;
  itself = object_at-set_other t.objects i n s ne;
  devices = map-set_same (only_at s) t.objects i n free_object (rw (old, new));
}

-- only mappings of another space are released
release-only_of : (s k : ℕ) (p : Mapping → Bool) (m : Mapping) → (s ≡ k → ⊥) → (p m ≡ true → m.space ≡ k) → only_of s (release p m) ≡ only_of s m
unfolding only_of of_space
release-only_of s k p m ne h =
    by-test (p m)
    (λ e. rw (release-true p m e) (by-test (eqb m.space s) (λ f. absurd (ne (sym (eqb-true m.space s f) ∙ h e))) (λ f. rw f (by-test (eqb 0 s) (λ z. rw z) (λ z. rw z)))))
    (λ e. rw (release-false p m e))

pub map_only_of : (s k : ℕ) (p : Mapping → Bool) (ms : List Mapping) → (s ≡ k → ⊥) → ((m : Mapping) → p m ≡ true → m.space ≡ k) → map (only_of s) (map (release p) ms) ≡ map (only_of s) ms
map_only_of s k p [] ne h = refl
map_only_of s k p (m ∷ ms) ne h = rw (release-only_of s k p m ne (h m), map_only_of s k p ms ne h)

of_space-is : (k : ℕ) (m : Mapping) → of_space k m ≡ true → m.space ≡ k
unfolding of_space
of_space-is k m e = eqb-true m.space k e

pub drop_untouched : (s : ℕ) (t : Table) (i : ℕ) → (s ≡ suc i → ⊥) → attached_to s (get_or t.objects i free_object).kind ≡ false → Untouched s t (drop_space t i)
unfolding applied only_at
drop_untouched s t i ne old = record {
  mappings = by-test (leb 32 i) (λ e. rw e) (λ e. rw e (map_only_of s (i + 1) (of_space (i + 1)) t.mappings (λ q. ne (q ∙ add-one i)) (of_space-is (i + 1))));
  itself = object_at-set_other t.objects i free_object s ne;
  devices = map-set_same (only_at s) t.objects i free_object free_object (rw old);
}

-- a new object takes a free record
pub added-untouched : (s : ℕ) (t : Table) (n : Object) → Sound t → space_at t.objects s ≡ true → attached_to s n.kind ≡ false → Untouched s t (applied t (added (free_record t.objects) n))
unfolding applied
added-untouched s t n g space new = go (free_record t.objects) refl
  where
    go : (o : Option ℕ) → free_record t.objects ≡ o → Untouched s t (applied t (added o n))
    go None e = untouched-same s t
    go (Some i) e =
        let p = free-slot t.objects i e in
        put-untouched s t i n (λ q. contrary (space_at t.objects (suc i)) (rw (← q) space) p.1) (p.2 s) new
