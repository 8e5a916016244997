-- IOAS_ALLOC and DESTROY: what the ledger is fed keeps it in step with the table.
use Prim.Native.Nat.{ℕ, suc, ◌+◌, ◌-◌, ◌<◌, ◌^◌}
use Rattle.std.specs.Prelude.{◌≡◌, Bool, pos, Option, None, Some}
use Rattle.std.proofs.Math.Path.{refl, ap}
use Rattle.std.proofs.Common.{sym, ◌∙◌, add-one}
use Rattle.std.proofs.Math.Bool.{true, false, cond}
use mathlib.Core.List.{List, [], ◌∷◌, map}
use native.Mathlib.Omega.{arith}
use Rattle.std.proofs.Math.Dec.{eqb}
use Rattle.std.proofs.Math.ListN as ListN
use Rattle.std.proofs.Math.ListN.{set}
use borrow.Author.Tests.{eqb-true, eqb-false, ne_eqb, lt-leb}
use Rattle.lists.specs.Tests.{by-test, contrary, only_if}
use Rattle.lists.specs.Each.{Each, Each-imp}
use Rattle.lists.specs.Sums.{sum_of-cong, sum_of-zero}
use Rattle.lists.specs.Update.{upd}
use Rattle.lists.specs.Checks.{first}
use Rattle.wire.specs.Fields.{field, field_put}
use Rattle.rules_calls.specs.declared.Command.TheVariants.{IoasAlloc}
use Rattle.rules_table.specs.declared.Kind.{Kind}
use Rattle.rules_table.specs.declared.Kind.TheVariants.{Free, Space, Device}
use Rattle.rules_table.specs.declared.Object.{Object}
use Rattle.rules_table.specs.declared.Mapping.{Mapping}
use Rattle.rules_table.specs.declared.Table.{Table}
use Rattle.rules_table.specs.Records.{free_object, new_space, is_free, is_space, object_at, space_at, used, of_space, release}
use Rattle.rules_table.specs.Charge.{free_record}
use Rattle.table.specs.Checked.{record_ok}
use Rattle.table.specs.Sound.{Sound}
use Rattle.table.specs.Facts.{record_used, record_free}
use Rattle.table.specs.Cleared.{release-false}
use Rattle.table.specs.Replaced.{space_at-set_same, space_at-set_other}
use Rattle.rules_calls.specs.declared.Change.TheVariants.{Put}
use Rattle.rules_calls.specs.declared.Edit.{Edit}
use Rattle.rules_calls.specs.Edits.{accept, settle, added, applied}
use Rattle.edits.specs.Parts.{put_object}
use Rattle.rules_calls.specs.Answers.{outcome, replied}
use Rattle.edits.specs.Kept.{free-slot}
use Rattle.rules_calls.specs.Objects.{alloc_checks, alloc_edit, destroy_checks, removal, destroy_edit}
use Rattle.rules_calls.specs.Named.{alloc_call, alloc_answer, alloc_bytes, destroy_answer}
use Rattle.laws_good.specs.SpaceKept.{is-object, object-slot}
use Rattle.rules_calls.specs.Gate.{gate_errno}
use Rattle.edits.specs.Gating.{gate-size}
use Rattle.laws_mapping.specs.Passed.{settled-zero}
use Rattle.laws_mapping.specs.Accepted.{Accepted, accepted}
use Rattle.rules_history.specs.Ledger.{Ledger, with_space, entry_of, without_space}
use Rattle.laws_history.specs.Rel.{view, bytes_in, Rel, Strike, rel_gone, bytes-other, live-some, pasts, older}
use Rattle.laws_history.specs.Steps.{two-spaces}

-- the live spaces, after an object record was written
live-put : (live : ℕ → Bool) (os : List Object) (i : ℕ) (n : Object) → i < ListN.length os → ((s : ℕ) → live s ≡ space_at os s) → (s : ℕ) → upd live (suc i) (is_space n.kind) s ≡ space_at (set os i n) s
live-put live os i n h a s = go (eqb s (suc i)) refl
  where
    go : (b : Bool) → eqb s (suc i) ≡ b → cond b (is_space n.kind) (live s) ≡ space_at (set os i n) s
    go true e = let z : s ≡ suc i = eqb-true s (suc i) e in sym (ap (space_at (set os i n)) z ∙ space_at-set_same os i n h)
    go false e = a s ∙ sym (space_at-set_other os i n s (eqb-false s (suc i) e))

-- no mapping is of an id that is no space
none_of : (os : List Object) (ms : List Mapping) (s : ℕ) → (s ≡ 0 → ⊥) → Each (λ m. record_ok os m ≡ true) ms → space_at os s ≡ false → Each (λ m. of_space s m ≡ false) ms
unfolding of_space
none_of os ms s ne ok e =
    Each-imp (λ m. record_ok os m ≡ true) (λ m. eqb m.space s ≡ false) ms
    (λ m k. by-test (used m)
    (λ u. ne_eqb m.space s (λ y. contrary (space_at os s) (sym (ap (space_at os) y) ∙ (record_used os m u k).names) e))
    (λ u. ne_eqb m.space s (λ y. ne (sym y ∙ ap (λ (x : Mapping). x.space) (record_free os m u k))))) ok

none-bytes : (s : ℕ) (ms : List Mapping) → Each (λ m. of_space s m ≡ false) ms → bytes_in s ms ≡ 0
unfolding bytes_in
none-bytes s ms h = sum_of-cong (λ m. only_if (of_space s m) m.length) (λ m. 0) ms (Each-imp (λ m. of_space s m ≡ false) (λ m. only_if (of_space s m) m.length ≡ 0) ms (λ m e. rw e) h) ∙ sum_of-zero ms

-- ---- IOAS_ALLOC

-- which record it took
pub record Allotted (t : Table) (bytes : List ℕ) : Type 0 where
  pub slot : ℕ
  pub free : free_record t.objects ≡ Some slot
  pub after : (alloc_answer t bytes).table ≡ put_object t slot new_space
  pub told : (alloc_call t bytes).value ≡ suc slot
  pub errno : (alloc_call t bytes).errno ≡ 0
  pub gate : gate_errno t 0x3B81 bytes ≡ 0

alloc-done : (t : Table) (bytes : List ℕ) → (alloc_answer t bytes).result ≡ pos 0 → Allotted t bytes
unfolding alloc_answer alloc_call alloc_edit outcome applied
alloc-done t bytes ok =
    let a = accepted t 0x3B81 bytes (alloc_edit t.objects (field 4 bytes 4)) ok in
    let c = settled-zero (first (alloc_checks t.objects (field 4 bytes 4)) 0) (added (free_record t.objects) new_space) a.errno in
    go a c (free_record t.objects) refl
  where
    go : Accepted t 0x3B81 bytes (alloc_edit t.objects (field 4 bytes 4)) → first (alloc_checks t.objects (field 4 bytes 4)) 0 ≡ 0 → (o : Option ℕ) → free_record t.objects ≡ o → Allotted t bytes
    go a c None f = absurd (omega (arith, sym (ap (λ (n : ℕ). (settle n (added (free_record t.objects) new_space)).errno) c ∙ ap (λ (o : Option ℕ). (added o new_space).errno) f) ∙ a.errno))
    go a c (Some i) f =
        let is : settle (gate_errno t 0x3B81 bytes) (alloc_edit t.objects (field 4 bytes 4)) ≡ accept (i + 1) (Put i) new_space
        = a.same ∙ ap (λ (n : ℕ). settle n (added (free_record t.objects) new_space)) c ∙ ap (λ (o : Option ℕ). added o new_space) f in
        record {
          slot = i;
          free = f;
          after = ap (applied t) is;
          told = ap (λ (e : Edit). e.value) is ∙ add-one i;
          errno = ap (λ (e : Edit). e.errno) is;
          gate = a.gate;
        }

-- the id that is read from the bytes
alloc-id : (t : Table) (bytes : List ℕ) (d : Allotted t bytes) → d.slot < 256 → field 4 (alloc_bytes t bytes) 8 ≡ suc d.slot
unfolding alloc_bytes replied
alloc-id t bytes d h =
    rw (d.errno, d.told)
    (field_put 4 bytes 8 (suc d.slot) (omega (arith, gate-size t IoasAlloc bytes (sym d.gate))) (let z : 256 ^ 4 ≡ 2 ^ 32 = refl in omega (arith, z)))

module _ (l : Ledger) (t : Table) (g : Sound t) (q : Rel l t) where
  -- a space in a free record: it has no bytes yet
  space-made : (i : ℕ) (written : List ℕ) → free_record t.objects ≡ Some i → field 4 written 8 ≡ suc i → Rel (with_space written l) (put_object t i new_space)
  unfolding applied
  space-made i written f w =
      let p = free-slot t.objects i f in
      rw w (record {
        who = q.who;
        weighs = q.weighs;
        apart = q.apart;
        known = q.known;
        past = pasts l q.past;
        lately = older l t q.who q.lately;
        spaces = live-put l.live t.objects i new_space p.0 q.spaces;
        bytes = λ s v. go p.1 s (eqb s (suc i)) refl v;
      })
    where
      go : space_at t.objects (suc i) ≡ false → (s : ℕ) (b : Bool) → eqb s (suc i) ≡ b → cond b true (l.live s) ≡ true → cond b 0 (l.accepted s) ≡ cond b 0 (l.removed s) + bytes_in s t.mappings
      go e s true f v =
          let z : s ≡ suc i = eqb-true s (suc i) f in
          let empty : bytes_in s t.mappings ≡ 0 = ap (λ (k : ℕ). bytes_in k t.mappings) z ∙ none-bytes (suc i) t.mappings (none_of t.objects t.mappings (suc i) (λ y. omega (arith, y)) g.records e) in
          omega (arith, empty)
      go e s false f v = q.bytes s v

  pub alloc-fed : (bytes : List ℕ) → (alloc_answer t bytes).result ≡ pos 0 → Rel (with_space (alloc_bytes t bytes) l) (alloc_answer t bytes).table
  alloc-fed bytes ok =
      let d = alloc-done t bytes ok in
      let p = free-slot t.objects d.slot d.free in
      rw d.after (space-made d.slot (alloc_bytes t bytes) d.free (alloc-id t bytes d (omega (arith, p.0, g.places))))

-- ---- DESTROY

of_entry : (s : ℕ) (who : ℕ → ℕ) (m : Mapping) → of_space s m ≡ entry_of s (view who m)
unfolding of_space entry_of
of_entry s who m = refl

destroy_strike : (s : ℕ) → Strike (of_space s) (entry_of s)
destroy_strike s = record { same = λ who m u. of_entry s who m }

-- where no mapping is of the space, nothing is released
release-none : (s : ℕ) (ms : List Mapping) → Each (λ m. of_space s m ≡ false) ms → ms ≡ map (release (of_space s)) ms
release-none s [] h = refl
release-none s (m ∷ ms) h = rw (release-false (of_space s) m h.0, ← release-none s ms h.1)

space_at-is : (os : List Object) (id : ℕ) → is_space (object_at os id).kind ≡ space_at os id
unfolding space_at
space_at-is os id = refl

module _ (l : Ledger) (t : Table) (g : Sound t) (q : Rel l t) where
  -- an object record is released, and the mappings of its id with it
  object-gone : (i : ℕ) (bytes : List ℕ) (v : Table) → i < ListN.length t.objects → field 4 bytes 4 ≡ suc i → v.objects ≡ set t.objects i free_object → v.mappings ≡ map (release (of_space (suc i))) t.mappings
      → Rel (without_space bytes l) v
  object-gone i bytes v h w eo em =
      rw w
      (rel_gone l t q (of_space (suc i)) (entry_of (suc i)) (destroy_strike (suc i)) (upd l.live (suc i) false) l.removed v em
      (λ s. live-put l.live t.objects i free_object h q.spaces s ∙ sym (ap (λ (os : List Object). space_at os s) eo))
      (λ s e. go s (eqb s (suc i)) refl e))
    where
      go : (s : ℕ) (b : Bool) → eqb s (suc i) ≡ b → cond b false (l.live s) ≡ true → l.accepted s ≡ l.removed s + bytes_in s (map (release (of_space (suc i))) t.mappings)
      go s true f e = contrary false e refl
      go s false f e = omega (arith, bytes-other (of_space (suc i)) s t.mappings (live-some l t q s e) (λ m y. two-spaces (suc i) s m (eqb-false s (suc i) f) y), q.bytes s e)

  -- by the kind of the object: a space with its mappings, a device that no mapping names
  gone_by : (k : Kind) (i : ℕ) (bytes : List ℕ) → is_free k ≡ false → is_space k ≡ space_at t.objects (suc i) → i < ListN.length t.objects → field 4 bytes 4 ≡ suc i → Rel (without_space bytes l) (applied t (accept 0 (removal k i) free_object))
  unfolding applied
  gone_by Free i bytes e s h w = contrary true refl e
  gone_by Space i bytes e s h w =
      rw (lt-leb 32 i (omega (arith, h, g.places)))
      (object-gone i bytes (record { limit = t.limit; objects = set t.objects i free_object; mappings = map (release (of_space (i + 1))) t.mappings }) h w refl (ap (λ (k : ℕ). map (release (of_space k)) t.mappings) (add-one i)))
  gone_by (Device a) i bytes e s h w =
      object-gone i bytes (record { limit = t.limit; objects = set t.objects i free_object; mappings = t.mappings }) h w refl
      (release-none (suc i) t.mappings (none_of t.objects t.mappings (suc i) (λ y. omega (arith, y)) g.records (sym s)))

  pub destroy_fed : (bytes : List ℕ) → (destroy_answer t bytes).result ≡ pos 0 → Rel (without_space bytes l) (destroy_answer t bytes).table
  unfolding destroy_answer destroy_edit outcome
  destroy_fed bytes ok =
      let os = t.objects in
      let id = field 4 bytes 4 in
      let a = accepted t 0x3B80 bytes (destroy_edit os id) ok in
      let c = settled-zero (first (destroy_checks os id) 0) (accept 0 (removal (object_at os id).kind (id - 1)) free_object) a.errno in
      let p = object-slot os id (is-object os id c) in
      let z : suc p.0 - 1 ≡ p.0 = omega arith in
      let at : id - 1 ≡ p.0 = ap (λ (x : ℕ). x - 1) p.1 ∙ z in
      let is : settle (gate_errno t 0x3B80 bytes) (destroy_edit os id) ≡ accept 0 (removal (object_at os id).kind p.0) free_object
      = a.same ∙ ap (λ (n : ℕ). settle n (accept 0 (removal (object_at os id).kind (id - 1)) free_object)) c ∙ ap (λ (i : ℕ). accept 0 (removal (object_at os id).kind i) free_object) at in
      rw is (gone_by (object_at os id).kind p.0 bytes (is-object os id c) (ap (λ (k : ℕ). is_space (object_at os k).kind) p.1 ∙ space_at-is os (suc p.0)) p.2 p.1)
