-- Ledger and table agree: for every weight of an entry, the entries of the ledger and the mappings of the table weigh the same. Addresses, bytes and charge are this relation
-- at a chosen weight. Then what each kind of change does to it: a call that changes nothing, a new mapping, mappings that go.
use Prim.Native.Nat.{ℕ, suc, ◌+◌, ◌<◌}
use Rattle.std.specs.Prelude.{◌≡◌, Bool, not, ◌&&◌, ◌||◌, List, [], ◌∷◌, map, ltb, get_or, set}
use Rattle.std.proofs.Math.Path.{refl, sym, ap}
use Rattle.std.proofs.Common.{subst, ◌∙◌}
use Rattle.std.proofs.Math.Bool.{true, false, cond}
use native.Mathlib.Omega.{arith}
use Rattle.std.proofs.Math.Dec.{eqb}
use Rattle.std.proofs.Math.ListN as ListN
use borrow.Author.Tests.{eqb-true, eqb-false, eq-eqb, ne_eqb}
use Rattle.lists.specs.Tests.{by-test, contrary, only_if, only_if-true, only_if-and, and_left, and_right, or_other}
use Rattle.lists.specs.Search.{any, any-mono, any-slot}
use Rattle.lists.specs.Each.{Each, Each-of, Each-imp, Each-zip, Each-at, Each-set, Each-map, Each-any_false}
use Rattle.lists.specs.Sums.{sum_of, sum_of-cong, sum_of-add, count_of, count_of-any, keep, sum_of-keep}
use Rattle.lists.specs.Update.{upd, upd_same, upd_other, any-map, sum_of-set, sum_of-map}
use Rattle.rules_table.specs.declared.Mapping.{Mapping}
use Rattle.rules_table.specs.declared.Table.{Table}
use Rattle.rules_table.specs.Records.{zero_mapping, used, of_space, object_at, space_at, release}
use Rattle.rules_table.specs.Charge.{backs, mapping_pages}
use Rattle.table.specs.Cleared.{release-true, release-false}
use Rattle.lists.specs.Ends.{any-stored}
use Rattle.rules_calls.specs.Edits.{applied}
use Rattle.edits.specs.Parts.{put_mapping}
use Rattle.rules_history.specs.Ledger.{Entry, Made, Ledger, tick}

-- a mapping as the ledger has it, where `who` tells the root of each backing number
abbrev pub view : (ℕ → ℕ) → Mapping → Entry
view who m = record { space = m.space; address = m.address; length = m.length; root = who m.backing; memory = m.memory; rights = m.rights }

-- the weight of the mappings
unfoldable pub weigh : (Entry → ℕ) → (ℕ → ℕ) → List Mapping → ℕ
weigh w who ms = sum_of (λ m. only_if (used m) (w (view who m))) ms

-- the pages of the accepted MAP with this number
unfoldable pub pages_by : ℕ → List Made → ℕ
pages_by n ms = sum_of (λ m. only_if (eqb m.number n) m.pages) ms

-- some mapping has the backing b
unfoldable pub had : ℕ → List Mapping → Bool
had b ms = any (λ m. used m && backs b m) ms

unfoldable pub bytes_in : ℕ → List Mapping → ℕ
bytes_in s ms = sum_of (λ m. only_if (of_space s m) m.length) ms

pub record Rel (l : Ledger) (t : Table) : Type 0 where
  pub who : ℕ → ℕ
  pub weighs : (w : Entry → ℕ) → sum_of w l.entries ≡ weigh w who t.mappings
  -- two backings that mappings have are of two founders
  pub apart : (b c : ℕ) → had b t.mappings ≡ true → had c t.mappings ≡ true → who b ≡ who c → b ≡ c
  -- a root is an accepted MAP, with the pages of the mapping
  pub known : Each (λ m. used m ≡ true → pages_by (who m.backing) l.made ≡ mapping_pages m) t.mappings
  pub past : Each (λ m. m.number < l.time) l.made
  pub lately : Each (λ m. used m ≡ true → who m.backing < l.time) t.mappings
  pub spaces : (s : ℕ) → l.live s ≡ space_at t.objects s
  -- bytes accepted are bytes removed and bytes there
  pub bytes : (s : ℕ) → l.live s ≡ true → l.accepted s ≡ l.removed s + bytes_in s t.mappings

-- how many entries pass a test is how many mappings do
pub counted : (l : Ledger) (t : Table) (q : Rel l t) (p : Entry → Bool) → count_of p l.entries ≡ count_of (λ x. used x && p (view q.who x)) t.mappings
unfolding count_of weigh
counted l t q p =
    q.weighs (λ e. only_if (p e) 1)
    ∙ sum_of-cong (λ x. only_if (used x) (only_if (p (view q.who x)) 1)) (λ x. only_if (used x && p (view q.who x)) 1) t.mappings
    (Each-of (λ x. only_if (used x) (only_if (p (view q.who x)) 1) ≡ only_if (used x && p (view q.who x)) 1) t.mappings (λ x. only_if-and (used x) (p (view q.who x)) 1))

-- a test holds of some entry exactly if it holds of some mapping
pub told-any : (l : Ledger) (t : Table) (q : Rel l t) (p : Entry → Bool) → any (λ x. used x && p (view q.who x)) t.mappings ≡ any p l.entries
told-any l t q p = sym (count_of-any (λ x. used x && p (view q.who x)) t.mappings) ∙ ap (λ (n : ℕ). ltb 0 n) (sym (counted l t q p)) ∙ count_of-any p l.entries

-- ---- nothing changes

pub older : (l : Ledger) (t : Table) (who : ℕ → ℕ) → Each (λ m. used m ≡ true → who m.backing < l.time) t.mappings → Each (λ m. used m ≡ true → who m.backing < suc l.time) t.mappings
older l t who h = Each-imp (λ m. used m ≡ true → who m.backing < l.time) (λ m. used m ≡ true → who m.backing < suc l.time) t.mappings (λ m k u. omega (arith, k u)) h

pub pasts : (l : Ledger) → Each (λ (m : Made). m.number < l.time) l.made → Each (λ (m : Made). m.number < suc l.time) l.made
pasts l h = Each-imp (λ (m : Made). m.number < l.time) (λ (m : Made). m.number < suc l.time) l.made (λ m k. omega (arith, k)) h

-- a call that leaves mappings and spaces as they are
pub rel_tick : (l : Ledger) (t u : Table) → Rel l t → u.mappings ≡ t.mappings → ((s : ℕ) → space_at u.objects s ≡ space_at t.objects s) → Rel (tick l) u
rel_tick l t u r e f = record {
  who = r.who;
  weighs = rw e r.weighs;
  apart = rw e r.apart;
  known = rw e r.known;
  past = pasts l r.past;
  lately = rw e (older l t r.who r.lately);
  spaces = λ s. r.spaces s ∙ sym (f s);
  bytes = rw e r.bytes;
}

-- ---- a new mapping in a released record

put-sum : (w : Mapping → ℕ) (ms : List Mapping) (i : ℕ) (m : Mapping) → i < ListN.length ms → get_or ms i zero_mapping ≡ zero_mapping → w zero_mapping ≡ 0 → sum_of w (set ms i m) ≡ sum_of w ms + w m
put-sum w ms i m h free z = let e : w (get_or ms i zero_mapping) ≡ 0 = ap w free ∙ z in omega (arith, e, sum_of-set w ms zero_mapping i m h)

-- what holds of the backing of each mapping holds of each backing that is had
pub had-of : (P : ℕ → Type 0) (ms : List Mapping) (b : ℕ) → Each (λ m. used m ≡ true → P m.backing) ms → had b ms ≡ true → P b
unfolding had backs
had-of P ms b h e =
    let w = any-slot (λ m. used m && eqb m.backing b) ms zero_mapping e in
    let m = get_or ms w.0 zero_mapping in
    subst P (eqb-true m.backing b (and_right (used m) (eqb m.backing b) w.2))
    (Each-at (λ m. used m ≡ true → P m.backing) ms zero_mapping w.0 w.1 h (and_left (used m) (eqb m.backing b) w.2))

pages-none : (n : ℕ) (ms : List Made) → Each (λ (m : Made). m.number < n) ms → pages_by n ms ≡ 0
unfolding pages_by sum_of
pages-none n [] h = refl
pages-none n (m ∷ ms) h = rw (ne_eqb m.number n (λ e. omega (arith, h.0, e))) (omega (arith, pages-none n ms h.1))

module _ (ms : List Mapping) (i : ℕ) (m : Mapping) (h : i < ListN.length ms) (free : get_or ms i zero_mapping ≡ zero_mapping) (u : used m ≡ true) where
  put-weigh : (w : Entry → ℕ) (who : ℕ → ℕ) → weigh w who (set ms i m) ≡ weigh w who ms + w (view who m)
  unfolding weigh used
  put-weigh w who = put-sum (λ x. only_if (used x) (w (view who x))) ms i m h free refl ∙ ap (λ (n : ℕ). sum_of (λ x. only_if (used x) (w (view who x))) ms + n) (only_if-true (used m) (w (view who m)) u)

  put-had : (b : ℕ) → had b (set ms i m) ≡ (eqb m.backing b || had b ms)
  unfolding had backs used
  put-had b =
      let e : (used m && eqb m.backing b) ≡ eqb m.backing b = rw u in
      any-stored (λ x. used x && eqb x.backing b) ms zero_mapping i m h (rw free refl) ∙ ap (λ (c : Bool). c || any (λ x. used x && eqb x.backing b) ms) e

  put-bytes : (s : ℕ) → (s ≡ 0 → ⊥) → bytes_in s (set ms i m) ≡ bytes_in s ms + only_if (eqb m.space s) m.length
  unfolding bytes_in of_space
  put-bytes s ne = put-sum (λ x. only_if (eqb x.space s) x.length) ms i m h free (rw (ne_eqb 0 s (λ e. ne (sym e))))

-- a mapping with these fields, as the ledger has it
abbrev entry_for : Mapping → ℕ → Entry
entry_for m n = record { space = m.space; address = m.address; length = m.length; root = n; memory = m.memory; rights = m.rights }

-- no space has the id 0
space-zero : (t : Table) → space_at t.objects 0 ≡ false
unfolding space_at object_at
space-zero t = refl

pub live-some : (l : Ledger) (t : Table) → Rel l t → (s : ℕ) → l.live s ≡ true → s ≡ 0 → ⊥
live-some l t q s e z = contrary (space_at t.objects s) (sym (q.spaces s) ∙ e) (ap (space_at t.objects) z ∙ space-zero t)

-- bytes of each space, after one more mapping
module _ (l : Ledger) (t : Table) (q : Rel l t) (i : ℕ) (m : Mapping) (h : i < ListN.length t.mappings) (free : get_or t.mappings i zero_mapping ≡ zero_mapping) (u : used m ≡ true) where
  put-accepted : (s : ℕ) → l.live s ≡ true → upd l.accepted m.space (l.accepted m.space + m.length) s ≡ l.removed s + bytes_in s (set t.mappings i m)
  put-accepted s e = rw (put-bytes t.mappings i m h free u s (live-some l t q s e)) (go (eqb s m.space) refl)
    where
      go : (b : Bool) → eqb s m.space ≡ b → cond b (l.accepted m.space + m.length) (l.accepted s) ≡ l.removed s + (bytes_in s t.mappings + only_if (eqb m.space s) m.length)
      go true x =
          let es : s ≡ m.space = eqb-true s m.space x in
          rw (eq-eqb m.space s (sym es)) (omega (arith, q.bytes s e, ap l.accepted es))
      go false x = rw (ne_eqb m.space s (λ y. eqb-false s m.space x (sym y))) (omega (arith, q.bytes s e))

-- MAP: a backing that no mapping has, founded by this call
module _ (l : Ledger) (t : Table) (q : Rel l t) (i : ℕ) (m : Mapping) (h : i < ListN.length t.mappings) (free : get_or t.mappings i zero_mapping ≡ zero_mapping) (u : used m ≡ true)
    (new : had m.backing t.mappings ≡ false) where
  who' : ℕ → ℕ
  who' = upd q.who m.backing l.time

  unlike : Each (λ x. used x ≡ true → eqb x.backing m.backing ≡ false) t.mappings
  unfolding had backs
  unlike =
      Each-imp (λ x. (used x && eqb x.backing m.backing) ≡ false) (λ x. used x ≡ true → eqb x.backing m.backing ≡ false) t.mappings (λ x e v. sym (rw v) ∙ e)
      (Each-any_false (λ x. used x && eqb x.backing m.backing) t.mappings new)

  same-weigh : (w : Entry → ℕ) → weigh w q.who t.mappings ≡ weigh w who' t.mappings
  unfolding weigh who'
  same-weigh w =
      sum_of-cong (λ x. only_if (used x) (w (view q.who x))) (λ x. only_if (used x) (w (view who' x))) t.mappings
      (Each-imp (λ x. used x ≡ true → eqb x.backing m.backing ≡ false) (λ x. only_if (used x) (w (view q.who x)) ≡ only_if (used x) (w (view who' x))) t.mappings
      (λ x e. by-test (used x) (λ v. rw (v, upd_other q.who m.backing l.time x.backing (e v))) (λ v. rw v)) unlike)

  new_weighs : (w : Entry → ℕ) → sum_of w (entry_for m l.time ∷ l.entries) ≡ weigh w who' (set t.mappings i m)
  unfolding sum_of who'
  new_weighs w =
      let own : who' m.backing ≡ l.time = upd_same q.who m.backing l.time in
      let told : w (view who' m) ≡ w (entry_for m l.time) = ap (λ (n : ℕ). w (entry_for m n)) own in
      omega (arith, put-weigh t.mappings i m h free u w who', same-weigh w, q.weighs w, told)

  was : (x : ℕ) → had x (set t.mappings i m) ≡ true → eqb x m.backing ≡ false → had x t.mappings ≡ true
  was x e n = or_other (eqb m.backing x) (had x t.mappings) (sym (put-had t.mappings i m h free u x) ∙ e) (ne_eqb m.backing x (λ z. eqb-false x m.backing n (sym z)))

  new_apart : (b c : ℕ) → had b (set t.mappings i m) ≡ true → had c (set t.mappings i m) ≡ true → who' b ≡ who' c → b ≡ c
  unfolding who'
  new_apart b c hb hc e = go (eqb b m.backing) (eqb c m.backing) refl refl e
    where
      go : (x y : Bool) → eqb b m.backing ≡ x → eqb c m.backing ≡ y → cond x l.time (q.who b) ≡ cond y l.time (q.who c) → b ≡ c
      go true true p s k = eqb-true b m.backing p ∙ sym (eqb-true c m.backing s)
      go true false p s k = absurd (omega (arith, k, had-of (λ x. q.who x < l.time) t.mappings c q.lately (was c hc s)))
      go false true p s k = absurd (omega (arith, k, had-of (λ x. q.who x < l.time) t.mappings b q.lately (was b hb p)))
      go false false p s k = q.apart b c (was b hb p) (was c hc s) k

  new_known : Each (λ x. used x ≡ true → pages_by (who' x.backing) (record { number = l.time; pages = mapping_pages m } ∷ l.made) ≡ mapping_pages x) (set t.mappings i m)
  unfolding who' pages_by sum_of
  new_known =
      Each-set (λ x. used x ≡ true → pages_by (who' x.backing) (record { number = l.time; pages = mapping_pages m } ∷ l.made) ≡ mapping_pages x) t.mappings i m
      (λ v.
      let e : who' m.backing ≡ l.time = upd_same q.who m.backing l.time in
      ap (λ w. pages_by w (record { number = l.time; pages = mapping_pages m } ∷ l.made)) e ∙ rw (eq-eqb l.time l.time refl) (omega (arith, pages-none l.time l.made q.past)))
      (Each-zip (λ x. used x ≡ true → pages_by (q.who x.backing) l.made ≡ mapping_pages x) (λ x. used x ≡ true → (eqb x.backing m.backing ≡ false) × (q.who x.backing < l.time))
      (λ x. used x ≡ true → pages_by (who' x.backing) (record { number = l.time; pages = mapping_pages m } ∷ l.made) ≡ mapping_pages x) t.mappings (λ x k e v. old x (k v) (e v).0 (e v).1) q.known
      (Each-zip (λ x. used x ≡ true → eqb x.backing m.backing ≡ false) (λ x. used x ≡ true → q.who x.backing < l.time) (λ x. used x ≡ true → (eqb x.backing m.backing ≡ false) × (q.who x.backing < l.time)) t.mappings
      (λ x a b v. (a v, b v)) unlike q.lately))
    where
      old : (x : Mapping) → pages_by (q.who x.backing) l.made ≡ mapping_pages x → eqb x.backing m.backing ≡ false → q.who x.backing < l.time
          → pages_by (who' x.backing) (record { number = l.time; pages = mapping_pages m } ∷ l.made) ≡ mapping_pages x
      old x k n b =
          let e : who' x.backing ≡ q.who x.backing = upd_other q.who m.backing l.time x.backing n in
          ap (λ w. pages_by w (record { number = l.time; pages = mapping_pages m } ∷ l.made)) e ∙ rw (ne_eqb l.time (q.who x.backing) (λ e. omega (arith, e))) (omega (arith, k))

  new_lately : Each (λ x. used x ≡ true → who' x.backing < suc l.time) (set t.mappings i m)
  unfolding who'
  new_lately =
      Each-set (λ x. used x ≡ true → who' x.backing < suc l.time) t.mappings i m
      (λ v. rw (upd_same q.who m.backing l.time) (omega arith))
      (Each-zip (λ x. used x ≡ true → q.who x.backing < l.time) (λ x. used x ≡ true → eqb x.backing m.backing ≡ false) (λ x. used x ≡ true → who' x.backing < suc l.time) t.mappings
      (λ x a e v. rw (upd_other q.who m.backing l.time x.backing (e v)) (omega (arith, a v))) q.lately unlike)

  pub rel_new : Rel (record {
    entries = entry_for m l.time ∷ l.entries;
    made = record { number = l.time; pages = mapping_pages m } ∷ l.made;
    time = suc l.time;
    live = l.live;
    accepted = upd l.accepted m.space (l.accepted m.space + m.length);
    removed = l.removed;
  }) (put_mapping t i m)
  unfolding applied
  rel_new = record {
    who = who';
    weighs = new_weighs;
    apart = new_apart;
    known = new_known;
    past = (omega arith, pasts l q.past);
    lately = new_lately;
    spaces = q.spaces;
    bytes = λ s e. put-accepted l t q i m h free u s e;
  }

-- COPY: a backing that a mapping has
module _ (l : Ledger) (t : Table) (q : Rel l t) (i : ℕ) (m : Mapping) (h : i < ListN.length t.mappings) (free : get_or t.mappings i zero_mapping ≡ zero_mapping) (u : used m ≡ true)
    (old : had m.backing t.mappings ≡ true) (like : pages_by (q.who m.backing) l.made ≡ mapping_pages m) where
  still : (x : ℕ) → had x (set t.mappings i m) ≡ true → had x t.mappings ≡ true
  still x e =
      by-test (eqb m.backing x)
      (λ y. ap (λ (b : ℕ). had b t.mappings) (sym (eqb-true m.backing x y)) ∙ old)
      (λ y. or_other (eqb m.backing x) (had x t.mappings) (sym (put-had t.mappings i m h free u x) ∙ e) y)

  more-weighs : (w : Entry → ℕ) → sum_of w (entry_for m (q.who m.backing) ∷ l.entries) ≡ weigh w q.who (set t.mappings i m)
  unfolding sum_of
  more-weighs w = omega (arith, put-weigh t.mappings i m h free u w q.who, q.weighs w)

  pub rel_more : Rel (record {
    entries = entry_for m (q.who m.backing) ∷ l.entries;
    made = l.made;
    time = suc l.time;
    live = l.live;
    accepted = upd l.accepted m.space (l.accepted m.space + m.length);
    removed = l.removed;
  }) (put_mapping t i m)
  unfolding applied
  rel_more = record {
    who = q.who;
    weighs = more-weighs;
    apart = λ b c hb hc e. q.apart b c (still b hb) (still c hc) e;
    known = Each-set (λ x. used x ≡ true → pages_by (q.who x.backing) l.made ≡ mapping_pages x) t.mappings i m (λ v. like) q.known;
    past = pasts l q.past;
    lately = Each-set (λ x. used x ≡ true → q.who x.backing < suc l.time) t.mappings i m (λ v. omega (arith, had-of (λ x. q.who x < l.time) t.mappings m.backing q.lately old)) (older l t q.who q.lately);
    spaces = q.spaces;
    bytes = λ s e. put-accepted l t q i m h free u s e;
  }

-- ---- mappings that go: the ledger strikes by a test of the entry, the table by the same test of the mapping

pub record Strike (p : Mapping → Bool) (e : Entry → Bool) : Type 0 where
  pub same : (who : ℕ → ℕ) (m : Mapping) → used m ≡ true → p m ≡ e (view who m)

pub clear-sum : (p : Mapping → Bool) (w : Mapping → ℕ) (ms : List Mapping) → w zero_mapping ≡ 0 → sum_of w (map (release p) ms) ≡ sum_of (λ m. only_if (not (p m)) (w m)) ms
clear-sum p w ms z =
    sum_of-map w (release p) ms
    ∙ sum_of-cong (λ m. w (release p m)) (λ m. only_if (not (p m)) (w m)) ms
    (Each-of (λ m. w (release p m) ≡ only_if (not (p m)) (w m)) ms (λ m. by-test (p m) (λ e. rw (release-true p m e, e) z) (λ e. rw (release-false p m e, e))))

only_if-none : (b : Bool) → only_if b 0 ≡ 0
only_if-none true = refl
only_if-none false = refl

clear-each : (P : Mapping → Type 0) (p : Mapping → Bool) (ms : List Mapping) → Each (λ m. used m ≡ true → P m) ms → Each (λ m. used m ≡ true → P m) (map (release p) ms)
unfolding used
clear-each P p ms h =
    Each-map (λ m. used m ≡ true → P m) (λ m. used m ≡ true → P m) (release p) ms
    (λ m k. by-test (p m) (λ e. rw (release-true p m e) (λ v. contrary false v refl)) (λ e. rw (release-false p m e) k)) h

module _ (l : Ledger) (t : Table) (q : Rel l t) (p : Mapping → Bool) (e : Entry → Bool) (k : Strike p e) where
  clear-weigh : (w : Entry → ℕ) → weigh w q.who (map (release p) t.mappings) ≡ weigh (λ x. only_if (not (e x)) (w x)) q.who t.mappings
  unfolding weigh used
  clear-weigh w =
      clear-sum p (λ m. only_if (used m) (w (view q.who m))) t.mappings refl
      ∙ sum_of-cong (λ m. only_if (not (p m)) (only_if (used m) (w (view q.who m)))) (λ m. only_if (used m) (only_if (not (e (view q.who m))) (w (view q.who m)))) t.mappings
      (Each-of (λ m. only_if (not (p m)) (only_if (used m) (w (view q.who m))) ≡ only_if (used m) (only_if (not (e (view q.who m))) (w (view q.who m)))) t.mappings
      (λ m. by-test (used m) (λ v. rw (v, k.same q.who m v)) (λ v. rw v (only_if-none (not (p m))))))

  gone_weighs : (w : Entry → ℕ) → sum_of w (keep (λ x. not (e x)) l.entries) ≡ weigh w q.who (map (release p) t.mappings)
  gone_weighs w = sum_of-keep w (λ x. not (e x)) l.entries ∙ q.weighs (λ x. only_if (not (e x)) (w x)) ∙ sym (clear-weigh w)

  gone_had : (b : ℕ) → had b (map (release p) t.mappings) ≡ true → had b t.mappings ≡ true
  unfolding had used backs
  gone_had b h =
      any-mono (λ m. used (release p m) && eqb (release p m).backing b) (λ m. used m && eqb m.backing b) t.mappings
      (λ m v. by-test (p m) (λ y. contrary false (sym (rw (release-true p m y)) ∙ v) refl) (λ y. sym (rw (release-false p m y)) ∙ v))
      (sym (any-map (λ m. used m && eqb m.backing b) (release p) t.mappings) ∙ h)

  gone_known : Each (λ m. used m ≡ true → pages_by (q.who m.backing) l.made ≡ mapping_pages m) (map (release p) t.mappings)
  gone_known = clear-each (λ m. pages_by (q.who m.backing) l.made ≡ mapping_pages m) p t.mappings q.known

  gone_lately : Each (λ m. used m ≡ true → q.who m.backing < suc l.time) (map (release p) t.mappings)
  gone_lately = clear-each (λ m. q.who m.backing < suc l.time) p t.mappings (older l t q.who q.lately)

  -- the ledger without what is struck, and a table whose mappings are those that are left
  pub rel_gone : (live : ℕ → Bool) (removed : ℕ → ℕ) (v : Table) → v.mappings ≡ map (release p) t.mappings → ((s : ℕ) → live s ≡ space_at v.objects s)
      → ((s : ℕ) → live s ≡ true → l.accepted s ≡ removed s + bytes_in s (map (release p) t.mappings))
      → Rel (record { entries = keep (λ x. not (e x)) l.entries; made = l.made; time = suc l.time; live = live; accepted = l.accepted; removed = removed }) v
  rel_gone live removed v f spaces bytes = record {
    who = q.who;
    weighs = rw f gone_weighs;
    apart = rw f (λ b c hb hc x. q.apart b c (gone_had b hb) (gone_had c hc) x);
    known = rw f gone_known;
    past = pasts l q.past;
    lately = rw f gone_lately;
    spaces = spaces;
    bytes = rw f bytes;
  }

-- bytes of a space that loses nothing
pub bytes-other : (p : Mapping → Bool) (s : ℕ) (ms : List Mapping) → (s ≡ 0 → ⊥) → ((m : Mapping) → p m ≡ true → of_space s m ≡ false) → bytes_in s (map (release p) ms) ≡ bytes_in s ms
unfolding bytes_in of_space
bytes-other p s ms ne h =
    clear-sum p (λ m. only_if (eqb m.space s) m.length) ms (rw (ne_eqb 0 s (λ z. ne (sym z))))
    ∙ sum_of-cong (λ m. only_if (not (p m)) (only_if (eqb m.space s) m.length)) (λ m. only_if (eqb m.space s) m.length) ms
    (Each-of (λ m. only_if (not (p m)) (only_if (eqb m.space s) m.length) ≡ only_if (eqb m.space s) m.length) ms (λ m. by-test (p m) (λ y. rw (y, h m y)) (λ y. rw y)))

-- and of the space that they are all of
pub bytes-own : (p : Mapping → Bool) (s : ℕ) (ms : List Mapping) → (s ≡ 0 → ⊥) → ((m : Mapping) → p m ≡ true → of_space s m ≡ true)
    → sum_of (λ (m : Mapping). m.length) (keep p ms) + bytes_in s (map (release p) ms) ≡ bytes_in s ms
unfolding bytes_in of_space
bytes-own p s ms ne h =
    let left = clear-sum p (λ m. only_if (eqb m.space s) m.length) ms (rw (ne_eqb 0 s (λ z. ne (sym z)))) in
    let gone = sum_of-keep (λ (m : Mapping). m.length) p ms in
    let both = sum_of-add (λ (m : Mapping). only_if (p m) m.length) (λ m. only_if (not (p m)) (only_if (eqb m.space s) m.length)) ms in
    let all = sum_of-cong (λ (m : Mapping). only_if (p m) m.length + only_if (not (p m)) (only_if (eqb m.space s) m.length)) (λ m. only_if (eqb m.space s) m.length) ms (Each-of _ ms each) in
    omega (arith, left, gone, both, all)
  where
    each : (m : Mapping) → only_if (p m) m.length + only_if (not (p m)) (only_if (eqb m.space s) m.length) ≡ only_if (eqb m.space s) m.length
    each m = by-test (p m) (λ y. rw (y, h m y) (omega arith)) (λ y. rw y (omega arith))
