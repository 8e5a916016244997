-- The mapping that MAP or COPY makes keeps every rule of a mapping, and takes a released record.
use Rattle.std.specs.Prelude.{ℕ, ◌+◌, ◌≤◌, ◌<◌, ◌≡◌, refl, Bool, false, ◌&&◌, ◌||◌, List, [], ◌∷◌, get_or, Option, None, Some}
use Rattle.std.proofs.Common.{sym, ap, subst, ◌∙◌, arith}
use Rattle.std.proofs.Math.Bool.{true, not}
use Rattle.std.proofs.Math.Dec.{eqb}
use Rattle.std.proofs.Math.ListN as ListN
use borrow.Author.Tests.{eqb-true, ne_eqb, not-true}
use Rattle.lists.specs.Tests.{by-test, contrary, only_if, and_left, and_right}
use Rattle.lists.specs.Search.{any, find, find-some, find-some_any, find-cons_true, find-cons_false, seek-some_lt, seek-some_at}
use Rattle.lists.specs.Each.{Each, Each-at}
use Rattle.lists.specs.Below.{lowest-some}
use Rattle.ranges.specs.Ranges.{passes}
use Rattle.rules_table.specs.Flags.{bit}
use Rattle.rules_table.specs.declared.Object.{Object}
use Rattle.rules_table.specs.declared.Mapping.{Mapping}
use Rattle.rules_table.specs.Records.{zero_mapping, space_at, used, of_space, extent, touches, can_write}
use Rattle.rules_table.specs.Charge.{backs, free_mapping, free_backing}
use Rattle.table.specs.Checked.{record_ok}
use Rattle.table.specs.Sound.{Backing, Shares, Agree}
use Rattle.table.specs.Facts.{UsedOk, record_used, record_free}
use Rattle.table.specs.Charged.{backs-of}
use Rattle.edits.specs.Settled.{space-id}
use Rattle.rules_calls.specs.Copy.{is_source, source_of, source_mapping, copy_of}
use Rattle.rules_calls.specs.Landing.{taken}
use Rattle.landing.specs.Landed.{Landed}
use Rattle.rules_calls.specs.Map.{rights_of, found_of}
use Rattle.laws_mapping.specs.Passed.{Wanted}
use Rattle.rules_calls.specs.Edits.{is_none}

-- ---- the record and the backing number that a new mapping takes

-- the lowest free record lies in the table and is all zero
pub free-record : (os : List Object) (ms : List Mapping) (i : ℕ) → Each (λ m. record_ok os m ≡ true) ms → free_mapping ms ≡ Some i → (i < ListN.length ms) × (get_or ms i zero_mapping ≡ zero_mapping)
unfolding free_mapping
free-record os ms i ok e =
    let lt = seek-some_lt (λ m. not (used m)) 0 ms i e in
    let z : i ≡ 0 + i = omega arith in
    let at = seek-some_at (λ m. not (used m)) 0 ms zero_mapping i (e ∙ ap Some z) in
    let h : i < ListN.length ms = omega (arith, lt.1) in
    (h, record_free os (get_or ms i zero_mapping) (not-true (used (get_or ms i zero_mapping)) at) (Each-at (λ m. record_ok os m ≡ true) ms zero_mapping i h ok))

-- the lowest free backing number is from 1 to 128, and no mapping has it
pub free-number : (ms : List Mapping) (b : ℕ) → free_backing ms ≡ Some b → (1 ≤ b) × (b ≤ 128) × (any (backs b) ms ≡ false)
unfolding free_backing
free-number ms b e = let l = lowest-some (λ k. not (any (backs k) ms)) 128 1 b e in (l.from, omega (arith, l.upto), not-true (any (backs b) ms) l.passes)

pub space-used : (os : List Object) (s : ℕ) → space_at os s ≡ true → not (eqb s 0) ≡ true
unfolding space_at
space-used os s e = rw (ne_eqb s 0 (λ z. omega (arith, z, space-id os s e)))

-- ---- rights

rights-some : (flags : ℕ) → (bit 1 flags || bit 2 flags) ≡ true → 0 < rights_of flags
unfolding rights_of
rights-some flags e =
    by-test (bit 1 flags) (λ p. rw p (omega arith))
    (λ p. by-test (bit 2 flags) (λ q. rw (p, q) (omega arith)) (λ q. contrary false (sym (rw (p, q)) ∙ e) refl))

rights-fit : (flags : ℕ) → rights_of flags ≤ 3
unfolding rights_of
rights-fit flags =
    by-test (bit 1 flags)
    (λ p. by-test (bit 2 flags) (λ q. rw (p, q) (omega arith)) (λ q. rw (p, q) (omega arith)))
    (λ p. by-test (bit 2 flags) (λ q. rw (p, q) (omega arith)) (λ q. rw (p, q) (omega arith)))

-- a new mapping may write exactly if that was asked
write-bits : (w r : Bool) → bit 0 (only_if w 1 + only_if r 2) ≡ w
unfolding bit
write-bits true true = refl
write-bits true false = refl
write-bits false true = refl
write-bits false false = refl

write-asked : (flags : ℕ) → bit 0 (rights_of flags) ≡ bit 1 flags
unfolding rights_of
write-asked flags = write-bits (bit 1 flags) (bit 2 flags)

-- ---- MAP

module _ (os : List Object) (ms : List Mapping) (b flags s memory n a : ℕ) where
  pub found-used : space_at os s ≡ true → used (found_of b flags s memory n a) ≡ true
  unfolding used found_of
  found-used e = space-used os s e

  -- it touches no mapping of its space
  pub found-alone : Landed os ms s n a → any (touches (found_of b flags s memory n a).space (extent (found_of b flags s memory n a))) ms ≡ false
  unfolding taken extent found_of
  found-alone l = l.alone

  pub found_ok : (x : ℕ) → Wanted flags n x → space_at os s ≡ true → passes memory n ≡ false → Landed os ms s n a → 1 ≤ b → b ≤ 128 → UsedOk os (found_of b flags s memory n a)
  unfolding extent found_of can_write
  found_ok x w sp me l low high = record {
    names = sp;
    some = w.some;
    short = w.short;
    rights = rights-some flags w.right;
    rights-fit = rights-fit flags;
    ends = l.ends;
    memory-ends = me;
    clear = l.clear;
    aligned = l.aligned;
    founder-fits = by-test (bit 1 flags) (λ p. rw p (omega arith)) (λ p. rw p (omega arith));
    writes = λ c. rw (sym (write-asked flags) ∙ c);
    from = low;
    upto = high;
  }

-- ---- COPY

-- what is found of a list has what each element has
pub find-each : {A : Type 0} (P : A → Type 0) (p : A → Bool) (xs : List A) (a : A) → Each P xs → find p xs ≡ Some a → P a
unfolding find
find-each P p [] a h e = let z : ◌≡◌ {A = ℕ} 0 1 = cc in absurd (omega arith)
find-each P p (x ∷ xs) a h e =
    by-test (p x)
    (λ t. let f = find-cons_true p x xs t in let same : x ≡ a = cc in subst P same h.0)
    (λ t. find-each P p xs a h.1 (sym (find-cons_false p x xs t) ∙ e))

-- the source of an accepted COPY is a mapping of the table with that address and length
pub record SourceIs (os : List Object) (info : ℕ → Backing) (ms : List Mapping) (source y n : ℕ) (m : Mapping) : Type 0 where
  pub is-source : is_source source y n m ≡ true
  pub is-used : used m ≡ true
  pub is-long : m.length ≡ n
  pub ok : UsedOk os m
  pub shares : Shares (info m.backing) m
  pub backed : any (backs m.backing) ms ≡ true

module _ (os : List Object) (info : ℕ → Backing) (ms : List Mapping) (ok : Each (λ m. record_ok os m ≡ true) ms) (agree : Agree info ms) (source y n : ℕ) (sp : space_at os source ≡ true) where
  pub source-of : (m : Mapping) → source_of ms source y n ≡ Some m → SourceIs os info ms source y n m
  unfolding source_of is_source of_space used
  source-of m e =
      let t = find-some (is_source source y n) ms m e in
      let sm : m.space ≡ source = eqb-true m.space source (and_left (eqb m.space source) (eqb m.address y && eqb m.length n) t) in
      let ln : m.length ≡ n = eqb-true m.length n (and_right (eqb m.address y) (eqb m.length n) (and_right (eqb m.space source) (eqb m.address y && eqb m.length n) t)) in
      let u : not (eqb m.space 0) ≡ true = rw sm (space-used os source sp) in
      record {
        is-source = t;
        is-used = u;
        is-long = ln;
        ok = record_used os m u (find-each (λ k. record_ok os k ≡ true) (is_source source y n) ms m ok e);
        shares = find-each (λ k. used k ≡ true → Shares (info k.backing) k) (is_source source y n) ms m agree e u;
        backed = by-test (any (backs m.backing) ms) (λ q. q) (λ q. contrary (backs m.backing m) (backs-of m.backing m refl) (find-some_any (is_source source y n) (backs m.backing) ms m e q));
      }

  pub source_is : is_none (source_of ms source y n) ≡ false → SourceIs os info ms source y n (source_mapping (source_of ms source y n))
  source_is e = go (source_of ms source y n) refl e
    where
      go : (o : Option Mapping) → source_of ms source y n ≡ o → is_none o ≡ false → SourceIs os info ms source y n (source_mapping o)
      go None f g = contrary true refl g
      go (Some m) f g = source-of m f

module _ (os : List Object) (ms : List Mapping) (m : Mapping) (flags target n a : ℕ) where
  pub copy_used : space_at os target ≡ true → used (copy_of m flags target n a) ≡ true
  unfolding used copy_of
  copy_used e = space-used os target e

  pub copy_alone : Landed os ms target n a → any (touches (copy_of m flags target n a).space (extent (copy_of m flags target n a))) ms ≡ false
  unfolding taken extent copy_of
  copy_alone l = l.alone

  pub copy_ok : (x : ℕ) → Wanted flags n x → space_at os target ≡ true → Landed os ms target n a → UsedOk os m → m.length ≡ n → (bit 1 flags ≡ true → m.founder ≡ 1) → UsedOk os (copy_of m flags target n a)
  unfolding extent copy_of can_write
  copy_ok x w sp l k ln right = record {
    names = sp;
    some = w.some;
    short = w.short;
    rights = rights-some flags w.right;
    rights-fit = rights-fit flags;
    ends = l.ends;
    memory-ends = rw (← ln) k.memory-ends;
    clear = l.clear;
    aligned = l.aligned;
    founder-fits = k.founder-fits;
    writes = λ c. right (sym (write-asked flags) ∙ c);
    from = k.from;
    upto = k.upto;
  }

  pub copy_shares : (b : Backing) → Shares b m → m.length ≡ n → Shares b (copy_of m flags target n a)
  unfolding copy_of
  copy_shares b h ln = record { memory = h.memory; length = h.length ∙ ln; founder = h.founder }
