-- What a call leaves that has the head as words, the words of the mapping records and the index: for the records that these were loaded from, what the entry promises.
use Rattle.std.specs.Prelude.{ℕ, ◌≡◌, refl, List, ℤ, length}
use Rattle.std.proofs.Common.{sym, subst}
use Rattle.rules_table.specs.declared.Mapping.{Mapping}
use Rattle.rules_table.specs.Words.{head_in}
use Rattle.rules_lent.specs.Entries.{LentCall, Preview, HostCall}
use Rattle.lent_records.specs.Loading.{Loaded}
use Rattle.lent_records.specs.Records.{stored}
use Rattle.lent_edit.specs.declared.Served.{Served}

-- ---- what the entries promise, of the head as words

abbrev pub Called : List ℕ → List Mapping → List ℕ → ℕ → List ℕ → List ℕ → ℤ → List ℕ → List Mapping → List ℕ → List ℕ → List ℕ → Type 0
Called h ms bs request cs rs r h' ms' bs' cs' rs' = LentCall (head_in h) ms bs request cs rs r (head_in h') ms' bs' cs' rs'

abbrev pub Previewed : List ℕ → List Mapping → List ℕ → ℕ → List ℕ → List ℕ → ℤ → List ℕ → List ℕ → Type 0
Previewed h ms bs request cs rs r cs' rs' = Preview (head_in h) ms bs request cs rs r (head_in h) ms bs cs' rs'

abbrev pub HostCalled : List ℕ → List Mapping → List ℕ → ℕ → List ℕ → ℤ → List ℕ → List Mapping → List ℕ → List ℕ → Type 0
HostCalled h ms bs kind vs r h' ms' bs' vs' = HostCall (head_in h) ms bs kind vs r (head_in h') ms' bs' vs'

-- ---- what is served: the same, for all records that the words were loaded from

pub record CallServed (h : List ℕ) (count : ℕ) (ws : List (List ℕ)) (bs : List ℕ) (request : ℕ) (cs rs : List ℕ) (s : Served)
    (h' bs' cs' rs' : List ℕ) : Type 0 where
  pub served : (ms : List Mapping) → length ms ≡ count → Loaded ms ws → Called h ms bs request cs rs s.result h' (stored s.records ms) bs' cs' rs'

pub record PreviewServed (h : List ℕ) (count : ℕ) (ws : List (List ℕ)) (bs : List ℕ) (request : ℕ) (cs rs : List ℕ) (r : ℤ) (cs' rs' : List ℕ) : Type 0 where
  pub served : (ms : List Mapping) → length ms ≡ count → Loaded ms ws → Previewed h ms bs request cs rs r cs' rs'

pub record HostServed (h : List ℕ) (count : ℕ) (ws : List (List ℕ)) (bs : List ℕ) (kind : ℕ) (vs : List ℕ) (s : Served) (h' bs' vs' : List ℕ) : Type 0 where
  pub served : (ms : List Mapping) → length ms ≡ count → Loaded ms ws → HostCalled h ms bs kind vs s.result h' (stored s.records ms) bs' vs'

-- ---- the laws that the entries cite

pub called : (h : List ℕ) (ms : List Mapping) (bs : List ℕ) (request : ℕ) (cs rs : List ℕ) (s : Served) (h' bs' cs' rs' : List ℕ) (ws : List (List ℕ))
    (ms' : List Mapping)
    → Loaded ms ws → CallServed h (length ms) ws bs request cs rs s h' bs' cs' rs' → ms' ≡ stored s.records ms
    → Called h ms bs request cs rs s.result h' ms' bs' cs' rs'
called h ms bs request cs rs s h' bs' cs' rs' ws ms' l d e = subst (λ (zs : List Mapping). Called h ms bs request cs rs s.result h' zs bs' cs' rs') (sym e)
    (d.served ms refl l)

pub previewed : (h : List ℕ) (ms : List Mapping) (bs : List ℕ) (request : ℕ) (cs rs : List ℕ) (r : ℤ) (cs' rs' : List ℕ) (ws : List (List ℕ))
    → Loaded ms ws → PreviewServed h (length ms) ws bs request cs rs r cs' rs' → Previewed h ms bs request cs rs r cs' rs'
previewed h ms bs request cs rs r cs' rs' ws l d = d.served ms refl l

pub host_called : (h : List ℕ) (ms : List Mapping) (bs : List ℕ) (kind : ℕ) (vs : List ℕ) (s : Served) (h' bs' vs' : List ℕ) (ws : List (List ℕ))
    (ms' : List Mapping)
    → Loaded ms ws → HostServed h (length ms) ws bs kind vs s h' bs' vs' → ms' ≡ stored s.records ms → HostCalled h ms bs kind vs s.result h' ms' bs' vs'
host_called h ms bs kind vs s h' bs' vs' ws ms' l d e = subst (λ (zs : List Mapping). HostCalled h ms bs kind vs s.result h' zs bs' vs') (sym e)
    (d.served ms refl l)
