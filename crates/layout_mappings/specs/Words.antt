-- The mapping that five words stand for, and the words of a mapping. Word 0: space and rights; word 1: founder and backing; then address, length, memory.
use Rattle.std.specs.Prelude.{ℕ, zero, suc, ◌+◌, ◌*◌, ◌≤◌, ◌<◌, ◌≡◌, refl, Bool, not, ◌&&◌, List, [], ◌∷◌, ◌++◌, map, length, get_or, set, take}
use Rattle.std.proofs.Common.{sym, ap, ◌∙◌, arith, add-one, length-set, take_all, take-suc-set}
use Rattle.std.proofs.Math.ListN.{get_or-map}
use Rattle.std.proofs.lemmas.List.{length-map}
use Rattle.rules_table.specs.declared.Mapping.{Mapping}
use Rattle.rules_table.specs.Records.{used, zero_mapping}
use Rattle.rules_table.specs.Words.{low, high}
use Rattle.records.specs.Alone.{zero_fields}
use Rattle.lists.specs.Ends.{take_turn}

abbrev pub joined : ℕ → ℕ → ℕ
joined a b = a + 4294967296 * b

abbrev pub record_of : List ℕ → Mapping
record_of w = record {
  space = low (get_or w 0 0);
  rights = high (get_or w 0 0);
  founder = low (get_or w 1 0);
  backing = high (get_or w 1 0);
  address = get_or w 2 0;
  length = get_or w 3 0;
  memory = get_or w 4 0;
}

abbrev pub words_of : Mapping → List ℕ
words_of m = joined m.space m.rights ∷ joined m.founder m.backing ∷ m.address ∷ m.length ∷ m.memory ∷ []

-- the mappings of a slice of records
abbrev pub records_of : List (List ℕ) → List Mapping
records_of ws = map record_of ws

-- that at a place
abbrev pub record_at : List (List ℕ) → ℕ → Mapping
record_at ws i = get_or (records_of ws) i zero_mapping

-- a released record that holds nothing
unfoldable pub is_empty : Mapping → Bool
is_empty m = not (used m) && zero_fields m

-- ---- the round trip

pub low-joined : (a b : ℕ) → a < 4294967296 → low (joined a b) ≡ a
low-joined a b h = omega (arith, h)

pub high-joined : (a b : ℕ) → a < 4294967296 → b < 4294967296 → high (joined a b) ≡ b
high-joined a b h k = omega (arith, h, k)

-- the fields of 32 bits fit
pub record Fits (m : Mapping) : Type 0 where
  pub space : m.space < 4294967296
  pub rights : m.rights < 4294967296
  pub founder : m.founder < 4294967296
  pub backing : m.backing < 4294967296

pub record_words : (m : Mapping) → Fits m → record_of (words_of m) ≡ m
record_words m f =
    rw (low-joined m.space m.rights f.space, high-joined m.space m.rights f.space f.rights, low-joined m.founder m.backing f.founder, high-joined m.founder m.backing f.founder f.backing)

-- ---- a slice of records

-- a read past the end
pub record_nil : record_of [] ≡ zero_mapping
record_nil = refl

pub records-at : (ws : List (List ℕ)) (i : ℕ) → record_at ws i ≡ record_of (get_or ws i [])
records-at ws i = get_or-map record_of ws i []

pub records-length : (ws : List (List ℕ)) → length (records_of ws) ≡ length ws
records-length ws = length-map ws record_of

pub records-store : (ws : List (List ℕ)) (i : ℕ) (w : List ℕ) → records_of (set ws i w) ≡ set (records_of ws) i (record_of w)
records-store [] i w = refl
records-store (x ∷ ws) zero w = refl
records-store (x ∷ ws) (suc i) w = ap (λ (l : List Mapping). record_of x ∷ l) (records-store ws i w)

pub records-set : (ws : List (List ℕ)) (i : ℕ) (w : List ℕ) (m : Mapping) → record_of w ≡ m → records_of (set ws i w) ≡ set (records_of ws) i m
records-set ws i w m e = records-store ws i w ∙ ap (λ (n : Mapping). set (records_of ws) i n) e

-- ---- a loop that fills a slice

-- the first i records are those of ms
pub record Filled (ms : List Mapping) (i : ℕ) (ws : List (List ℕ)) : Type 0 where
  pub many : length ms ≡ 128
  pub room : length ws ≡ 128
  pub upto : i ≤ 128
  pub same : take i (records_of ws) ≡ take i ms

module _ (ms : List Mapping) where
  pub filled_start : (ws : List (List ℕ)) → length ms ≡ 128 → length ws ≡ 128 → Filled ms 0 ws
  filled_start ws h k = record { many = h; room = k; upto = omega arith; same = refl }

  pub filled_on : (i : ℕ) (ws : List (List ℕ)) (w : List ℕ) → Filled ms i ws → i < 128 → record_of w ≡ get_or ms i zero_mapping → Filled ms (i + 1) (set ws i w)
  filled_on i ws w f h e = record {
    many = f.many;
    room = length-set ws i w ∙ f.room;
    upto = omega arith;
    same =
        ap (take (i + 1)) (records-set ws i w (get_or ms i zero_mapping) e)
        ∙ rw add-one (take-suc-set (records_of ws) i (get_or ms i zero_mapping) (omega (arith, records-length ws, f.room)))
        ∙ ap (λ (l : List Mapping). l ++ get_or ms i zero_mapping ∷ []) f.same
        ∙ sym (take_turn ms zero_mapping i (omega (arith, f.many)));
  }

  pub filled_end : (i : ℕ) (ws : List (List ℕ)) → Filled ms i ws → 128 ≤ i → records_of ws ≡ ms
  filled_end i ws f h = sym (take_all i (records_of ws) (omega (arith, records-length ws, f.room))) ∙ f.same ∙ take_all i ms (omega (arith, f.many))
