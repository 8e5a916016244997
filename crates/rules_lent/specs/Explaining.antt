-- What the entry of the tool leaves (L1), for any head, any mapping records and any index: what it tells in five words, or a refusal that leaves them. All else is only read.
use Rattle.std.specs.Prelude.{ℕ, ◌≡◌, refl, List, [], ◌∷◌, ℤ, pos, negsuc, replicate}
use Rattle.rules_table.specs.declared.Mapping.{Mapping}
use Rattle.rules_table.specs.declared.Head.{Head}
use Rattle.rules_table.specs.Layout.{table_of, fresh_head, encoded, decoded}
use Rattle.rules_table.specs.Records.{zero_mapping}
use Rattle.rules_calls.specs.Results.{signed_result}
use Rattle.rules_reasons.specs.Explain.{board_explained, tool_errno, told_words, explains}
use Rattle.rules_lent.specs.Lent.{board_of}

pub record LentExplain (h : Head) (ms : List Mapping) (ix : List ℕ) (request : ℕ) (cmd words : List ℕ) (r : ℤ) (h' : Head) (ms' : List Mapping) (ix' cmd' words' : List ℕ) : Type 0 where
  pub result : r ≡ signed_result (tool_errno (board_explained (board_of h ms ix) request cmd))
  pub told : words' ≡ told_words (board_explained (board_of h ms ix) request cmd) words
  pub head : h' ≡ h
  pub records : ms' ≡ ms
  pub index : ix' ≡ ix
  pub command : cmd' ≡ cmd

-- ---- examples: to unfold `told` is to unfold all that it lists

unfoldable told : Head → List Mapping → List ℕ → ℕ → List ℕ → List ℕ → List ℕ
unfolding explains signed_result table_of fresh_head encoded decoded
told h ms ix request cmd words = told_words (board_explained (board_of h ms ix) request cmd) words

-- a MAP of no byte on a fresh table; the same where the index is a number short
tells-open : LentExplain (fresh_head 4) (replicate 128 zero_mapping) (replicate 128 0) 0x3B85 [] (replicate 5 9) (pos 0) (fresh_head 4) (replicate 128 zero_mapping) (replicate 128 0) [] (1 ∷ 14 ∷ 0 ∷ 0 ∷ 0 ∷ [])
unfolding told
tells-open = record { result = refl; told = refl; head = refl; records = refl; index = refl; command = refl }

refuses-bad : LentExplain (fresh_head 4) (replicate 128 zero_mapping) (replicate 127 0) 0x3B85 [] (replicate 5 9) (negsuc 116) (fresh_head 4) (replicate 128 zero_mapping) (replicate 127 0) [] (replicate 5 9)
unfolding told
refuses-bad = record { result = refl; told = refl; head = refl; records = refl; index = refl; command = refl }
