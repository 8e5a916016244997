-- The same laws for the archive's host entry, whose contract for reach is `LentHost`: the table is the one that the caller's head and mapping
-- records stand for, with the index of these beside it. Where the result is 0 the address stands in word 0, and a refusal leaves the words.
use Rattle.std.specs.Prelude.{ℕ, ◌≤◌, ◌≡◌, true, ℤ, pos, negsuc, length}
use Rattle.std.proofs.Common.{sym, ◌∙◌, arith, get_or-set_same, eq-eqb, ne_eqb}
use Rattle.std.proofs.Math.Path.{ap}
use mathlib.Core.List.{List}
use Rattle.std.proofs.Math.ListN.{get_or}
use Rattle.opening.specs.Signed.{result-none, result-errno}
use Rattle.rules_table.specs.declared.Mapping.{Mapping}
use Rattle.rules_table.specs.Good.{good}
use Rattle.rules_calls.specs.declared.Edit.{Edit}
use Rattle.rules_calls.specs.Results.{signed_result}
use Rattle.rules_calls.specs.declared.Reached.{Reached}
use Rattle.rules_calls.specs.Named.{reach_call}
use Rattle.rules_calls.specs.Orders.{reach_order, host_edit}
use Rattle.rules_table.specs.declared.Head.{Head}
use Rattle.rules_table.specs.Layout.{table_of}
use Rattle.rules_index.specs.Board.{good_board, board_host}
use Rattle.rules_lent.specs.Lent.{board_of}
use Rattle.rules_lent.specs.Entries.{LentHost, is_write}
use Rattle.laws_board.specs.Answers.{good-table, good-index, host_same}
use Rattle.laws_reach.specs.Plain.{Reaches, Denied, Nowhere}
use Rattle.laws_reach.specs.Reach.{answers}
use Rattle.laws_reach.proofs.Reach.{reach-0, reach-1, reach-14}

module _ (h : Head) (ms : List Mapping) (ix : List ℕ) (gb : good_board (board_of h ms ix) ≡ true) (d a n w : ℕ) (words : List ℕ) (r : ℤ) (h' : Head) (ms' : List Mapping)
    (ix' words' : List ℕ)
    (c : LentHost h ms ix (reach_order d a n (is_write w)) words r h' ms' ix' words') (room : 10 ≤ length words) where
  abbrev e : Edit
  e = board_host (board_of h ms ix) (reach_order d a n (is_write w))

  abbrev reach : Reached
  reach = reach_call (table_of h ms) d a n (is_write w)

  g : good (table_of h ms) ≡ true
  g = good-table (board_of h ms ix) gb

  same : e ≡ host_edit (table_of h ms) (reach_order d a n (is_write w))
  same = host_same (board_of h ms ix) (good-index (board_of h ms ix) gb) (reach_order d a n (is_write w))

  -- the entry's result is reach's, and beside 0 stands its address
  result-is : r ≡ reach.result
  unfolding reach_call
  result-is = c.result ∙ ap (λ (x : Edit). signed_result x.errno) same

  address_is : r ≡ pos 0 → get_or words' 0 0 ≡ reach.address
  unfolding reach_call
  address_is z =
      let k : e.errno ≡ 0 = result-none e.errno (sym c.result ∙ z) in
      ap (λ (l : List ℕ). get_or l 0 0) c.told ∙ rw (eq-eqb e.errno 0 k) (get_or-set_same words 0 e.value 0 (omega (arith, room))) ∙ ap (λ (x : Edit). x.value) same

  words-stay : (k : ℕ) → r ≡ negsuc k → words' ≡ words
  words-stay k z =
      let m = result-errno e.errno k (sym c.result ∙ z) in
      c.told ∙ rw (ne_eqb e.errno 0 (λ x. omega (arith, x, m)))

  refused : (k : ℕ) → reach ≡ answers (negsuc k) 0 → (r ≡ negsuc k) × (words' ≡ words)
  refused k z = let q : r ≡ negsuc k = result-is ∙ ap (λ (x : Reached). x.result) z in (q, words-stay k q)

  -- THE LAWS
  pub lent-reach_0 : (y : ℕ) → ((r ≡ pos 0) × (get_or words' 0 0 ≡ y) → Reaches (table_of h ms) d a n (is_write w) y) × (Reaches (table_of h ms) d a n (is_write w) y
      → (r ≡ pos 0) × (get_or words' 0 0 ≡ y))
  lent-reach_0 y =
      let l = reach-0 (table_of h ms) g d a n (is_write w) y in (
        λ z. l.0 (ap (λ (x : ℤ). answers x reach.address) (sym result-is ∙ z.0) ∙ ap (answers (pos 0)) (sym (address_is z.0) ∙ z.1)),
        λ x.
            let z = l.1 x in
            let q : r ≡ pos 0 = result-is ∙ ap (λ (k : Reached). k.result) z in
            (q, address_is q ∙ ap (λ (k : Reached). k.address) z),
      )

  pub lent-reach_1 : (r ≡ negsuc 0 → Denied (table_of h ms) d a n (is_write w)) × (Denied (table_of h ms) d a n (is_write w) → (r ≡ negsuc 0) × (words' ≡ words))
  lent-reach_1 =
      let l = reach-1 (table_of h ms) g d a n (is_write w) in
      (λ z. l.0 (sym result-is ∙ z), λ x. refused 0 (l.1 x))

  pub lent-reach_14 : (r ≡ negsuc 13 → Nowhere (table_of h ms) d a n) × (Nowhere (table_of h ms) d a n → (r ≡ negsuc 13) × (words' ≡ words))
  lent-reach_14 =
      let l = reach-14 (table_of h ms) g d a n (is_write w) in
      (λ z. l.0 (sym result-is ∙ z), λ x. refused 13 (l.1 x))
