-- The order of a host call from its kind and words: a law for each kind. What an edit tells, in the first of them.
use Rattle.std.specs.Prelude.{ℕ, ◌<◌, ◌≡◌, cond, List, eqb, get_or, set, None, Some}
use Rattle.std.proofs.Common.{sym, ap, arith, eq-eqb, ne_eqb}
use Rattle.rules_table.specs.Words.{low}
use Rattle.rules_calls.specs.declared.Order.{Order}
use Rattle.rules_calls.specs.Orders.{bind_order, attach_order, detach_order, reach_order, charge_order, next_order}
use Rattle.rules_lent.specs.Entries.{is_write, reserved_in, order_in}

-- what an edit tells stands in word 0
unfoldable pub told_in : ℕ → ℕ → List ℕ → List ℕ
told_in errno value words = cond (eqb errno 0) (set words 0 value) words

-- ---- laws

module _ (kind : ℕ) (vs : List ℕ) (o : Order) where
  pub is-bind : kind ≡ 1 → o ≡ bind_order (get_or vs 0 0) (reserved_in vs) → order_in kind vs ≡ Some o
  unfolding order_in
  is-bind k e = rw k (ap (λ (p : Order). Some p) (sym e))

  pub is-attach : kind ≡ 2 → o ≡ attach_order (low (get_or vs 0 0)) (low (get_or vs 1 0)) → order_in kind vs ≡ Some o
  unfolding order_in
  is-attach k e = rw k (ap (λ (p : Order). Some p) (sym e))

  pub is-detach : kind ≡ 3 → o ≡ detach_order (low (get_or vs 0 0)) → order_in kind vs ≡ Some o
  unfolding order_in
  is-detach k e = rw k (ap (λ (p : Order). Some p) (sym e))

  pub is-reach : kind ≡ 4 → o ≡ reach_order (low (get_or vs 0 0)) (get_or vs 1 0) (get_or vs 2 0) (is_write (get_or vs 3 0)) → order_in kind vs ≡ Some o
  unfolding order_in
  is-reach k e = rw k (ap (λ (p : Order). Some p) (sym e))

  pub is-charge : kind ≡ 5 → o ≡ charge_order → order_in kind vs ≡ Some o
  unfolding order_in
  is-charge k e = rw k (ap (λ (p : Order). Some p) (sym e))

  pub is-next : kind ≡ 6 → o ≡ next_order (low (get_or vs 0 0)) (get_or vs 1 0) → order_in kind vs ≡ Some o
  unfolding order_in
  is-next k e = rw k (ap (λ (p : Order). Some p) (sym e))

-- what a kind that is none asks
pub no-order : (kind : ℕ) (vs : List ℕ) → 6 < kind → order_in kind vs ≡ None
unfolding order_in
no-order kind vs k =
    rw (
      ne_eqb kind 1 (λ z. omega (arith, z, k)),
      ne_eqb kind 2 (λ z. omega (arith, z, k)),
      ne_eqb kind 3 (λ z. omega (arith, z, k)),
      ne_eqb kind 4 (λ z. omega (arith, z, k)),
      ne_eqb kind 5 (λ z. omega (arith, z, k)),
      ne_eqb kind 6 (λ z. omega (arith, z, k)),
    )

pub fresh-order : (kind : ℕ) (vs : List ℕ) → kind ≡ 0 → order_in kind vs ≡ None
unfolding order_in
fresh-order kind vs k = rw k

pub told-number : (errno value : ℕ) (words : List ℕ) → errno ≡ 0 → set words 0 value ≡ told_in errno value words
unfolding told_in
told-number errno value words z = rw (eq-eqb errno 0 z)

pub told_none : (errno value : ℕ) (words : List ℕ) → (errno ≡ 0 → ⊥) → words ≡ told_in errno value words
unfolding told_in
told_none errno value words n = rw (ne_eqb errno 0 n)
