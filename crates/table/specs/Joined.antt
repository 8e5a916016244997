-- One more mapping in a released record: what it does to the charge. A new backing adds its pages (MAP); a backing that stands adds nothing (COPY).
use Rattle.std.specs.Prelude.{ℕ, ◌+◌, ◌-◌, ◌≤◌, ◌<◌, ◌≡◌, Bool, false, ◌||◌, List, get_or, set}
use Rattle.std.proofs.Math.Path.{refl, sym, ap}
use Rattle.std.proofs.Common.{◌∙◌, arith, eqb-true, eq-eqb, ne_eqb}
use Rattle.std.proofs.Math.Bool.{true}
use Rattle.std.proofs.Math.Dec.{eqb}
use Rattle.std.proofs.Math.ListN as ListN
use Rattle.std.proofs.lemmas.Bool.{eqb-false}
use Rattle.lists.specs.Tests.{by-test, only_if}
use Rattle.lists.specs.Search.{any}
use Rattle.lists.specs.Each.{Each, Each-set, Each-zip, Each-any_false}
use Rattle.lists.specs.Below.{sum_below, sum_below-cong, sum_below-add, sum_below-only}
use Rattle.lists.specs.Update.{upd, upd_same, upd_other}
use Rattle.rules_table.specs.declared.Object.{Object}
use Rattle.rules_table.specs.declared.Mapping.{Mapping}
use Rattle.rules_table.specs.Records.{zero_mapping, used}
use Rattle.rules_table.specs.Charge.{backs, mapping_pages, charge}
use Rattle.table.specs.Checked.{record_ok}
use Rattle.table.specs.Sound.{Backing, backing_of, Shares, Agree}
use Rattle.table.specs.Charged.{info_pages, shares-pages, charge-info}
use Rattle.lists.specs.Ends.{any-stored}

module _ (ms : List Mapping) (i : ℕ) (m : Mapping) (h : i < ListN.length ms) (free : get_or ms i zero_mapping ≡ zero_mapping) where
  -- the backings in use are those before and its own
  backs-stored : (k : ℕ) → any (backs (k + 1)) (set ms i m) ≡ (eqb m.backing (k + 1) || any (backs (k + 1)) ms)
  unfolding backs
  backs-stored k = any-stored (backs (k + 1)) ms zero_mapping i m h (rw free (ne_eqb 0 (k + 1) (λ e. omega (arith, e))))

  -- what the mappings of each backing share, where its own is new
  pub agree-new : (info : ℕ → Backing) → any (backs m.backing) ms ≡ false → Agree info ms → Agree (upd info m.backing (backing_of m)) (set ms i m)
  unfolding backs
  agree-new info new agree =
      Each-set (λ n. used n ≡ true → Shares (upd info m.backing (backing_of m) n.backing) n) ms i m
      (λ u. rw (upd_same info m.backing (backing_of m)) (record { memory = refl; length = refl; founder = refl }))
      (Each-zip (λ n. eqb n.backing m.backing ≡ false) (λ n. used n ≡ true → Shares (info n.backing) n) (λ n. used n ≡ true → Shares (upd info m.backing (backing_of m) n.backing) n) ms
      (λ n e f u. rw (upd_other info m.backing (backing_of m) n.backing e) (f u))
      (Each-any_false (backs m.backing) ms new) agree)

  -- and where its own stands
  pub agree-joined : (info : ℕ → Backing) → Shares (info m.backing) m → Agree info ms → Agree info (set ms i m)
  agree-joined info s agree = Each-set (λ n. used n ≡ true → Shares (info n.backing) n) ms i m (λ u. s) agree

  module _ (os : List Object) (ok : Each (λ n. record_ok os n ≡ true) ms) (new_ok : record_ok os m ≡ true) (info : ℕ → Backing) (agree : Agree info ms) where
    stored_ok : Each (λ n. record_ok os n ≡ true) (set ms i m)
    stored_ok = Each-set (λ n. record_ok os n ≡ true) ms i m new_ok ok

    -- a backing that stands: the charge is as it was
    pub charge-joined : any (backs m.backing) ms ≡ true → Shares (info m.backing) m → charge (set ms i m) ≡ charge ms
    unfolding charge
    charge-joined old s =
        charge-info os info (set ms i m) stored_ok (agree-joined info s agree) (λ n. true)
        ∙ sum_below-cong (λ k. only_if (any (backs (k + 1)) (set ms i m)) (info_pages (info (k + 1)))) (λ k. only_if (any (backs (k + 1)) ms) (info_pages (info (k + 1)))) 128
        (λ k l. ap (λ (b : Bool). only_if b (info_pages (info (k + 1)))) (backs-stored k ∙ same k))
        ∙ sym (charge-info os info ms ok agree (λ n. true))
      where
        same : (k : ℕ) → (eqb m.backing (k + 1) || any (backs (k + 1)) ms) ≡ any (backs (k + 1)) ms
        same k = by-test (eqb m.backing (k + 1)) (λ e. rw e (sym (ap (λ (b : ℕ). any (backs b) ms) (sym (eqb-true m.backing (k + 1) e)) ∙ old))) (λ e. rw e)

    -- a new backing: its pages more
    pub charge-new : any (backs m.backing) ms ≡ false → 1 ≤ m.backing → m.backing ≤ 128 → charge (set ms i m) ≡ charge ms + mapping_pages m
    unfolding charge
    charge-new new low high =
        charge-info os (upd info m.backing (backing_of m)) (set ms i m) stored_ok (agree-new info new agree) (λ n. true)
        ∙ sum_below-cong (λ k. only_if (any (backs (k + 1)) (set ms i m)) (info_pages (upd info m.backing (backing_of m) (k + 1)))) (λ k. only_if (any (backs (k + 1)) ms) (info_pages (info (k + 1))) + only_if (eqb m.backing (k + 1)) (mapping_pages m)) 128
        (λ k l. ap (λ (b : Bool). only_if b (info_pages (upd info m.backing (backing_of m) (k + 1)))) (backs-stored k) ∙ more k)
        ∙ sum_below-add (λ k. only_if (any (backs (k + 1)) ms) (info_pages (info (k + 1)))) (λ k. only_if (eqb m.backing (k + 1)) (mapping_pages m)) 128
        ∙ ap (λ (x : ℕ). sum_below (λ k. only_if (any (backs (k + 1)) ms) (info_pages (info (k + 1)))) 128 + x) once
        ∙ ap (λ (x : ℕ). x + mapping_pages m) (sym (charge-info os info ms ok agree (λ n. true)))
      where
        own : info_pages (backing_of m) ≡ mapping_pages m
        own = sym (shares-pages (backing_of m) m (record { memory = refl; length = refl; founder = refl }))

        more : (k : ℕ) → only_if (eqb m.backing (k + 1) || any (backs (k + 1)) ms) (info_pages (upd info m.backing (backing_of m) (k + 1)))
            ≡ only_if (any (backs (k + 1)) ms) (info_pages (info (k + 1))) + only_if (eqb m.backing (k + 1)) (mapping_pages m)
        more k =
            by-test (eqb m.backing (k + 1))
            (λ e. let q : m.backing ≡ k + 1 = eqb-true m.backing (k + 1) e in rw (← q, eq-eqb m.backing m.backing refl, new, own) (omega arith))
            (λ e. rw (e, upd_other info m.backing (backing_of m) (k + 1) (ne_eqb (k + 1) m.backing (λ z. eqb-false m.backing (k + 1) e (sym z)))) (omega arith))

        once : sum_below (λ k. only_if (eqb m.backing (k + 1)) (mapping_pages m)) 128 ≡ mapping_pages m
        once =
            let z : m.backing - 1 + 1 ≡ m.backing = omega arith in
            sum_below-only (λ k. only_if (eqb m.backing (k + 1)) (mapping_pages m)) (m.backing - 1) 128
            (λ k l ne. rw (ne_eqb m.backing (k + 1) (λ e. ne (omega (arith, e))))) (omega arith)
            ∙ rw (eq-eqb m.backing (m.backing - 1 + 1) (sym z))
