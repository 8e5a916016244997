-- A turn stores what becomes of the record at its place, whether it is written or not.
use Rattle.std.proofs.Common.{◌≡◌, ◌+◌, ◌<◌, ◌≤◌, length, get_or, set, sym, ◌∙◌, ap, le_refl, arith}
use Rattle.walks.specs.Stores.{stores, stores-next, stores-rest, stores_same}
use Rattle.rules_table.specs.Records.{zero_mapping}
use Rattle.lent_records.specs.Records.{stored, changes, turns_of}
use Rattle.lent_records.proofs.Lent.{next-changed, next-kept, stored_at}
use Rattle.lent_records.proofs.Stored.{turns_within, first-within, stored-first, stored-turns}
use Rattle.lent_records.proofs.store.Goals as goal
use Rattle.lent_records.proofs.store.Goals.{then-is_changed, else-is_changed}

pub loop-i-init : goal.loop-i-init
loop-i-init c =
    let ms = c.args.ms.now in
    let n = c.turns-n.result in
    record {
      within = omega (arith, c.first_turn-i.ensures, first-within c.args.c n);
      made = sym (ap (stores zero_mapping (stored c.args.c ms) ms) c.first_turn-i.ensures ∙ stored-first ms c.args.c n);
    }

pub loop-i-preserved : goal.loop-i-preserved
loop-i-preserved c =
    let ms = c.args.ms.now in
    let d = c.args.c in
    let zs = stored d ms in
    let i = c.loop-i.i in
    let m = get_or ms i zero_mapping in
    let next : i + 1 ≤ c.turns-n.result = omega arith in
    let inside : i < length ms = omega (arith, c.turns-n.ensures, turns_within d (length ms)) in
    let as_was : get_or c.loop-i.ms i zero_mapping ≡ m =
    ap (λ (l : _). get_or l i zero_mapping) c.loop-i.invariant.made ∙ stores-rest zero_mapping zs ms i i (le_refl i) in
    let asked : c.is_changed.result ≡ changes d i m = c.is_changed.ensures ∙ ap (changes d i) as_was in
    elim c.if-is_changed.branch [
      | then-is_changed w ↦ record {
        within = next;
        made =
            w.ms-is
            ∙ ap (set c.loop-i.ms i) (c.new_record-r.ensures ∙ sym (stored_at d ms i inside ∙ next-changed d i m (sym asked ∙ w.if-is_changed.true)))
            ∙ ap (λ (l : _). set l i (get_or zs i zero_mapping)) c.loop-i.invariant.made
            ∙ stores-next zero_mapping zs ms i;
      }
      | else-is_changed w ↦ record {
        within = next;
        made =
            w.ms-is
            ∙ c.loop-i.invariant.made
            ∙ stores_same zero_mapping zs ms i (stored_at d ms i inside ∙ next-kept d i m (sym asked ∙ w.if-is_changed.false));
      }
    ]

pub returns : goal.returns
returns c =
    let ms = c.args.ms.now in
    let all : c.loop-i.i ≡ turns_of c.args.c (length ms) = omega (arith, c.loop-i.invariant.within, c.turns-n.ensures) in
    c.loop-i.invariant.made ∙ ap (stores zero_mapping (stored c.args.c ms) ms) all ∙ stored-turns ms c.args.c
