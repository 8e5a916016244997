-- How many records are read, and that a turn makes the words of the record at its place.
use Rattle.std.proofs.Common.{◌≡◌, ◌<◌, length, get_or, set, sym, ◌∙◌, ap, subst, zero-le, arith}
use Rattle.walks.specs.Stores.{stores, stores-none, stores-next}
use Rattle.lent_records.specs.Loading.{blank, bound_of, loaded, Back, Loaded, bound-within, loaded_at, loaded-done, loaded-all, back_none, back-next}
use Rattle.lent_records.proofs.load.Goals as goal

pub loop-i-init : goal.loop-i-init
loop-i-init c = record {
  within = zero-le;
  made = sym (stores-none blank (loaded c.args.ms.now c.args.ws.now) c.args.ws.now);
  back = back_none c.args.ms.now;
}

pub offset_bounds-ms-i : goal.offset_bounds-ms-i
offset_bounds-ms-i c = let w = bound-within (length c.args.ms.now) in omega (arith, w, c.bound-n.ensures)

pub bounds-ms-i : goal.bounds-ms-i
bounds-ms-i c = let w = bound-within (length c.args.ms.now) in omega (arith, w, c.bound-n.ensures)

pub offset_bounds-ws-i : goal.offset_bounds-ws-i
offset_bounds-ws-i c = let w = bound-within (length c.args.ms.now) in omega (arith, w, c.bound-n.ensures)

pub bounds-ws-i : goal.bounds-ws-i
bounds-ws-i c = let w = bound-within (length c.args.ms.now) in omega (arith, w, c.bound-n.ensures)

pub loop-i-preserved : goal.loop-i-preserved
loop-i-preserved c =
    let ms = c.args.ms.now in
    let zs = c.args.ws.now in
    let i = c.loop-i.i in
    let less : i < bound_of (length ms) = omega (arith, c.bound-n.ensures) in
    record {
      within = omega arith;
      made =
          ap (set c.loop-i.ws i) (c.words.ensures.0 ∙ sym (loaded_at ms zs i less))
          ∙ ap (λ (ws : _). set ws i (get_or (loaded ms zs) i blank)) c.loop-i.invariant.made
          ∙ stores-next blank (loaded ms zs) zs i;
      back = back-next ms i c.words.result c.loop-i.invariant.back c.words.ensures.0 c.words.ensures.1;
    }

pub returns : goal.returns
returns c =
    let ms = c.args.ms.now in
    let zs = c.args.ws.now in
    let all : c.loop-i.i ≡ bound_of (length ms) = omega (arith, c.loop-i.invariant.within, c.bound-n.ensures) in
    let made : c.loop-i.ws ≡ loaded ms zs = c.loop-i.invariant.made ∙ ap (stores blank (loaded ms zs) zs) all ∙ loaded-done ms zs c.told-ws in
    subst (Loaded ms) (sym made) (loaded-all ms zs c.told-ws (subst (Back ms) all c.loop-i.invariant.back))
