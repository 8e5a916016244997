-- The words of each list that no range uses.
use Rattle.std.proofs.Common.{ap, ◌∙◌, sym, ℕ}
use Prim.Native.Nat.{min}
use Rattle.rules_table.specs.Good.{allow_rest}
use Rattle.object_rules.proofs.Zeroing.{froms_rest, ends_rest}
use Rattle.object_rules.proofs.allow_rest.Goals as goal

pub returns-then-are_zero : goal.returns-then-are_zero
unfolding allow_rest
returns-then-are_zero c =
    let o = c.args.o.now in
    let n = c.used-n.ensures ∙ ap (λ (x : ℕ). min x 8) c.allows.ensures in
    let w = c.words.ensures in
    let v = c.words-then-are_zero.ensures in
    rw (sym (froms_rest o.head.now o.at o.below _ n _ w.0 w.1) ∙ sym c.are_zero.ensures ∙ c.if-are_zero.true)
    (c.are_zero-then-are_zero.ensures ∙ ends_rest o.head.now o.at o.below _ n _ v.0 v.1)

pub returns-else-are_zero : goal.returns-else-are_zero
unfolding allow_rest
returns-else-are_zero c =
    let o = c.args.o.now in
    let n = c.used-n.ensures ∙ ap (λ (x : ℕ). min x 8) c.allows.ensures in
    let w = c.words.ensures in
    rw (sym (froms_rest o.head.now o.at o.below _ n _ w.0 w.1) ∙ sym c.are_zero.ensures ∙ c.if-are_zero.false) c.if-are_zero.false
