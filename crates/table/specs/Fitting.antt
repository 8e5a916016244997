-- What bind and ALLOW_IOVAS refuse, as one conjunction each, for the code that asks it.
use Rattle.std.specs.Prelude.{ℕ, ◌≡◌, refl, Bool, true, false, not, ◌&&◌, ◌||◌, leb, ltb, eqb}
use Rattle.std.proofs.Common.{sym, ap, ◌∙◌, leb-true, leb-false, lt-ltb, le-ltb}
use Rattle.lists.specs.Tests.{by-test}
use Rattle.lists.specs.Search.{any}
use Rattle.alignment.specs.Pages.{smallest_page}
use Rattle.rangelists.specs.Listed.{reserved, allowed, valid, overlap}
use Rattle.rules_table.specs.declared.Object.{Object}
use Rattle.rules_table.specs.Fits.{bind_checks, device_fits, list_fits}

ltb_not : (a b : ℕ) → ltb a b ≡ not (leb b a)
ltb_not a b = by-test (leb b a) (λ e. le-ltb a b (leb-true b a e) ∙ ap (λ (x : Bool). not x) (sym e)) (λ e. lt-ltb a b (leb-false b a e) ∙ ap (λ (x : Bool). not x) (sym e))

four : (z p c v : Bool) → (not z && (p && (c && v))) ≡ not ((z || not p) || (not c || (not v || false)))
four true p c v = refl
four false false c v = refl
four false true false v = refl
four false true true false = refl
four false true true true = refl

three : (c v w : Bool) → (c && (v && not w)) ≡ not (not c || ((not v || w) || false))
three false v w = refl
three true false w = refl
three true true false = refl
three true true true = refl

pub device-fits : (o : Object) → (not (eqb o.bitmap 0) && (leb (smallest_page o.bitmap) 4096 && (leb o.reserved.count 4 && valid (reserved o.reserved)))) ≡ device_fits o
unfolding device_fits bind_checks any
device-fits o =
    four (eqb o.bitmap 0) (leb (smallest_page o.bitmap) 4096) (leb o.reserved.count 4) (valid (reserved o.reserved))
    ∙ ap (λ (x : Bool). not ((eqb o.bitmap 0 || x) || (not (leb o.reserved.count 4) || (not (valid (reserved o.reserved)) || false)))) (sym (ltb_not 4096 (smallest_page o.bitmap)))
    ∙ ap (λ (x : Bool). not ((eqb o.bitmap 0 || ltb 4096 (smallest_page o.bitmap)) || (x || (not (valid (reserved o.reserved)) || false)))) (sym (ltb_not 4 o.reserved.count))

pub list_fits-is : (o : Object) → (leb o.allow.count 8 && (valid (allowed o.allow) && not (overlap (allowed o.allow)))) ≡ list_fits o
unfolding list_fits any
list_fits-is o =
    three (leb o.allow.count 8) (valid (allowed o.allow)) (overlap (allowed o.allow))
    ∙ ap (λ (x : Bool). not (x || ((not (valid (allowed o.allow)) || overlap (allowed o.allow)) || false))) (sym (ltb_not 8 o.allow.count))
