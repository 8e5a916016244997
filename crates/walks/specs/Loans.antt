-- A `&mut` slice that is lent as a `&` for a while, and comes back as it was. While it is away its lender keeps what `SliceAway` names.
--     share-slice      own (the `&κ mut`) ∗ [κ]_q  ⊢ ⇛ (own (the `&κ'`) ∗ Away)        At any κ', where each element is lent with no token, as one that is Copy is
--     share-slice_by   own (the `&κ mut`) ∗ [κ]_q ∗ tokens  ⊢ ⇛ (own (the `&κ'`) ∗ Away ∗ the tokens)        At any κ', by the law at l by which the elements' type is shared, where the meet of the tokens' lifetimes is within l and κ'
--     slice-again      [†κ'] ∗ Away  ⊢ ⇛ (own (the `&κ mut`) ∗ [κ]_q)
-- Assumes `Logic`.
use Rattle.std.specs.Prelude.{refl, ℕ, ◌+◌, List, [], ◌∷◌, length}
use seplogic.Ra.Ura.{Ura}
use mir.Syntax.{Lifetime}
use mir.Val.{Val}
use base.Fraction.{full_share}
use base.Logic.{SProp, ent, sep}
use base.Fml.{Lft, GName, Share, Fml, Incl, fsep, flft, fdead, fobs, fauth, fhide, flent, fobor}
use ghost.Rules.{Toks, span}
use types.Logic.{Logic, sem, lfts}
use types.Kit.{‵, raw, ◌⊛◌, later, ◌$◌, ◌∵◌, !, qed, move, drop, use1, use2, split, fsplit, fsplit3, fjoin, feq_i, frame, await, updating, now as at_once, done}
use types.Tokens.{lent_back}
use types.Share.{arr_parts}
use Rattle.std.specs.Borrow.{RattleType, Bor, MutBor}
use denote.Shadow.{pure_i}
use denote.Memory.{part_at, mem, shares, shared_of}
use denote.Slice.{slice_val, MutSlice, ShrSlice, heres, Room, shr_slice_at, mut_slice_at, coded_holeys, elements_shared}
use denote.Copied.{Copied}
use denote.Shares.{SharesAsFrom}
use denote.Lends.{Lent, Lent-nothing, Lent-both, Lent-map}
use denote.Lend.{Held, lends_shr_slice}
use denote.Index.{row, opens_slice, closes_slice}

abbrev pub SliceAway : (R : RattleType) → Lft → Lft → Share → GName → ℕ → ℕ → List R.Denot → Fml
SliceAway R κ κ' q γ b o ys = fsep (flent κ' ((arr_parts (shares R) (length ys)).part full_share ys b o)) (fsep (fobor κ q (Held R (length ys) b o γ)) (fsep (fobs γ ((coded_holeys R).code (heres R ys))) (fauth γ ((coded_holeys R).code (heres R ys)))))

module _ {M : Type 1} {𝓤 : Ura M} (𝓛 : Logic 𝓤) (R : RattleType) where
  open 𝓛 use {H}

  -- an element is lent out of its memory with no token
  abbrev pub LentFree : Type 1
  LentFree = (y : R.Denot) (b o : ℕ) → Lent 𝓛 (part_at R full_share y b o) (shared_of R y b o)

  -- as one that is Copy is
  pub copied_lent : Copied 𝓛 R → LentFree
  copied_lent c y b o = c.lends full_share y b o

  -- and so are several
  row_lent : LentFree → (ys : List R.Denot) (b o : ℕ) → Lent 𝓛 (row R full_share ys b o) (elements_shared R ys b o)
  row_lent f [] b o = Lent-nothing 𝓛
  row_lent f (y ∷ ys) b o =
      Lent-both 𝓛 (part_at R full_share y b o) (row R full_share ys b (o + (mem R).size)) (shared_of R y b o) (elements_shared R ys b (o + (mem R).size)) (f y b o) (row_lent f ys b (o + (mem R).size))

  part_lent : LentFree → (ys : List R.Denot) (b o : ℕ) → Lent 𝓛 ((arr_parts (shares R) (length ys)).part full_share ys b o) (elements_shared R ys b o)
  part_lent f ys b o =
      Lent-map 𝓛 ((arr_parts (shares R) (length ys)).part full_share ys b o) (row R full_share ys b o) (elements_shared R ys b o)
      (qed 𝓛 (‵ ((arr_parts (shares R) (length ys)).part full_share ys b o) ∷ []) {P = sem 𝓛 (row R full_share ys b o)} (fsplit ! $ drop ! $ done !))
      (qed 𝓛 (‵ (row R full_share ys b o) ∷ []) {P = sem 𝓛 ((arr_parts (shares R) (length ys)).part full_share ys b o)} (feq_i ! ℕ (length ys) (length ys) refl $ fjoin ! $ done !))
      (row_lent f ys b o)

module _ {M : Type 1} {𝓤 : Ura M} (𝓛 : Logic 𝓤) (R : RattleType) (ℓ : Lifetime) (κ κ' : Lft) (q : Share) (γ : GName) (b o : ℕ) where
  open 𝓛 use {H}

  abbrev ⟦◌⟧ : Fml → SProp 𝓤
  ⟦ P ⟧ = sem 𝓛 P

  module _ (ys : List R.Denot) (g : Room R (length ys)) where
    abbrev slice : MutBor (List R.Denot)
    slice = record { ref_ptr = (b, o); ghost_name = γ; now = ys }

    abbrev seen : Bor (List R.Denot)
    seen = record { ref_ptr = (b, o); now = ys }

    abbrev at : List Val
    at = slice_val (b, o) (length ys) ∷ []

    abbrev part : Fml
    part = (arr_parts (shares R) (length ys)).part full_share ys b o

    pub share-slice : LentFree 𝓛 R → (ℓ' : Lifetime) → ent 𝓤 (sep 𝓤 ⟦ (MutSlice ℓ κ R).own_val slice at ⟧ ⟦ flft κ q ⟧) (H.⇛ (sep 𝓤 ⟦ (ShrSlice ℓ' κ' R).own_val seen at ⟧ ⟦ SliceAway R κ κ' q γ b o ys ⟧))
    share-slice f ℓ' =
        qed 𝓛 (‵ ((MutSlice ℓ κ R).own_val slice at) ∷ ‵ (flft κ q) ∷ []) ∵ updating ! $ fsplit ! $ drop ! $ fsplit ! $ opens_slice ! tt R ys b o $ feq_i ! ℕ (length ys) (length ys) refl $ fjoin ! $
        use1 𝓛 (later (‵ (fhide (elements_shared R ys b o κ')) ⊛ ‵ (flent κ' part))) (part_lent 𝓛 R f ys b o κ') $ await ! tt $ split ! $
        -- [what the `&` shares; the lender's right; the open borrow; obs; auth]
        at_once ! $ pure_i ! (shr_slice_at R seen at) (tt, (tt, tt)) (refl, g) $ fjoin ! $ frame ! $ move ! (2 ∷ 3 ∷ []) $ fjoin ! $ move ! (2 ∷ 0 ∷ []) $ fjoin ! $ move ! (1 ∷ 0 ∷ []) $ fjoin ! $ done !

    pub share-slice_by : (l : Lft) → SharesAsFrom 𝓛 full_share R (shared_of R) l → (ts : Toks) → Incl (span ts) l → Incl (span ts) κ' → (ℓ' : Lifetime)
        → ent 𝓤 (sep 𝓤 ⟦ (MutSlice ℓ κ R).own_val slice at ⟧ (sep 𝓤 ⟦ flft κ q ⟧ (lfts 𝓛 ts))) (H.⇛ (sep 𝓤 ⟦ (ShrSlice ℓ' κ' R).own_val seen at ⟧ (sep 𝓤 ⟦ SliceAway R κ κ' q γ b o ys ⟧ (lfts 𝓛 ts))))
    share-slice_by l s ts inc sp ℓ' =
        qed 𝓛 (‵ ((MutSlice ℓ κ R).own_val slice at) ∷ ‵ (flft κ q) ∷ raw (lfts 𝓛 ts) ∷ []) ∵ updating ! $ fsplit ! $ drop ! $ fsplit ! $ opens_slice ! tt R ys b o $ feq_i ! ℕ (length ys) (length ys) refl $ fjoin ! $
        move ! (0 ∷ 4 ∷ []) $ use2 𝓛 (later ((‵ ((ShrSlice ℓ' κ' R).own_val seen at) ⊛ ‵ (flent κ' part)) ⊛ raw (lfts 𝓛 ts))) (lends_shr_slice 𝓛 R ℓ' κ' full_share ys b o g l s ts inc sp) $ await ! tt $ split ! $ split ! $
        -- [the `&`; the lender's right; the tokens; the open borrow; obs; auth]
        at_once ! $ frame ! $ move ! (3 ∷ 4 ∷ []) $ fjoin ! $ move ! (3 ∷ 0 ∷ []) $ fjoin ! $ move ! (1 ∷ 0 ∷ []) $ fjoin ! $ done !

    pub slice-again : ent 𝓤 (sep 𝓤 ⟦ fdead κ' ⟧ ⟦ SliceAway R κ κ' q γ b o ys ⟧) (H.⇛ (sep 𝓤 ⟦ (MutSlice ℓ κ R).own_val slice at ⟧ ⟦ flft κ q ⟧))
    slice-again =
        qed 𝓛 (‵ (fdead κ') ∷ ‵ (SliceAway R κ κ' q γ b o ys) ∷ []) ∵ updating ! $ move ! (1 ∷ []) $ fsplit ! $ move ! (2 ∷ 0 ∷ []) $ lent_back ! tt $ fsplit ! $ drop ! $ move ! (1 ∷ []) $ fsplit3 ! $ move ! (3 ∷ 0 ∷ 1 ∷ 2 ∷ []) $
        closes_slice ! tt R ys ys refl b o $ at_once ! $ fjoin ! $ pure_i ! (mut_slice_at R slice at) (tt, (tt, tt)) (refl, g) $ fjoin ! $ frame ! $ done !
