-- A `&κ mut [T]` that a function lends to the calls that it makes, one after another. For each call a lifetime is made, and ended when the call is over.
--     under, as_shared     the reference under another name, and the `&` to what it points to, each at another list
--     HasSlice ys          what the function has of it: what the reference owns, at the list ys, and κ's token
--     counts               it is taken apart, and ys is as long as the list was at entry
--     Lent ν δ ys          what it keeps while the slice is lent as `&mut`, for ν and under the name δ
--     lends, comes_home    it is lent as `&mut`; it comes back at the last list zs, which is as long as ys
--     Shared μ ys          what it keeps while the slice is lent as `&`, for μ
--     lends_shared, returns_home       it is lent as `&`; it comes back as it was
--     Shareable 𝓛 R κ      (`denote.Shares.Shares`) a `&` to an R in memory can be made with a token of κ, which `lends_shared` asks. A Copy type is at any κ
--                          (`denote.Copied.Copied`'s `shares`), and another that is at its own lifetimes (`denote.Param.Laws.Laws`'s `shares`) where κ ends no later than those
--                          (`denote.Shares.Shares-less`)
-- Assumes nothing.
use mathlib.Core.Path.{◌≡◌, refl, sym, ap}
use Prim.Native.Nat.{ℕ}
use mathlib.Core.List.{List, [], ◌∷◌}
use lib.ListN.{length}
use seplogic.Ra.Ura.{Ura}
use base.Fraction.{full_share, left, right}
use mir.Syntax.{Lifetime}
use mir.Val.{Val}
use base.Fml.{Lft, GName, Share, Fml, fsep, flft, fobs, fauth, flent, fobor}
use types.Logic.{Logic}
use types.Kit.{Item, ‵, ◌⊛◌, some, later, Goal, Soaks, Seq, Step, step, ◌$◌, move, use1, use2, use3, drop, split, join, pick, rewrite, fsplit, fjoin, feq_i, await}
use contract.BorrowLft.{meet_⊑_left, meet_⊑_right}
use types.Share.{arr_parts}
use types.Tokens.{lft_new, lft_end, lent_back}
use denote.RattleType.{RattleType}
use denote.Shadow.{pure_l, pure_i}
use denote.Laws.{Is, shows}
use denote.Memory.{shares as shares_of}
use denote.Ref.{Bor, MutBor, at_last}
use denote.Shares.{Shares as Shareable}
use denote.Slice.{ShrSlice, MutSlice, heres, finally, mut_slice_at, coded_holeys, mut_slice_Fixes}
use denote.Lend.{Held, lends_shr_slice}
use denote.Index.{opens_slice, closes_slice}
use denote.Steps.{peeks}
use Rattle.walks.proofs.Again.{LentAgain, lends_again, comes_back}

module _ (R : RattleType) (ℓ : Lifetime) (κ : Lft) (q : Share) (x : MutBor (List R.Denot)) (v : Val) where
  -- the reference under another name, at another list
  abbrev pub under : GName → List R.Denot → MutBor (List R.Denot)
  under δ ys = record { ref_ptr = x.ref_ptr; ghost_name = δ; now = ys }

  -- the `&` to what it points to, at another list
  abbrev pub as_shared : List R.Denot → Bor (List R.Denot)
  as_shared ys = record { ref_ptr = x.ref_ptr; now = ys }

  -- what the function has of it, at the list ys
  abbrev pub HasSlice : List R.Denot → Fml
  HasSlice ys = fsep ((MutSlice ℓ κ R).own_val (at_last x ys) (v ∷ [])) (flft κ q)

  -- what is kept while it is lent as `&mut`
  abbrev pub Lent : ℕ → GName → List R.Denot → Fml
  Lent ν δ ys = fsep (mut_slice_at R (at_last x ys) (v ∷ [])) (LentAgain R κ (ν ∷ []) q x.ghost_name x.ref_ptr.0 x.ref_ptr.1 δ ys)

  -- all the elements
  abbrev Part : List R.Denot → Fml
  Part ys = (arr_parts (shares_of R) (length ys)).part full_share ys x.ref_ptr.0 x.ref_ptr.1

  -- what is kept while it is lent as `&`; half of κ's token stands by
  abbrev pub Shared : ℕ → List R.Denot → Fml
  Shared μ ys = fsep (mut_slice_at R (at_last x ys) (v ∷ [])) (fsep (flent (μ ∷ []) (Part ys)) (fsep (fobor κ (left q) (Held R (length ys) x.ref_ptr.0 x.ref_ptr.1 x.ghost_name))
      (fsep (flft κ (right q)) (fsep (fobs x.ghost_name ((coded_holeys R).code (heres R ys))) (fauth x.ghost_name ((coded_holeys R).code (heres R ys)))))))

  module _ {M : Type 1} {𝓤 : Ura M} {𝓛 : Logic 𝓤} {K : Type 0} {Γ : List (Item 𝓤)} {G : Goal 𝓤 𝓛.H} where
    -- it is taken apart, and its length is learned
    pub counts : K → (ys : List R.Denot) → Is (MutSlice ℓ κ R) x (v ∷ [])
        → (length ys ≡ length x.now → Seq K 𝓛 (‵ ((MutSlice ℓ κ R).own_val (at_last x ys) (v ∷ [])) ∷ ‵ (flft κ q) ∷ Γ) G) → Seq K 𝓛 (‵ (HasSlice ys) ∷ Γ) G
    counts t ys at_first k = fsplit t $ peeks t (MutSlice ℓ κ R) (Is (MutSlice ℓ κ R)) (shows 𝓛 (MutSlice ℓ κ R)) (at_last x ys) (v ∷ [])
        (λ is. k (ap (λ (z : (ℕ × ℕ) × ℕ). z.1) (mut_slice_Fixes ℓ κ R (at_last x ys) x (v ∷ []) is at_first)))

    -- it is lent as `&mut`
    pub lends : K → Soaks G → (ℓ' : Lifetime) (ys : List R.Denot)
        → ((ν : ℕ) (δ : GName) → Seq K 𝓛 (‵ ((MutSlice ℓ' (ν ∷ []) R).own_val (under δ ys) (v ∷ [])) ∷ ‵ (flft (ν ∷ []) full_share) ∷ ‵ (Lent ν δ ys) ∷ Γ) G)
        → Seq K 𝓛 (‵ (HasSlice ys) ∷ Γ) G
    lends t z ℓ' ys k = fsplit t $ peeks t (MutSlice ℓ κ R) (Is (MutSlice ℓ κ R)) (shows 𝓛 (MutSlice ℓ κ R)) (at_last x ys) (v ∷ []) (λ is.
        rewrite t 0 (λ (us : List Val). ‵ ((MutSlice ℓ κ R).own_val (at_last x ys) us)) is.0.0 refl $ lft_new t z (λ ν. move t (1 ∷ 2 ∷ []) $
        use2 𝓛 (later (some (λ (δ : GName). ‵ ((MutSlice ℓ' (ν ∷ []) R).own_val (under δ ys) (_ ∷ [])) ⊛ ‵
        (LentAgain R κ (ν ∷ []) q x.ghost_name x.ref_ptr.0 x.ref_ptr.1 δ ys))))
        (lends_again R κ (ν ∷ []) q x.ghost_name x.ref_ptr.0 x.ref_ptr.1 𝓛 ℓ ℓ' ys) $ await t z $ pick t (λ δ. split t $
        rewrite t 0 (λ (us : List Val). ‵ ((MutSlice ℓ' (ν ∷ []) R).own_val (under δ ys) us)) (sym is.0.0) refl $
        -- [the slice, lent; what is kept of it; ν's token; …]
        move t (1 ∷ []) $ pure_i t (mut_slice_at R (at_last x ys) (v ∷ [])) (tt, (tt, tt)) is.0 $ fjoin t $ move t (1 ∷ 2 ∷ 0 ∷ []) $ k ν δ)))

    -- it comes back, at zs
    pub comes_home : K → Soaks G → {ν : ℕ} {δ : GName} (ys zs : List R.Denot) → length zs ≡ length ys
        → Step K 𝓛 (‵ (HasSlice zs) ∷ Γ) G (‵ (flft (ν ∷ []) full_share) ∷ ‵ (Lent ν δ ys) ∷ ‵ (finally R δ zs) ∷ Γ) G
    comes_home t z {ν} {δ} ys zs e = step (λ s. move t (1 ∷ []) $ fsplit t $ pure_l t (mut_slice_at R (at_last x ys) (v ∷ [])) (λ p. move t (1 ∷ []) $ lft_end t z $
        use3 𝓛 (later (‵ ((MutSlice ℓ κ R).own_val (at_last x zs) (_ ∷ [])) ⊛ ‵ (flft κ q)))
        (comes_back R κ (ν ∷ []) q x.ghost_name x.ref_ptr.0 x.ref_ptr.1 𝓛 ℓ ℓ ys δ zs p.1 e) $ await t z $ split t $
        rewrite t 0 (λ (us : List Val). ‵ ((MutSlice ℓ κ R).own_val (at_last x zs) us)) (sym p.0) refl $ fjoin t $ s))

    -- it is lent as `&`, where a `&` to an element is made with κ's token
    pub lends_shared : K → Soaks G → Shareable 𝓛 R κ → (ℓ' : Lifetime) (ys : List R.Denot)
        → ((μ : ℕ) → Seq K 𝓛 (‵ ((ShrSlice ℓ' (μ ∷ []) R).own_val (as_shared ys) (v ∷ [])) ∷ ‵ (flft (μ ∷ []) full_share) ∷ ‵ (Shared μ ys) ∷ Γ) G)
        → Seq K 𝓛 (‵ (HasSlice ys) ∷ Γ) G
    lends_shared t z shareable ℓ' ys k = fsplit t $ fsplit t $ pure_l t (mut_slice_at R (at_last x ys) (v ∷ [])) (λ p. fsplit t $
        -- [obs; the borrow; κ's token; …]
        move t (2 ∷ []) $ use1 𝓛 (‵ (flft κ (left q)) ⊛ ‵ (flft κ (right q))) (𝓛.lfts.lft_split κ q) $ split t $ move t (2 ∷ 3 ∷ 0 ∷ []) $
        opens_slice t z R ys x.ref_ptr.0 x.ref_ptr.1 $ feq_i t ℕ (length ys) (length ys) refl $ fjoin t $ lft_new t z (λ μ.
        -- [μ's token; the elements; the open borrow; obs; auth; half of κ's token; …]
        move t (0 ∷ 5 ∷ []) $ join t $ move t (1 ∷ 0 ∷ []) $
        use2 𝓛 (later ((‵ ((ShrSlice ℓ' (μ ∷ []) R).own_val (as_shared ys) (_ ∷ [])) ⊛ ‵ (flent (μ ∷ []) (Part ys))) ⊛ (‵ (flft (μ ∷ []) full_share) ⊛ ‵ (flft κ (right q)))))
        (lends_shr_slice 𝓛 R ℓ' (μ ∷ []) full_share ys x.ref_ptr.0 x.ref_ptr.1 p.1 κ shareable ((μ ∷ [], full_share) ∷ (κ, right q) ∷ [])
        (meet_⊑_right (μ ∷ []) κ) (meet_⊑_left (μ ∷ []) κ)) $ await t z $ split t $ split t $ move t (2 ∷ []) $ split t $
        -- [μ's token; half of κ's token; the slice, lent; the lender's part; the open borrow; obs; auth; …]
        rewrite t 2 (λ (us : List Val). ‵ ((ShrSlice ℓ' (μ ∷ []) R).own_val (as_shared ys) us)) (sym p.0) refl $
        move t (5 ∷ 6 ∷ []) $ fjoin t $ move t (2 ∷ 0 ∷ []) $ fjoin t $ move t (4 ∷ 0 ∷ []) $ fjoin t $ move t (3 ∷ 0 ∷ []) $ fjoin t $
        pure_i t (mut_slice_at R (at_last x ys) (v ∷ [])) (tt, (tt, tt)) p $ fjoin t $ move t (2 ∷ 1 ∷ 0 ∷ []) $ k μ))

    -- it comes back, as it was
    pub returns_home : K → Soaks G → {μ : ℕ} (ys : List R.Denot) → Step K 𝓛 (‵ (HasSlice ys) ∷ Γ) G (‵ (flft (μ ∷ []) full_share) ∷ ‵ (Shared μ ys) ∷ Γ) G
    returns_home t z {μ} ys = step (λ s. move t (1 ∷ []) $ fsplit t $ pure_l t (mut_slice_at R (at_last x ys) (v ∷ [])) (λ p. fsplit t $
        -- [the lender's part; what else is kept; μ's token; …]
        move t (2 ∷ []) $ lft_end t z $ lent_back t z $ fsplit t $ drop t $ move t (1 ∷ []) $ fsplit t $ move t (1 ∷ []) $ fsplit t $ move t (1 ∷ []) $ fsplit t $
        -- [obs; auth; half of κ's token; the open borrow; the elements; …]
        move t (4 ∷ 3 ∷ 0 ∷ 1 ∷ []) $ closes_slice t z R ys ys refl x.ref_ptr.0 x.ref_ptr.1 $ move t (2 ∷ 3 ∷ []) $
        use2 𝓛 (‵ (flft κ q)) (𝓛.lfts.lft_join κ q) $ move t (1 ∷ 2 ∷ []) $ fjoin t $ pure_i t (mut_slice_at R (at_last x ys) (v ∷ [])) (tt, (tt, tt)) p $ fjoin t $ fjoin t $ s))
