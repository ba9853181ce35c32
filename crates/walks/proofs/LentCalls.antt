-- Calls that are lent slices which the function holds as `&mut` (`Held.antt`).
--     TakesMut             the signature of a call with a `&mut [E]`, which is passed `ks` besides, at m lifetimes of their own, and answers with an R
--     lends_mut            the slice is held at ys, the m lifetimes' tokens are there, and P, which gives what `ks` own; the call's contract says Q of its answer and
--                          of the slice's last list; the call runs, and then the slice is held again, at that list, and the tokens are there
--     TakesShr, lends_shr  the same of a call with a `&[E]`, and no other lifetimes, where E is `Shareable` at κ; the slice stays as it was
--     TakesBoth, lends_both        the same of a call with a `&mut [E]` and a `&[F]`, and no other lifetimes, where F is `Shareable` at κ'
--     lends-past           the same where the function has the second slice as `&`, and passes on what it owns of it
-- Assumes nothing.
use mathlib.Core.Path.{◌≡◌, refl, sym, ap}
use Prim.Native.Nat.{ℕ, suc}
use mathlib.Core.List.{List, [], ◌∷◌}
use seplogic.Ra.Ura.{Ura}
use base.Fraction.{full_share}
use mir.Syntax.{Callee, Lifetime, named}
use mir.Val.{Val}
use base.Logic.{SProp, ent, sep, ex, guard, emp, id⊢}
use base.Fml.{Lft, GName, Share, Fml, ftrue, flft}
use prog.Wp.{Calls}
use types.Logic.{Logic, sem}
use sound.WpLaws.{FmC}
use contract.Lifetimes.{Lfts, Shares, toks}
use contract.Monad.{fact}
use types.Kit.{‵, raw, ◌⊛◌, ⋆, prop, ◌$◌, ◌∵◌, !, qed, move, keep, use0, use1, use2, split, join, regoal, fsplit, fjoin, feq_l, updating, now as at_once}
use types.Kit.{check, show, done}
use denote.RattleType.{RattleType, Denots, Valss, owns}
use denote.Laws.{Is, valss}
use denote.Ref.{Bor, MutBor}
use denote.Shares.{Shares as Shareable}
use denote.Signature.{plain}
use denote.Slice.{ShrSlice, shr_slice_vals}
use denote.Steps.{only, heard, nothing}
use denote.Triple.Clauses.{Clauses, Ended, AtExit}
use denote.Triple.Entry.{Args}
use denote.Triple.Statement.{Triple}
use Rattle.walks.proofs.Calls.{Yields, asks, call_answers}
use Rattle.walks.proofs.Contracts.{Contracted}
use Rattle.walks.proofs.Known.{Known, lent, shared, rows, spells, passed_as, Related, ended, Value, types_of, owned_values}
use Rattle.walks.proofs.Held.{under, as_shared, HasSlice, lends, comes_home, lends_shared, returns_home}

-- a call with a `&mut [E]`
abbrev pub TakesMut : (E : RattleType) (m : ℕ) → List (Known (suc m)) → RattleType → Ended
TakesMut E m ks R = ended (lent 0 tt E ∷ ks) (plain (λ _. R))

-- a call with a `&[E]`
abbrev pub TakesShr : (E : RattleType) → List (Known 1) → RattleType → Ended
TakesShr E ks R = ended (shared 0 tt E ∷ ks) (plain (λ _. R))

-- a call with a `&mut [E]` and a `&[F]`
abbrev pub TakesBoth : (E F : RattleType) → List (Known 2) → RattleType → Ended
TakesBoth E F ks R = ended (lent 0 tt E ∷ shared 1 tt F ∷ ks) (plain (λ _. R))

module _ (E : RattleType) (ℓ : Lifetime) (κ : Lft) (q : Share) (x : MutBor (List E.Denot)) (v : Val) {M : Type 1} {𝓤 : Ura M} (𝓛 : Logic 𝓤)
    (C : Calls 𝓤 𝓛.H)
    (fm : FmC 𝓤 𝓛.H 𝓛.laws C) (ys : List E.Denot) where
  open 𝓛 use {H}

  abbrev Whole : List E.Denot → Fml
  Whole = HasSlice E ℓ κ q x v

  module _ (m : ℕ) (κs : Lfts m) (qs : Shares m) (ks : List (Known (suc m))) (R : RattleType) (c : Clauses 𝓤 (TakesMut E m ks R))
      (rest : (ν : ℕ) → Denots (rows (ν ∷ [], κs) ks)) where
    -- what the callee is passed: the slice, lent for ν under the name δ
    abbrev args : (ν : ℕ) (δ : GName) → Args (TakesMut E m ks R).signature (ν ∷ [], κs)
    args ν δ = (under E ℓ κ q x v δ ys, rest ν)

    -- the machine values of the others
    abbrev vals : (ν : ℕ) → Valss (rows (ν ∷ [], κs) ks)
    vals ν = valss (rows (ν ∷ [], κs) ks) (spells (ν ∷ [], κs) ks) (rest ν)

    -- the call runs with the slice as `&mut`
    pub lends_mut : (callee : Callee) → Triple 𝓤 (C callee) (Contracted 𝓛 (TakesMut E m ks R) c)
        → (us : List Val) → ((ν : ℕ) → passed_as (ν ∷ [], κs) ks (rest ν) ≡ us)
        → (P : SProp 𝓤) → ((ν : ℕ) → ent 𝓤 P (sem 𝓛 (owns (rows (ν ∷ [], κs) ks) (rest ν) (vals ν))))
        → (g : (ν : ℕ) (δ : GName) → (c (ν ∷ [], κs) (args ν δ)).ghost)
        → ((ν : ℕ) (δ : GName) → ent 𝓤 (emp 𝓤) ((c (ν ∷ [], κs) (args ν δ)).requires (g ν δ))) → (Q : R.Denot → List E.Denot → Type 0)
        → ((ν : ℕ) (δ : GName) (r : R.Denot) (e : AtExit (TakesMut E m ks R) (ν ∷ [], κs))
        → ent 𝓤 ((c (ν ∷ [], κs) (args ν δ)).ensures (g ν δ) r e) (fact 𝓤 (Q r e.0.now)))
        → ent 𝓤 (⋆ 𝓛 (‵ (Whole ys) ∷ raw (toks 𝓛 m κs qs) ∷ raw P ∷ []))
        (H.⇛ (C callee (v ∷ us) (Yields 𝓤 H R (λ r. ex 𝓤 (λ (zs : List E.Denot). guard 𝓤 (Q r zs) (sep 𝓤 (sem 𝓛 (Whole zs)) (toks 𝓛 m κs qs)))))))
    lends_mut callee known us us-are P had g asked Q said =
        let Ends : R.Denot → List E.Denot → SProp 𝓤 = λ r zs. guard 𝓤 (Q r zs) (sep 𝓤 (sem 𝓛 (Whole zs)) (toks 𝓛 m κs qs)) in
        qed 𝓛 (‵ (Whole ys) ∷ raw (toks 𝓛 m κs qs) ∷ raw P ∷ []) ∵ updating ! $ lends E ℓ κ q x v ! tt (named 0) ys (λ ν δ.
        let to : (Contracted 𝓛 (TakesMut E m ks R) c).Ghost = (((ν ∷ [], κs), (full_share, qs), tt, args ν δ, (v ∷ [], vals ν)), g ν δ) in
        at_once ! $ regoal ! (λ (ws : List Val). prop (C callee (v ∷ ws) (Yields 𝓤 H R (λ r. ex 𝓤 (Ends r))))) (sym (us-are ν)) refl $
        -- [the slice, lent; ν's token; what is kept of it; the others' tokens; P]
        move ! (4 ∷ []) $ use1 𝓛 (‵ (owns (rows (ν ∷ [], κs) ks) (rest ν) (vals ν))) (had ν) $ move ! (1 ∷ 0 ∷ []) $ fjoin ! $ move ! (1 ∷ 3 ∷ []) $ join ! $
        join ! $
        use0 𝓛 (raw ((c (ν ∷ [], κs) (args ν δ)).requires (g ν δ))) (asked ν δ) $ move ! (1 ∷ 0 ∷ []) $
        use2 𝓛 (raw ((Contracted 𝓛 (TakesMut E m ks R) c).pre to)) (id⊢ 𝓤 _) $
        asks ! fm (Contracted 𝓛 (TakesMut E m ks R) c) known to
        (λ w. updating ! $ call_answers ! (TakesMut E m ks R) c to w (λ r is ws. use1 𝓛 (raw (fact 𝓤 (Q r ws.0))) (said ν δ r _) $ heard ! (Q r ws.0) (λ holds.
        -- [the tokens; the last lists; what is kept of the slice]
        use1 𝓛 (‵ (flft (ν ∷ []) full_share) ⊛ raw (toks 𝓛 m κs qs)) (id⊢ 𝓤 _) $ split ! $ move ! (2 ∷ []) $ fsplit ! $ fsplit ! $ fsplit ! $ move ! (1 ∷ []) $ feq_l ! (λ len.
        -- [the slice's last list; its borrow at ν; the others' last lists; ν's token; the others' tokens; what is kept of the slice]
        move ! (3 ∷ 5 ∷ 0 ∷ []) $ comes_home E ℓ κ q x v ! tt ys ws.0 len $ at_once ! $
        show ! (λ (z : R.Denot). guard 𝓤 (Is R z (w ∷ [])) (ex 𝓤 (Ends z))) r $ check ! is $ show ! (Ends r) ws.0 $ check ! holds $ keep ! (0 ∷ 3 ∷ []) $
        done !)))))

  module _ (vs : List (Value 1)) (R : RattleType) (c : Clauses 𝓤 (TakesShr E (types_of vs) R)) (rest : (μ : ℕ) → Denots (rows (μ ∷ [], tt) (types_of vs))) where
    -- what the callee is passed: the slice, lent for μ
    abbrev shown : (μ : ℕ) → Args (TakesShr E (types_of vs) R).signature (μ ∷ [], tt)
    shown μ = (as_shared E ℓ κ q x v ys, rest μ)

    abbrev vals_shown : (μ : ℕ) → Valss (rows (μ ∷ [], tt) (types_of vs))
    vals_shown μ = valss (rows (μ ∷ [], tt) (types_of vs)) (spells (μ ∷ [], tt) (types_of vs)) (rest μ)

    -- the call runs with the slice as `&`
    pub lends_shr : Shareable 𝓛 E κ → (callee : Callee) → Triple 𝓤 (C callee) (Contracted 𝓛 (TakesShr E (types_of vs) R) c)
        → (us : List Val) → ((μ : ℕ) → passed_as (μ ∷ [], tt) (types_of vs) (rest μ) ≡ us)
        → ((μ : ℕ) → Related (μ ∷ [], tt) (types_of vs) (rest μ)) → (g : (μ : ℕ) → (c (μ ∷ [], tt) (shown μ)).ghost)
        → ((μ : ℕ) → ent 𝓤 (emp 𝓤) ((c (μ ∷ [], tt) (shown μ)).requires (g μ))) → (Q : R.Denot → Type 0)
        → ((μ : ℕ) (r : R.Denot) (e : AtExit (TakesShr E (types_of vs) R) (μ ∷ [], tt))
        → ent 𝓤 ((c (μ ∷ [], tt) (shown μ)).ensures (g μ) r e) (fact 𝓤 (Q r)))
        → ent 𝓤 (sem 𝓛 (Whole ys)) (H.⇛ (C callee (v ∷ us) (Yields 𝓤 H R (λ r. guard 𝓤 (Q r) (sem 𝓛 (Whole ys))))))
    lends_shr shareable callee known us us-are are g asked Q said =
        qed 𝓛 (‵ (Whole ys) ∷ []) ∵ updating ! $ lends_shared E ℓ κ q x v ! tt shareable (named 0) ys (λ μ.
        let to : (Contracted 𝓛 (TakesShr E (types_of vs) R) c).Ghost = (((μ ∷ [], tt), (full_share, tt), tt, shown μ, (v ∷ [], vals_shown μ)), g μ) in
        at_once ! $ regoal ! (λ (ws : List Val). prop (C callee (v ∷ ws) (Yields 𝓤 H R (λ r. guard 𝓤 (Q r) (sem 𝓛 (Whole ys)))))) (sym (us-are μ)) refl $
        -- [the slice, lent; μ's token; what is kept of it]
        use0 𝓛 (‵ (owns (rows (μ ∷ [], tt) (types_of vs)) (rest μ) (vals_shown μ))) (owned_values 𝓛 (μ ∷ [], tt) vs (rest μ) (are μ)) $ move ! (1 ∷ 0 ∷ []) $
        fjoin ! $ nothing ! $ move ! (2 ∷ 0 ∷ []) $ join ! $ join ! $
        use0 𝓛 (raw ((c (μ ∷ [], tt) (shown μ)).requires (g μ))) (asked μ) $ move ! (1 ∷ 0 ∷ []) $
        use2 𝓛 (raw ((Contracted 𝓛 (TakesShr E (types_of vs) R) c).pre to)) (id⊢ 𝓤 _) $
        asks ! fm (Contracted 𝓛 (TakesShr E (types_of vs) R) c) known to
        (λ w. updating ! $ call_answers ! (TakesShr E (types_of vs) R) c to w (λ r is ws. use1 𝓛 (raw (fact 𝓤 (Q r))) (said μ r _) $ heard ! (Q r) (λ holds.
        -- [the tokens; the last lists; what is kept of the slice]
        use1 𝓛 (‵ (flft (μ ∷ []) full_share) ⊛ ‵ ftrue) (id⊢ 𝓤 _) $ split ! $ move ! (0 ∷ 3 ∷ []) $ returns_home E ℓ κ q x v ! tt ys $ at_once ! $
        show ! (λ (z : R.Denot). guard 𝓤 (Is R z (w ∷ [])) (guard 𝓤 (Q z) (sem 𝓛 (Whole ys)))) r $ check ! is $ check ! holds $ keep ! (0 ∷ []) $ done !))))

-- x is lent as `&mut`, and z as `&`
module _ (E F : RattleType) (ℓ ℓ' : Lifetime) (κ κ' : Lft) (q q' : Share) (x : MutBor (List E.Denot)) (z : MutBor (List F.Denot)) (xv zv : Val) where
  -- x, as it is held
  abbrev pub Written : List E.Denot → Fml
  Written = HasSlice E ℓ κ q x xv

  -- z, as it is held
  abbrev pub Read : List F.Denot → Fml
  Read = HasSlice F ℓ' κ' q' z zv

  module _ {M : Type 1} {𝓤 : Ura M} (𝓛 : Logic 𝓤) (C : Calls 𝓤 𝓛.H) (fm : FmC 𝓤 𝓛.H 𝓛.laws C) (xs : List E.Denot)
      (zs : List F.Denot) where
    open 𝓛 use {H}

    module _ (vs : List (Value 2)) (R : RattleType) (c : Clauses 𝓤 (TakesBoth E F (types_of vs) R)) (rest : (κs : Lfts 2) → Denots (rows κs (types_of vs))) where
      -- what the callee is passed: x, lent for ν under the name δ, and z, for μ
      abbrev lent-args : (ν μ : ℕ) (δ : GName) → Args (TakesBoth E F (types_of vs) R).signature (ν ∷ [], (μ ∷ [], tt))
      lent-args ν μ δ = (under E ℓ κ q x xv δ xs, (as_shared F ℓ' κ' q' z zv zs, rest (ν ∷ [], (μ ∷ [], tt))))

      abbrev vals-lent : (κs : Lfts 2) → Valss (rows κs (types_of vs))
      vals-lent κs = valss (rows κs (types_of vs)) (spells κs (types_of vs)) (rest κs)

      -- the call runs with x as `&mut` and z as `&`
      pub lends_both : Shareable 𝓛 F κ' → (callee : Callee) → Triple 𝓤 (C callee) (Contracted 𝓛 (TakesBoth E F (types_of vs) R) c) → (us : List Val)
          → ((κs : Lfts 2) → passed_as κs (types_of vs) (rest κs) ≡ us)
          → ((κs : Lfts 2) → Related κs (types_of vs) (rest κs))
          → (g : (ν μ : ℕ) (δ : GName) → (c (ν ∷ [], (μ ∷ [], tt)) (lent-args ν μ δ)).ghost)
          → ((ν μ : ℕ) (δ : GName) → ent 𝓤 (emp 𝓤) ((c (ν ∷ [], (μ ∷ [], tt)) (lent-args ν μ δ)).requires (g ν μ δ))) → (Q : R.Denot → List E.Denot → Type 0)
          → ((ν μ : ℕ) (δ : GName) (r : R.Denot) (e : AtExit (TakesBoth E F (types_of vs) R) (ν ∷ [], (μ ∷ [], tt)))
          → ent 𝓤 ((c (ν ∷ [], (μ ∷ [], tt)) (lent-args ν μ δ)).ensures (g ν μ δ) r e) (fact 𝓤 (Q r e.0.now)))
          → ent 𝓤 (⋆ 𝓛 (‵ (Written xs) ∷ ‵ (Read zs) ∷ []))
          (H.⇛ (C callee (xv ∷ zv ∷ us) (Yields 𝓤 H R
          (λ r. ex 𝓤 (λ (us : List E.Denot). guard 𝓤 (Q r us) (sep 𝓤 (sem 𝓛 (Written us)) (sem 𝓛 (Read zs))))))))
      lends_both shareable callee known us us-are are g asked Q said =
          let Ends : R.Denot → List E.Denot → SProp 𝓤 = λ r us. guard 𝓤 (Q r us) (sep 𝓤 (sem 𝓛 (Written us)) (sem 𝓛 (Read zs))) in
          qed 𝓛 (‵ (Written xs) ∷ ‵ (Read zs) ∷ []) ∵ updating ! $
          lends E ℓ κ q x xv ! tt (named 0) xs (λ ν δ. move ! (3 ∷ []) $ lends_shared F ℓ' κ' q' z zv ! tt shareable (named 1) zs (λ μ.
          let κs : Lfts 2 = (ν ∷ [], (μ ∷ [], tt)) in
          let to : (Contracted 𝓛 (TakesBoth E F (types_of vs) R) c).Ghost =
          ((κs, (full_share, (full_share, tt)), tt, lent-args ν μ δ, (xv ∷ [], (zv ∷ [], vals-lent κs))), g ν μ δ) in
          at_once ! $ regoal ! (λ (ws : List Val). prop (C callee (xv ∷ zv ∷ ws) (Yields 𝓤 H R (λ r. ex 𝓤 (Ends r))))) (sym (us-are κs)) refl $
          -- [z, lent; μ's token; what is kept of it; x, lent; ν's token; what is kept of it]
          use0 𝓛 (‵ (owns (rows κs (types_of vs)) (rest κs) (vals-lent κs))) (owned_values 𝓛 κs vs (rest κs) (are κs)) $ move ! (1 ∷ 0 ∷ []) $ fjoin ! $
          move ! (3 ∷ 0 ∷ []) $ fjoin ! $ nothing ! $
          move ! (2 ∷ 0 ∷ []) $ join ! $ move ! (3 ∷ 0 ∷ []) $ join ! $ move ! (0 ∷ 1 ∷ []) $ join ! $
          use0 𝓛 (raw ((c κs (lent-args ν μ δ)).requires (g ν μ δ))) (asked ν μ δ) $ move ! (1 ∷ 0 ∷ []) $
          use2 𝓛 (raw ((Contracted 𝓛 (TakesBoth E F (types_of vs) R) c).pre to)) (id⊢ 𝓤 _) $
          asks ! fm (Contracted 𝓛 (TakesBoth E F (types_of vs) R) c) known to (λ w. updating ! $ call_answers ! (TakesBoth E F (types_of vs) R) c to w (λ r is ws.
          use1 𝓛 (raw (fact 𝓤 (Q r ws.0))) (said ν μ δ r _) $ heard ! (Q r ws.0) (λ holds.
          -- [the tokens; the last lists; what is kept of z; what is kept of x]
          use1 𝓛 (‵ (flft (ν ∷ []) full_share) ⊛ ‵ (flft (μ ∷ []) full_share) ⊛ ‵ ftrue) (id⊢ 𝓤 _) $ split ! $ move ! (1 ∷ []) $ split ! $ move ! (0 ∷ 4 ∷ []) $
          returns_home F ℓ' κ' q' z zv ! tt zs $
          move ! (3 ∷ []) $ fsplit ! $ fsplit ! $ fsplit ! $ move ! (1 ∷ []) $
          feq_l ! (λ len. move ! (5 ∷ 6 ∷ 0 ∷ []) $ comes_home E ℓ κ q x xv ! tt xs ws.0 len $ at_once ! $
          show ! (λ (z : R.Denot). guard 𝓤 (Is R z (w ∷ [])) (ex 𝓤 (Ends z))) r $ check ! is $ show ! (Ends r) ws.0 $ check ! holds $ keep ! (0 ∷ 3 ∷ []) $
          done !))))))

-- x is lent as `&mut`, and z, which the function has as `&`, is passed on
module _ (E F : RattleType) (ℓ : Lifetime) (κ κ' : Lft) (q q' : Share) (x : MutBor (List E.Denot)) (z : Bor (List F.Denot)) (xv : Val) where
  abbrev pv : Val
  pv = only (shr_slice_vals z)

  -- what is owned of z
  abbrev pub PassedOn : Fml
  PassedOn = (ShrSlice (named 1) κ' F).own_val z (pv ∷ [])

  module _ {M : Type 1} {𝓤 : Ura M} (𝓛 : Logic 𝓤) (C : Calls 𝓤 𝓛.H) (fm : FmC 𝓤 𝓛.H 𝓛.laws C) (xs : List E.Denot) where
    open 𝓛 use {H}

    -- the token of z's lifetime
    abbrev Token : SProp 𝓤
    Token = toks 𝓛 1 (κ', tt) (q', tt)

    module _ (vs : List (Value 2)) (R : RattleType) (c : Clauses 𝓤 (TakesBoth E F (types_of vs) R)) (rest : (κs : Lfts 2) → Denots (rows κs (types_of vs))) where
      -- what the callee is passed: x, lent for ν under the name δ, and z
      abbrev past-args : (ν : ℕ) (δ : GName) → Args (TakesBoth E F (types_of vs) R).signature (ν ∷ [], (κ', tt))
      past-args ν δ = (under E ℓ κ q x xv δ xs, (z, rest (ν ∷ [], (κ', tt))))

      abbrev past-vals : (κs : Lfts 2) → Valss (rows κs (types_of vs))
      past-vals κs = valss (rows κs (types_of vs)) (spells κs (types_of vs)) (rest κs)

      -- the call runs with x as `&mut` and z as `&`
      pub lends-past : (callee : Callee) → Triple 𝓤 (C callee) (Contracted 𝓛 (TakesBoth E F (types_of vs) R) c) → (us : List Val)
          → ((κs : Lfts 2) → passed_as κs (types_of vs) (rest κs) ≡ us)
          → ((κs : Lfts 2) → Related κs (types_of vs) (rest κs))
          → (g : (ν : ℕ) (δ : GName) → (c (ν ∷ [], (κ', tt)) (past-args ν δ)).ghost)
          → ((ν : ℕ) (δ : GName) → ent 𝓤 (emp 𝓤) ((c (ν ∷ [], (κ', tt)) (past-args ν δ)).requires (g ν δ))) → (Q : R.Denot → List E.Denot → Type 0)
          → ((ν : ℕ) (δ : GName) (r : R.Denot) (e : AtExit (TakesBoth E F (types_of vs) R) (ν ∷ [], (κ', tt)))
          → ent 𝓤 ((c (ν ∷ [], (κ', tt)) (past-args ν δ)).ensures (g ν δ) r e) (fact 𝓤 (Q r e.0.now)))
          → ent 𝓤 (⋆ 𝓛 (‵ (HasSlice E ℓ κ q x xv xs) ∷ raw Token ∷ raw (sem 𝓛 PassedOn) ∷ []))
          (H.⇛ (C callee (xv ∷ pv ∷ us) (Yields 𝓤 H R
          (λ r. ex 𝓤 (λ (zs : List E.Denot). guard 𝓤 (Q r zs) (sep 𝓤 (sem 𝓛 (HasSlice E ℓ κ q x xv zs)) Token))))))
      lends-past callee known us us-are are g asked Q said = lends_mut E ℓ κ q x xv 𝓛 C fm xs 1 (κ', tt) (q', tt) (shared 1 tt F ∷ types_of vs) R c
          (λ ν. (z, rest (ν ∷ [], (κ', tt)))) callee known (pv ∷ us) (λ ν. ap (λ (ws : List Val). pv ∷ ws) (us-are (ν ∷ [], (κ', tt)))) (sem 𝓛 PassedOn)
          (λ ν. qed 𝓛 (‵ PassedOn ∷ []) ∵
          use0 𝓛 (‵ (owns (rows (ν ∷ [], (κ', tt)) (types_of vs)) (rest (ν ∷ [], (κ', tt))) (past-vals (ν ∷ [], (κ', tt)))))
          (owned_values 𝓛 (ν ∷ [], (κ', tt)) vs (rest (ν ∷ [], (κ', tt))) (are (ν ∷ [], (κ', tt)))) $ move ! (1 ∷ 0 ∷ []) $ fjoin ! $ done !)
          g asked Q said
