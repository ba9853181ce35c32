-- Formulas in a row, F₁ ∗ (F₂ ∗ (… ∗ true)), as the tokens of a function are, what its parameters own, and what is said of them at exit; and rows with one more
-- at the end.
--     all_of               the row of a list
--     at_end, off_end      one more at the end is joined to a row, and taken off it
--     tokens_of, owned_of, lasts_of        the lists of a function's tokens, of what its parameters own, and of what is said of them at exit
--     with_lft, with_share, with_arg, with_val     lifetimes, shares, arguments and machine values with one more at the end
--     trues                so many formulas that are true
--     enters_with          what a function has on entry becomes what a callee asks that takes one parameter more, at a lifetime of its own; the function's own last
--                          parameters are left out
--     comes_with           what the callee leaves is what the function has at exit, and what is said of that parameter; of the function's own last parameters nothing is said
-- Assumes nothing.
use Prim.Native.Nat.{ℕ, zero, suc}
use mathlib.Core.List.{List, [], ◌∷◌, ◌++◌}
use seplogic.Ra.Ura.{Ura}
use mir.Val.{Val}
use base.Logic.{SProp, ent, sep, emp, id⊢, via, comm∗, assoc∗, assoc', mono_r, fst∗, emp∗}
use base.Fml.{Lft, Share, Fml, ftrue, fsep, flft}
use types.Logic.{Logic, sem}
use contract.Lifetimes.{Lfts, Shares}
use types.Kit.{‵, raw, ◌⊛◌, ⋆, ◌$◌, ◌∵◌, !, qed, move, drop, use1, use2, split, join, fsplit, frame, done}
use denote.RattleType.{RattleType, Denots, Valss}
use denote.Exit.{left}
use denote.Signature.{Slot, types_at}
use denote.Triple.End.{Kepts, Fins}

-- the row of a list
abbrev pub all_of : List Fml → Fml
all_of [] = ftrue
all_of (F ∷ Fs) = fsep F (all_of Fs)

-- ---- a function's tokens, what its parameters own, and what is said of them at exit
abbrev pub tokens_of : (n : ℕ) → Lfts n → Shares n → List Fml
tokens_of zero κs qs = []
tokens_of (suc n) κs qs = flft κs.0 qs.0 ∷ tokens_of n κs.1 qs.1

abbrev pub owned_of : (Ts : List RattleType) → Denots Ts → Valss Ts → List Fml
owned_of [] a vs = []
owned_of (T ∷ Ts) a vs = T.own_val a.0 vs.0 ∷ owned_of Ts a.1 vs.1

abbrev pub lasts_of : {n : ℕ} (κs : Lfts n) (ss : List (Slot n)) (ks : Kepts ss) (a : Denots (types_at ss κs)) → Fins κs ss ks a → List Fml
lasts_of κs [] ks a ws = []
lasts_of κs (s ∷ ss) ks a ws = left ((s.row κs).exit ks.0) a.0 ws.0 ∷ lasts_of κs ss ks.1 a.1 ws.1

-- ---- with one more at the end
abbrev pub with_lft : (n : ℕ) → Lfts n → Lft → Lfts (suc n)
with_lft zero κs κ = (κ, tt)
with_lft (suc n) κs κ = (κs.0, with_lft n κs.1 κ)

abbrev pub with_share : (n : ℕ) → Shares n → Share → Shares (suc n)
with_share zero qs q = (q, tt)
with_share (suc n) qs q = (qs.0, with_share n qs.1 q)

abbrev pub with_arg : (Ts : List RattleType) (R : RattleType) → Denots Ts → R.Denot → Denots (Ts ++ R ∷ [])
with_arg [] R a x = (x, tt)
with_arg (T ∷ Ts) R a x = (a.0, with_arg Ts R a.1 x)

abbrev pub with_val : (Ts : List RattleType) (R : RattleType) → Valss Ts → List Val → Valss (Ts ++ R ∷ [])
with_val [] R vs us = (us, tt)
with_val (T ∷ Ts) R vs us = (vs.0, with_val Ts R vs.1 us)

-- so many that are true
abbrev pub trues : ℕ → List Fml
trues zero = []
trues (suc m) = ftrue ∷ trues m

module _ {M : Type 1} {𝓤 : Ura M} (𝓛 : Logic 𝓤) where
  -- one more is joined to a row
  pub at_end : (Fs : List Fml) (F : Fml) → ent 𝓤 (sep 𝓤 (sem 𝓛 (all_of Fs)) (sem 𝓛 F)) (sem 𝓛 (all_of (Fs ++ F ∷ [])))
  at_end [] F = comm∗ 𝓤 (emp 𝓤) (sem 𝓛 F)
  at_end (G ∷ Fs) F =
      via 𝓤 (sep 𝓤 (sem 𝓛 G) (sep 𝓤 (sem 𝓛 (all_of Fs)) (sem 𝓛 F))) (assoc∗ 𝓤 (sem 𝓛 G) (sem 𝓛 (all_of Fs)) (sem 𝓛 F))
      (mono_r 𝓤 (sem 𝓛 G) (at_end Fs F))

  -- the last is taken off a row
  pub off_end : (Fs : List Fml) (F : Fml) → ent 𝓤 (sem 𝓛 (all_of (Fs ++ F ∷ []))) (sep 𝓤 (sem 𝓛 (all_of Fs)) (sem 𝓛 F))
  off_end [] F = comm∗ 𝓤 (sem 𝓛 F) (emp 𝓤)
  off_end (G ∷ Fs) F =
      via 𝓤 (sep 𝓤 (sem 𝓛 G) (sep 𝓤 (sem 𝓛 (all_of Fs)) (sem 𝓛 F))) (mono_r 𝓤 (sem 𝓛 G) (off_end Fs F))
      (assoc' 𝓤 (sem 𝓛 G) (sem 𝓛 (all_of Fs)) (sem 𝓛 F))

  -- the last of a row are left out
  front : (Fs Gs : List Fml) → ent 𝓤 (sem 𝓛 (all_of (Fs ++ Gs))) (sem 𝓛 (all_of Fs))
  front [] Gs = via 𝓤 (sep 𝓤 (emp 𝓤) (sem 𝓛 (all_of Gs))) (emp∗ 𝓤 (sem 𝓛 (all_of Gs))) (fst∗ 𝓤 (emp 𝓤) (sem 𝓛 (all_of Gs)))
  front (F ∷ Fs) Gs = mono_r 𝓤 (sem 𝓛 F) (front Fs Gs)

  -- true ones are joined to a row
  with_trues : (Fs : List Fml) (m : ℕ) → ent 𝓤 (sem 𝓛 (all_of Fs)) (sem 𝓛 (all_of (Fs ++ trues m)))
  with_trues [] zero = id⊢ 𝓤 (emp 𝓤)
  with_trues [] (suc m) = via 𝓤 (sem 𝓛 (all_of (trues m))) (with_trues [] m) (emp∗ 𝓤 (sem 𝓛 (all_of (trues m))))
  with_trues (F ∷ Fs) m = mono_r 𝓤 (sem 𝓛 F) (with_trues Fs m)

  module _ where
    -- Ts are the function's tokens, Os what its first parameters own and Ps what the last do; t is the token of the callee's own lifetime, and F what the callee's
    -- last parameter owns
    pub enters_with : (Ts Os Ps : List Fml) (t F : Fml)
        → ent 𝓤 (sep 𝓤 (sep 𝓤 (sep 𝓤 (sem 𝓛 (all_of Ts)) (sem 𝓛 (all_of (Os ++ Ps)))) (emp 𝓤)) (sep 𝓤 (sem 𝓛 t) (sem 𝓛 F)))
        (sep 𝓤 (sep 𝓤 (sem 𝓛 (all_of (Ts ++ t ∷ []))) (sem 𝓛 (all_of (Os ++ F ∷ [])))) (emp 𝓤))
    enters_with Ts Os Ps t F =
        qed 𝓛 (((‵ (all_of Ts) ⊛ ‵ (all_of (Os ++ Ps))) ⊛ ‵ ftrue) ∷ ‵ t ∷ ‵ F ∷ []) ∵ split ! $ split ! $ move ! (0 ∷ 3 ∷ []) $
        use2 𝓛 (‵ (all_of (Ts ++ t ∷ []))) (at_end Ts t) $ move ! (1 ∷ []) $ use1 𝓛 (‵ (all_of Os)) (front Os Ps) $ move ! (0 ∷ 3 ∷ []) $
        use2 𝓛 (‵ (all_of (Os ++ F ∷ []))) (at_end Os F) $ move ! (1 ∷ 0 ∷ []) $ join ! $ done !

    -- D is what the callee ensures, which gives E; Ls is what is said of the function's first parameters, of which m more follow, and F and G of the callee's last
    -- parameter
    pub comes_with : (Ts Ls : List Fml) (m : ℕ) (t F G : Fml) (D E : SProp 𝓤) → ent 𝓤 D E
        → ent 𝓤 (⋆ 𝓛 (raw D ∷ ‵ (all_of (Ts ++ t ∷ [])) ∷ ‵ (all_of (Ls ++ fsep F G ∷ [])) ∷ []))
        (sep 𝓤 (sep 𝓤 (sem 𝓛 t) (sem 𝓛 F)) (sep 𝓤 (sem 𝓛 (all_of Ts)) (sep 𝓤 (sem 𝓛 (all_of (Ls ++ trues m))) E)))
    comes_with Ts Ls m t F G D E gives =
        qed 𝓛 (raw D ∷ ‵ (all_of (Ts ++ t ∷ [])) ∷ ‵ (all_of (Ls ++ fsep F G ∷ [])) ∷ []) ∵ use1 𝓛 (raw E) gives $ move ! (1 ∷ []) $
        use1 𝓛 (‵ (all_of Ts) ⊛ ‵ t) (off_end Ts t) $ split ! $ move ! (3 ∷ []) $ use1 𝓛 (‵ (all_of Ls) ⊛ ‵ (fsep F G)) (off_end Ls (fsep F G)) $ split ! $
        move ! (1 ∷ []) $ fsplit ! $
        -- [F; G; Ls; Ts; t; E]
        move ! (4 ∷ 0 ∷ []) $ join ! $ frame ! $ drop ! $ move ! (1 ∷ 0 ∷ []) $ frame ! $ use1 𝓛 (‵ (all_of (Ls ++ trues m))) (with_trues Ls m) $ done !
