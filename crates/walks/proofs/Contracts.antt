-- Contracts of signatures with clauses: how they are met, and what follows from them.
--     Contracted       the contract of a signature and its clauses, as a Hoare triple
--     entering         a run meets a contract, from a walk with the parameters' machine values written out and their relations in hand
--     Ensures, with_ensures    what may be ensured in the place of what clauses ensure, and the clauses with that
--     Follows, follows         it follows from what the clauses ensure; and then a run that meets the clauses' contract meets the one with that
-- Assumes nothing.
use seplogic.Ra.Ura.{Ura}
use base.Logic.{SProp, ent, sep, wand, via, comm∗, mono_l, mono_r, wand_i, apply∗, ex_i, ex_e}
use types.Logic.{Logic, sem}
use contract.Lifetimes.{Lfts}
use contract.Monad.{Fun, fm→mono}
use denote.RattleType.{flat}
use denote.Laws.{Ises, Are, Spells, Tellss, valss}
use denote.Signature.{types_at}
use denote.Steps.{said}
use denote.Triple.Bound.{Bound}
use denote.Triple.Clauses.{Clauses, Ended, Lasts, AtExit, at_exit, lasts, ensured, closing}
use denote.Triple.Entry.{Args, Res, Vals}
use denote.Triple.Spec.{Back, triple_of}
use denote.Triple.Statement.{Contract, Triple, FmF}

module _ {M : Type 1} {𝓤 : Ura M} (𝓛 : Logic 𝓤) (T : Ended) (c : Clauses 𝓤 T) where
  -- the contract of the clauses c
  abbrev pub Contracted : Contract 𝓤
  Contracted = triple_of 𝓛 T.signature (closing 𝓛 T c)

  -- sp are the parameters' machine values, and tl says that they can only be those
  pub entering : (sp : (κs : Lfts T.signature.lifetimes) → Spells (types_at T.signature.params κs))
      → ((κs : Lfts T.signature.lifetimes) → Tellss (types_at T.signature.params κs) (Ises (types_at T.signature.params κs)) (sp κs)) → (run : Fun 𝓤)
      → ((x : Bound 𝓛 T.signature) (g : (c x.0 x.3).ghost) → let us = valss (types_at T.signature.params x.0) (sp x.0) x.3 in
      Are (types_at T.signature.params x.0) (Ises (types_at T.signature.params x.0)) x.3 us
      → ent 𝓤 (Contracted.pre ((x.0, x.1, x.2, x.3, us), g))
      (run (flat (types_at T.signature.params x.0) us) (Contracted.post ((x.0, x.1, x.2, x.3, us), g))))
      → Triple 𝓤 run Contracted
  entering sp tl run k y =
      let κs = y.0.0 in
      let ts = types_at T.signature.params κs in
      let P : SProp 𝓤 = (c κs y.0.3).requires y.1 in
      let Q : Vals T.signature κs → SProp 𝓤 = λ us. run (flat ts us) (Contracted.post y) in
      via 𝓤 (sep 𝓤 P (wand 𝓤 P (Q y.0.4)))
      (via 𝓤 (sep 𝓤 (wand 𝓤 P (Q y.0.4)) P)
      (mono_l 𝓤 P (said 𝓛 T.signature κs y.0.1 (sp κs) (tl κs) y.0.3 (λ us. wand 𝓤 P (Q us)) y.0.4 (λ are. wand_i 𝓤 _ P _ (k y.0 y.1 are))))
      (comm∗ 𝓤 (wand 𝓤 P (Q y.0.4)) P))
      (apply∗ 𝓤 P (Q y.0.4))

  -- what may be ensured in the place of what c ensures
  abbrev pub Ensures : Type 2
  Ensures = (κs : Lfts T.signature.lifetimes) (a : Args T.signature κs) → (c κs a).ghost → Res T.signature κs → AtExit T κs → SProp 𝓤

  -- the clauses that ensure that
  abbrev pub with_ensures : Ensures → Clauses 𝓤 T
  with_ensures E κs a = record { ghost = (c κs a).ghost; requires = (c κs a).requires; ensures = E κs a }

  -- it follows from what c ensures
  abbrev pub Follows : Ensures → Type 1
  Follows E = (κs : Lfts T.signature.lifetimes) (a : Args T.signature κs) (g : (c κs a).ghost) (x : Res T.signature κs) (e : AtExit T κs)
      → ent 𝓤 ((c κs a).ensures g x e) (E κs a g x e)

module _ {M : Type 1} {𝓤 : Ura M} (𝓛 : Logic 𝓤) (T : Ended) (c : Clauses 𝓤 T) where
  -- the rule of consequence, of what a contract ensures
  pub follows : (E : Ensures 𝓛 T c) → Follows 𝓛 T c E → (run : Fun 𝓤) → FmF 𝓤 run → Triple 𝓤 run (Contracted 𝓛 T c)
      → Triple 𝓤 run (Contracted 𝓛 T (with_ensures 𝓛 T c E))
  follows E implies run fm met y =
      let κs = y.0.0 in
      let a = y.0.3 in
      let g = y.1 in
      via 𝓤 (run ((Contracted 𝓛 T c).args y) ((Contracted 𝓛 T c).post y)) (met y)
      (fm→mono 𝓤 (run ((Contracted 𝓛 T c).args y)) (fm ((Contracted 𝓛 T c).args y)) _ _ (λ u.
      𝓛.laws.⇛_mono _ _ (ex_e 𝓤 (λ (x : Res T.signature κs). sep 𝓤 (Back 𝓛 T.signature y.0 u x) (ensured 𝓛 T c κs a g x)) (λ x.
      via 𝓤 (sep 𝓤 (Back 𝓛 T.signature y.0 u x) (ensured 𝓛 T (with_ensures 𝓛 T c E) κs a g x))
      (mono_r 𝓤 (Back 𝓛 T.signature y.0 u x)
      (ex_e 𝓤 (λ (ws : Lasts T κs a). sep 𝓤 (sem 𝓛 (lasts T κs a ws)) ((c κs a).ensures g x (at_exit T κs a ws))) (λ ws.
      via 𝓤 (sep 𝓤 (sem 𝓛 (lasts T κs a ws)) (E κs a g x (at_exit T κs a ws)))
      (mono_r 𝓤 (sem 𝓛 (lasts T κs a ws)) (implies κs a g x (at_exit T κs a ws)))
      (ex_i 𝓤 (λ (zs : Lasts T κs a). sep 𝓤 (sem 𝓛 (lasts T κs a zs)) (E κs a g x (at_exit T κs a zs))) ws))))
      (ex_i 𝓤 (λ (z : Res T.signature κs). sep 𝓤 (Back 𝓛 T.signature y.0 u z) (ensured 𝓛 T (with_ensures 𝓛 T c E) κs a g z)) x)))))
