-- Calls, as steps of a proof: what is to be shown is that a call runs, and ends in what is wanted of its result.
--     at_value         the relation of a value holds at its machine values, which it fixes
--     Yields R Z       what a call ends in: after an update of ghost state, its result is the machine value of some r of the type R, and Z of r holds
--     onward           of a call that ends in Q, what follows from Q is wanted
--     yields           of a call that yields Y of its result, Z is wanted, which follows from Y
--     calls_into       in code: a call that yields Z of its result, and whose result is stored into the local at entry n
--     asks             what a callee asks is there, and the callee meets its contract: what it ensures is used
--     call_answers     what a callee leaves, taken apart: its result, of which the relation is learned; the tokens; the last lists; and what it ensures
--     informs          what a call has left gives a fact, after an update of ghost state, and is used from there on
--     hands_on         what a callee leaves gives what another contract wants, of the same result, which is of its type
--     ValueIs          u is the machine value of an answer
--     call_yields      a callee that meets its contract can be called, where Q holds of its answer by that contract. Once it has returned, the tokens of its
--                      lifetimes are there again, and what else there was
--     call_answered    the same, where its answer is s by that contract, and s is z
-- Assumes nothing.
use mathlib.Core.Path.{◌≡◌, sym, subst, ap, ◌∙◌}
use mathlib.Core.List.{List, [], ◌∷◌}
use Prim.Native.Nat.{ℕ}
use seplogic.Ra.Ura.{Ura}
use base.Fraction.{full_share}
use lib.Dec.{T}
use mir.Syntax.{Callee, Opd as Operand, Body, seq, call, place}
use mir.Val.{Val, has_ty, WT}
use base.Logic.{SProp, ent, sep, ex, ex_i, guard, guard_i, emp, id⊢, via}
use base.Fml.{fat, froom}
use prog.Wp.{Heap, Env, Calls, Loops, spot_of}
use types.Logic.{Logic, sem}
use sound.WpLaws.{FmC}
use types.Kit.{Item, ‵, raw, ◌⊛◌, given, some, later, prop, upd, runs, lands, Post, nth, put, Goal, Soaks, Seq, ◌$◌, ◌∵◌, !, qed, by, ⋆, push, pop, move}
use types.Kit.{drop, use0, use1, use2, split, join, pick, learn}
use types.Kit.{suffices, frame, await, updating, now as at_once, check, show, done}
use types.Run.{Opds, init, stop, from, calls, land}
use contract.Lifetimes.{Lfts, Shares, toks}
use contract.Monad.{fact}
use denote.RattleType.{RattleType, owns}
use denote.Laws.{Typed, Is, Tells, Lawful, shows}
use denote.Signature.{type_at, types_at}
use denote.Steps.{only, peeks, heard}
use denote.Triple.Clauses.{Clauses, Ended, Lasts, AtExit, at_exit, lasts, ensured}
use denote.Triple.Entry.{Res, alive}
use denote.Triple.Statement.{Contract, Triple}
use Rattle.walks.proofs.Contracts.{Contracted}

-- the relation of x holds at its machine values
pub at_value : (R : RattleType) (vals : R.Denot → List Val) → Tells R (Is R) vals → (x : R.Denot) (vs : List Val) → Is R x vs → Is R x (vals x)
at_value R vals tells x vs is = subst (Is R x) (tells x vs is) is

-- what a call ends in
abbrev pub Yields : {M : Type 1} (𝓤 : Ura M) (H : Heap 𝓤) (R : RattleType) → (R.Denot → SProp 𝓤) → Val → SProp 𝓤
Yields 𝓤 H R Z w = H.⇛ (ex 𝓤 (λ (r : R.Denot). guard 𝓤 (Is R r (w ∷ [])) (Z r)))

module _ {M : Type 1} {𝓤 : Ura M} {𝓛 : Logic 𝓤} {K : Type 0} {Γ : List (Item 𝓤)} where
  open 𝓛 use {H}

  -- a call that ends in Q ends in Z
  pub onward : K → {C : Calls 𝓤 H} → FmC 𝓤 H 𝓛.laws C → {f : Callee} {vs : List Val} {Q Z : Val → SProp 𝓤} → ((w : Val) → Seq K 𝓛 (raw (Q w) ∷ Γ) (prop (Z w)))
      → Seq K 𝓛 (raw (C f vs Q) ∷ Γ) (prop (C f vs Z))
  onward t {C} fm {f} {vs} {Q} {Z} k = record {
    prf = via 𝓤 (sep 𝓤 (C f vs Q) (⋆ 𝓛 Γ)) (pop 𝓛 (raw (C f vs Q)) Γ)
        (fm f vs Q Z (⋆ 𝓛 Γ) (λ w. via 𝓤 (⋆ 𝓛 (raw (Q w) ∷ Γ)) (push 𝓛 (raw (Q w)) Γ) (k w).prf));
  }

  -- a call that yields Y of its result yields Z of it
  pub yields : K → {C : Calls 𝓤 H} → FmC 𝓤 H 𝓛.laws C → {f : Callee} {vs : List Val} (R : RattleType) (Z : R.Denot → SProp 𝓤) {Y : R.Denot → SProp 𝓤}
      → ((r : R.Denot) (w : Val) → Is R r (w ∷ []) → Seq K 𝓛 (raw (Y r) ∷ Γ) (upd (Z r)))
      → Seq K 𝓛 (raw (C f vs (Yields 𝓤 H R Y)) ∷ Γ) (prop (C f vs (Yields 𝓤 H R Z)))
  yields t fm R Z {Y} k = onward t fm (λ w. updating t $ use1 𝓛 (later (some (λ (r : R.Denot). given (Is R r (w ∷ [])) (raw (Y r))))) (id⊢ 𝓤 _) $ await t tt $
      pick t (λ r. learn t (λ is. record {
        prf = via 𝓤 (H.⇛ (Z r)) (k r w is).prf (𝓛.laws.⇛_mono _ _ (via 𝓤 (guard 𝓤 (Is R r (w ∷ [])) (Z r)) (guard_i 𝓤 (Is R r (w ∷ [])) (Z r) is)
            (ex_i 𝓤 (λ (z : R.Denot). guard 𝓤 (Is R z (w ∷ [])) (Z z)) r)));
      })))

  -- a callee that meets c is called
  pub asks : K → {C : Calls 𝓤 H} → FmC 𝓤 H 𝓛.laws C → {f : Callee} (c : Contract 𝓤) → Triple 𝓤 (C f) c → (x : c.Ghost) {Z : Val → SProp 𝓤}
      → ((w : Val) → Seq K 𝓛 (raw (c.post x w) ∷ Γ) (prop (Z w))) → Seq K 𝓛 (raw (c.pre x) ∷ Γ) (prop (C f (c.args x) Z))
  asks t {C} fm {f} c met x k = use1 𝓛 (raw (C f (c.args x) (c.post x))) (met x) $ onward t fm k

  -- what the callee leaves is taken apart
  pub call_answers : K → (T : Ended) (c : Clauses 𝓤 T) (y : (Contracted 𝓛 T c).Ghost) (w : Val) {P : SProp 𝓤}
      → ((r : Res T.signature y.0.0) → Is (type_at T.signature.result y.0.0) r (w ∷ []) → (ws : Lasts T y.0.0 y.0.3)
      → Seq K 𝓛 (raw ((c y.0.0 y.0.3).ensures y.1 r (at_exit T y.0.0 y.0.3 ws)) ∷ raw (toks 𝓛 T.signature.lifetimes y.0.0 y.0.1) ∷ ‵
      (lasts T y.0.0 y.0.3 ws) ∷ Γ) (upd P))
      → Seq K 𝓛 (raw ((Contracted 𝓛 T c).post y w) ∷ Γ) (upd P)
  call_answers t T c y w k =
      let R : RattleType = type_at T.signature.result y.0.0 in
      use1 𝓛 (later (some (λ (r : Res T.signature y.0.0). (raw (toks 𝓛 T.signature.lifetimes y.0.0 y.0.1) ⊛ ‵ (R.own_val r (w ∷ []))) ⊛ raw
      (ensured 𝓛 T c y.0.0 y.0.3 y.1 r)))) (id⊢ 𝓤 _) $ await t tt $ pick t (λ r.
      split t $ split t $ move t (1 ∷ []) $ peeks t R (Is R) (shows 𝓛 R) r (w ∷ []) (λ is. drop t $ move t (1 ∷ []) $
      use1 𝓛 (some (λ (ws : Lasts T y.0.0 y.0.3). ‵ (lasts T y.0.0 y.0.3 ws) ⊛ raw
      ((c y.0.0 y.0.3).ensures y.1 r (at_exit T y.0.0 y.0.3 ws)))) (id⊢ 𝓤 _) $ pick t (λ ws.
      split t $ move t (1 ∷ 2 ∷ 0 ∷ []) $ k r is ws)))

  -- P gives the fact φ, and Q
  pub informs : K → {G : Goal 𝓤 H} → Soaks G → {P Q : SProp 𝓤} {φ : Type 0} → ent 𝓤 P (H.⇛ (guard 𝓤 φ Q)) → (φ → Seq K 𝓛 (raw Q ∷ Γ) G) → Seq K 𝓛 (raw P ∷ Γ) G
  informs t z {P} {Q} {φ} h k = use1 𝓛 (later (given φ (raw Q))) h $ await t z $ learn t k

module _ {M : Type 1} {𝓤 : Ura M} {𝓛 : Logic 𝓤} {K : Type 0} {Γ : List (Item 𝓤)} {E : Env 𝓤 𝓛.H} where
  open 𝓛 use {H}

  -- val gives the result's machine value, which is of the local's type
  pub calls_into : K → {C : Calls 𝓤 H} {Λ : Loops 𝓤 H} {q : Post 𝓤 H} → FmC 𝓤 H 𝓛.laws C → {f : Callee} {xs : List Operand} {x : ℕ} {rest : Body} {vs : List Val}
      (n : ℕ) (R : RattleType) (val : R.Denot → Val) → Tells R (Is R) (λ r. val r ∷ []) → (Z : R.Denot → SProp 𝓤)
      → Opds K 𝓛 (raw (C f vs (Yields 𝓤 H R Z)) ∷ Γ) E xs vs
      → ((r : R.Denot) → nth 𝓛 n (raw (Z r) ∷ Γ) ≡ ‵ (froom (spot_of 𝓤 H E x).0 (spot_of 𝓤 H E x).1 (spot_of 𝓤 H E x).2))
      → ((r : R.Denot) → Is R r (val r ∷ []) → T (has_ty (spot_of 𝓤 H E x).0 (val r)) × WT (val r))
      → ((r : R.Denot) → Is R r (val r ∷ [])
      → Seq K 𝓛 (put 𝓛 n (‵ (fat full_share (spot_of 𝓤 H E x).0 (spot_of 𝓤 H E x).1 (spot_of 𝓤 H E x).2 (val r))) (raw (Z r) ∷ Γ)) (runs C Λ E rest q))
      → Seq K 𝓛 (raw (C f vs (Yields 𝓤 H R Z)) ∷ Γ) (runs C Λ E (seq (call f xs (place x [])) rest) q)
  calls_into t {C} {Λ} {q} fm {f} {xs} {x} {rest} {vs} n R val tells Z os room fits k =
      calls t fm (λ w. later (some (λ (r : R.Denot). given (Is R r (w ∷ [])) (raw (Z r))))) os (λ w. await t tt $ pick t (λ r. learn t (λ is.
      let e : w ≡ val r = ap only (tells r (w ∷ []) is) in
      let is' : Is R r (val r ∷ []) = at_value R (λ z. val z ∷ []) tells r (w ∷ []) is in
      subst (λ (u : Val). Seq K 𝓛 (raw (Z r) ∷ Γ) (lands C Λ E (place x []) u rest q)) (sym e) (land t (from t (stop t)) (init t n (room r) (fits r is')) $ k r is'))))

module _ {M : Type 1} {𝓤 : Ura M} (𝓛 : Logic 𝓤) (n : ℕ) (κs : Lfts n) (qs : Shares n) (R : RattleType) where
  open 𝓛 use {H}

  -- what is there when a call has returned u, where E of its answer holds
  abbrev pub Handed : (R.Denot → SProp 𝓤) → Val → SProp 𝓤
  Handed E u = H.⇛ (ex 𝓤 (λ (x : R.Denot). sep 𝓤 (sep 𝓤 (toks 𝓛 n κs qs) (sem 𝓛 (R.own_val x (u ∷ [])))) (E x)))

  -- E gives F
  pub hands_on : Lawful 𝓛 R → (E F : R.Denot → SProp 𝓤) → ((x : R.Denot) → ent 𝓤 (E x) (F x)) → (u : Val)
      → ent 𝓤 (Handed E u) (H.⇛ (guard 𝓤 (Typed R.mir (u ∷ [])) (Handed F u)))
  hands_on lawful E F h u =
      qed 𝓛 (later (some (λ (x : R.Denot). (raw (toks 𝓛 n κs qs) ⊛ ‵ (R.own_val x (u ∷ []))) ⊛ raw (E x))) ∷ []) ∵ updating ! $ await ! tt $ pick ! (λ x. split ! $
      split ! $ move ! (1 ∷ []) $
      peeks ! R (Is R) (shows 𝓛 R) x (u ∷ []) (λ is. at_once ! $ check ! (lawful.typed x (u ∷ []) is) $ suffices ! _ (𝓛.laws.⇛_intro _) $
      show ! (λ (z : R.Denot). sep 𝓤 (sep 𝓤 (toks 𝓛 n κs qs) (sem 𝓛 (R.own_val z (u ∷ [])))) (F z)) x $ move ! (1 ∷ 0 ∷ []) $ join ! $ frame ! $ by ! (h x)))

-- u is the machine value of s, of its type and related to it
pub record ValueIs (R : RattleType) (vals : R.Denot → List Val) (s : R.Denot) (u : Val) : Type 0 where
  pub typed : Typed R.mir (u ∷ [])
  pub is_value : u ∷ [] ≡ vals s
  pub is : Is R s (vals s)

-- y is what the callee is passed
module _ {M : Type 1} {𝓤 : Ura M} (𝓛 : Logic 𝓤) (C : Calls 𝓤 𝓛.H) (fm : FmC 𝓤 𝓛.H 𝓛.laws C) (T : Ended) (c : Clauses 𝓤 T)
    (y : (Contracted 𝓛 T c).Ghost) where
  open 𝓛 use {H}

  abbrev R : RattleType
  R = type_at T.signature.result y.0.0

  abbrev Tokens : SProp 𝓤
  Tokens = alive 𝓛 T.signature y.0.0 y.0.1

  abbrev Owned : Item 𝓤
  Owned = ‵ (owns (types_at T.signature.params y.0.0) y.0.3 y.0.4)

  -- by its contract Q holds of its answer, and F is what else there is
  pub call_yields : (Q : R.Denot → Type 0) → ((r : Res T.signature y.0.0) (e : AtExit T y.0.0) → ent 𝓤 ((c y.0.0 y.0.3).ensures y.1 r e) (fact 𝓤 (Q r)))
      → (F : SProp 𝓤) (f : Callee) → Triple 𝓤 (C f) (Contracted 𝓛 T c) → ent 𝓤 (emp 𝓤) ((c y.0.0 y.0.3).requires y.1)
      → ent 𝓤 (sep 𝓤 Tokens (sep 𝓤 (sem 𝓛 (owns (types_at T.signature.params y.0.0) y.0.3 y.0.4)) F))
      (C f ((Contracted 𝓛 T c).args y) (Yields 𝓤 H R (λ r. guard 𝓤 (Q r) (sep 𝓤 Tokens F))))
  call_yields Q says F f known asked =
      qed 𝓛 (raw Tokens ∷ Owned ∷ raw F ∷ []) ∵ join ! $ use0 𝓛 (raw ((c y.0.0 y.0.3).requires y.1)) asked $ move ! (1 ∷ 0 ∷ []) $
      use2 𝓛 (raw ((Contracted 𝓛 T c).pre y)) (id⊢ 𝓤 _) $ asks ! fm (Contracted 𝓛 T c) known y (λ u. updating ! $ call_answers ! T c y u (λ r is ws.
      use1 𝓛 (raw (fact 𝓤 (Q r))) (says r (at_exit T y.0.0 y.0.3 ws)) $ heard ! (Q r) (λ holds. move ! (1 ∷ []) $ drop ! $ at_once ! $
      show ! (λ (z : R.Denot). guard 𝓤 (Is R z (u ∷ [])) (guard 𝓤 (Q z) (sep 𝓤 Tokens F))) r $ check ! is $ check ! holds $ done !)))

  -- by its contract its answer is s
  pub call_answered : (s : Res T.signature y.0.0)
      → ((r : Res T.signature y.0.0) (e : AtExit T y.0.0) → ent 𝓤 ((c y.0.0 y.0.3).ensures y.1 r e) (fact 𝓤 (r ≡ s)))
      → (vals : R.Denot → List Val) → Tells R (Is R) vals → Lawful 𝓛 R → (z : R.Denot) → s ≡ z → (F : SProp 𝓤) (f : Callee)
      → Triple 𝓤 (C f) (Contracted 𝓛 T c) → ent 𝓤 (emp 𝓤) ((c y.0.0 y.0.3).requires y.1)
      → ent 𝓤 (sep 𝓤 Tokens (sep 𝓤 (sem 𝓛 (owns (types_at T.signature.params y.0.0) y.0.3 y.0.4)) F))
      (C f ((Contracted 𝓛 T c).args y) (λ u. H.⇛ (guard 𝓤 (ValueIs R vals z u) (sep 𝓤 Tokens F))))
  call_answered s says vals tells lawful z e F f known asked =
      qed 𝓛 (raw (sep 𝓤 Tokens (sep 𝓤 (sem 𝓛 (owns (types_at T.signature.params y.0.0) y.0.3 y.0.4)) F)) ∷ []) ∵
      use1 𝓛 (raw (C f ((Contracted 𝓛 T c).args y) (Yields 𝓤 H R (λ r. guard 𝓤 (r ≡ s) (sep 𝓤 Tokens F))))) (call_yields (λ r. r ≡ s) says F f known asked) $
      onward ! fm (λ u. updating ! $ use1 𝓛 (later (some (λ (r : R.Denot). given (Is R r (u ∷ [])) (given (r ≡ s) (raw (sep 𝓤 Tokens F)))))) (id⊢ 𝓤 _) $ await ! tt $
      pick ! (λ r. learn ! (λ is. learn ! (λ eq. at_once ! $ check ! (record {
        typed = lawful.typed r (u ∷ []) is;
        is_value = tells r (u ∷ []) is ∙ ap vals (eq ∙ e);
        is = subst (λ (w : R.Denot). Is R w (vals w)) (eq ∙ e) (at_value R vals tells r (u ∷ []) is);
      }) $ done !))))
