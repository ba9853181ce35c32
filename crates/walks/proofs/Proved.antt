-- How a function that is walked is proved.
--     Walked           what is to be shown of its code: it runs from what there is on entry, with the parameters' machine values written out and their relations in
--                      hand, to `Finished` of its answer, which is the contract, with what is had of each parameter at exit
--     proved           with that, it meets its contract
-- Assumes nothing.
use Prim.Native.Nat.{ℕ}
use mathlib.Core.List.{List}
use seplogic.Ra.Ura.{Ura}
use mir.Syntax.{Fn}
use mir.Val.{Val}
use base.Logic.{SProp, ent, sep}
use prog.Model.{Model}
use prog.Routine.{Callee, Env}
use prog.Wp.{WpFn, Closed}
use types.Logic.{Logic}
use contract.Lifetimes.{Lfts, Shares}
use contract.Monad.{Fun}
use contract.Running.{Running, tables, tables_of}
use sound.Laws.{of_model}
use sound.WpLaws.{WpFn-mono}
use denote.RattleType.{Denots}
use denote.Laws.{valss}
use denote.Signature.{Slot}
use denote.Triple.Clauses.{Clauses}
use denote.Triple.Entry.{on_entry}
use denote.Triple.Statement.{Triple}
use denote.Triple.Table.{entered}
use denote.Triple.Walked.{walk_of, walked, walk_Meets}
use Rattle.walks.proofs.Contracts.{Contracted}
use Rattle.walks.proofs.Known.{Parameter, knowns, stays, goes, rows, spells, tells, passed_as, Related, ended}

module _ {n : ℕ} (ps : List (Parameter n)) (r : Slot n) {M : Type 1} {𝓤 : Ura M} (𝓛 : Logic 𝓤) (c : Clauses 𝓤 (ended (knowns ps) r)) where
  module _ (κs : Lfts n) (qs : Shares n) (a : Denots (rows κs (knowns ps))) (g : (c κs a).ghost) where
    -- what there is when the function has answered with a machine value
    abbrev pub Finished : Val → SProp 𝓤
    Finished = (walk_of 𝓛 (ended (knowns ps) r) (stays ps) c).post ((κs, qs, tt, a, valss (rows κs (knowns ps)) (spells κs (knowns ps)) a), g)

  -- what is to be shown of a function's code
  abbrev pub Walked : Fun 𝓤 → Type 1
  Walked run = (κs : Lfts n) (qs : Shares n) (a : Denots (rows κs (knowns ps))) (g : (c κs a).ghost) → Related κs (knowns ps) a
      → ent 𝓤 (sep 𝓤 (on_entry 𝓛 (ended (knowns ps) r).signature κs qs a (valss (rows κs (knowns ps)) (spells κs (knowns ps)) a)) ((c κs a).requires g))
      (run (passed_as κs (knowns ps) a) (Finished κs qs a g))

module _ {n : ℕ} (ps : List (Parameter n)) (r : Slot n) {M : Type 1} {𝓤 : Ura M} (𝓛 : Logic 𝓤) (𝓜 : Model 𝓤 𝓛.H) (𝓡 : Running 𝓤 𝓛.H 𝓜) (γ : Env) where
  open 𝓛 use {H}

  -- the function of the name k
  pub proved : (c : Clauses 𝓤 (ended (knowns ps) r)) (k : Callee) (e : Fn) → Closed 𝓤 H (tables 𝓤 H 𝓜 𝓡 γ).C (tables 𝓤 H 𝓜 𝓡 γ).Λ k e
      → Walked ps r 𝓛 c (WpFn 𝓤 H (tables 𝓤 H 𝓜 𝓡 γ).C (tables 𝓤 H 𝓜 𝓡 γ).Λ e)
      → Triple 𝓤 ((tables 𝓤 H 𝓜 𝓡 γ).C k) (Contracted 𝓛 (ended (knowns ps) r) c)
  unfolding tables_of
  proved c k e closed walk =
      let C = (tables 𝓤 H 𝓜 𝓡 γ).C in
      let Λ = (tables 𝓤 H 𝓜 𝓡 γ).Λ in
      entered 𝓤 H (Contracted 𝓛 (ended (knowns ps) r) c) C Λ k e closed
      (walk_Meets 𝓛 (ended (knowns ps) r) (stays ps) (goes 𝓛 ps) c (WpFn 𝓤 H C Λ e)
      (WpFn-mono 𝓤 H (of_model 𝓤 H 𝓜) (tables_of 𝓤 H 𝓜 (tables 𝓤 H 𝓜 𝓡 γ)) e)
      (walked 𝓛 (ended (knowns ps) r) (stays ps) c (WpFn 𝓤 H C Λ e) (λ κs. spells κs (knowns ps)) (λ κs. tells κs (knowns ps))
      (λ κs qs bounds a g are. walk κs qs a g are)))
