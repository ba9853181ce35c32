-- What a walk with a loop names.
--     behind-first b   of a sequence, what stands behind its first statement: `behind-first (behind-first turn)` is a loop's turn behind its test
--     Upto n P         what a loop that counts up to n carries from turn to turn: the count, with P of it
--     Nearer           a later count.        nearer_wf    a loop comes to an end of them
--     Turned           what is to be shown of a turn: it ends at a later count, or the loop is left, and the rest of the function runs
-- Assumes nothing.
use Prim.Native.Nat.{ℕ, ◌-◌, ◌≤◌, ◌<◌}
use mathlib.Core.List.{List}
use mathlib.Core.WellFounded.InvImage
use mathlib.Core.WellFounded.{WellFounded}
use lib.WfN.{lt-wf_rel}
use seplogic.Ra.Ura.{Ura}
use mir.Syntax.{Body, skip, seq, assign, block, loop, cond, switch, exit, return, call, unreachable, call_v, lend_static}
use mir.Val.{Val}
use base.Logic.{SProp}
use prog.Wp.{Out, Env, Calls, Loops, Wp, after_seq, after_block, after_turn, at_return}
use types.Logic.{Logic}
use types.Kit.{Item}
use types.Run.{Below}

-- what stands behind the first statement of a sequence
abbrev pub behind-first : Body → Body
behind-first skip = skip
behind-first (seq a b) = b
behind-first (assign p r) = skip
behind-first (block b) = skip
behind-first (loop b) = skip
behind-first (cond c a b) = skip
behind-first (switch c ms) = skip
behind-first (exit n) = skip
behind-first return = skip
behind-first (call f xs d) = skip
behind-first unreachable = skip
behind-first (call_v f s xs d) = skip
behind-first (lend_static d τ c) = skip

module _ (n : ℕ) (P : ℕ → Type 0) where
  -- a count up to n, with P of it
  abbrev pub Upto : Type 0
  Upto = (i : ℕ) × ((i ≤ n) × P i)

  -- j is nearer to n
  abbrev pub Nearer : Upto → Upto → Type 0
  Nearer j i = n - j.0 < n - i.0

  -- a loop comes to an end of them
  pub nearer_wf : WellFounded Nearer
  nearer_wf = InvImage.wf (λ (i : Upto). n - i.0) lt-wf_rel.wf

-- a turn's postcondition, where At i is all that there is at the start of a turn from i
abbrev pub Turned : {M : Type 1} {𝓤 : Ura M} (𝓛 : Logic 𝓤) → Calls 𝓤 𝓛.H → Loops 𝓤 𝓛.H → Env 𝓤 𝓛.H → Body → (Val → SProp 𝓤)
    → {X : Type 0} → (X → X → Type 0) → (X → List (Item 𝓤)) → X → Out → SProp 𝓤
Turned {𝓤 = 𝓤} 𝓛 C Λ En rest Post ≺ At i = after_turn 𝓤 𝓛.H (Below 𝓛 ≺ At i)
    (after_block 𝓤 𝓛.H (after_seq 𝓤 𝓛.H (Wp 𝓤 𝓛.H C Λ En rest (at_return 𝓤 𝓛.H En Post)) (at_return 𝓤 𝓛.H En Post)))
