-- A format that gives what it owes has demand 3 and request 13, for every key.
-- Assumes nothing.
use mathlib.Core.Path.{◌≡◌, refl, ap, fun_ext}
use mathlib.Core.Bool.{Bool, true, false}
use mathlib.Core.List.{List}
use Prim.Native.Nat.{ℕ, ◌+◌, ◌*◌, ◌≤◌, ◌<◌}
use native.Mathlib.Decide.{dec_lt}
use native.Mathlib.Nat.{mul-le-mul_right, suc-mul}
use native.Mathlib.Omega.{arith}
use lib.ListN.{length}
use Rattle.lists.specs.Choices.{pick}
use Rattle.store_theory.specs.Plans.{Plan, write, refuse}
use Rattle.store_theory.specs.Stores.{Succeeds, Laws}
use Rattle.store_theory.specs.Claims.{Demand3, Demand3Runs, Request13}
use Rattle.store_theory.specs.Formats.{Format, plan, system, Writes, FormatLaws}
use Rattle.store_theory.specs.Calls.{CallSystem, CallLaws, Demand3Calls, Request13Calls}
use Rattle.store_theory.proofs.Plans.{refuse-write}
use Rattle.store_theory.proofs.Claims.{order-free, runs_free, last_stands}
use Rattle.store_theory.proofs.Calls.{calls_free, calls_last}

-- two places of one lattice that share a byte are one place
pub on_lattice : (i base w j k : ℕ) → base + j * w ≤ i → i < base + j * w + w → base + k * w ≤ i → i < base + k * w + w → j ≡ k
on_lattice i base w j k h₁ h₂ h₃ h₄ = step (dec_lt j k) (dec_lt k j)
  where
    next : (x y : ℕ) → x < y → x * w + w ≤ y * w
    next x y lt = rw (← suc-mul) (mul-le-mul_right w lt)

    step : Dec (j < k) → Dec (k < j) → j ≡ k
    step (yes h) d = let q = next j k h in let z : ⊥ = omega arith in absurd z
    step (no h) (yes g) = let q = next k j g in let z : ⊥ = omega arith in absurd z
    step (no h) (no g) = omega arith

-- a choice between a plan and a refusal that writes is the plan
pub pick-write : {A : Type 0} (t : Bool) (p : Plan A) (r q : A) (a : ℕ) (b : List ℕ) → pick t p (refuse r) ≡ write q a b
    → (t ≡ true) × (p ≡ write q a b)
pick-write true p r q a b e = (refl, e)
pick-write false p r q a b e = refuse-write e

module _ {Store Key Opened Answer Value : Type 0} (F : Format Store Key Opened Answer Value) (W : FormatLaws F) where
  -- a store that writes has a fresh layout
  pub write_fresh : (f : List ℕ) (s : Store) {r : Answer} {a : ℕ} {b : List ℕ} → F.Typed s → plan F f s ≡ write r a b → Writes F f s a b
  unfolding plan
  write_fresh f s {r} {a} {b} typed e =
      let (t, q) = pick-write (F.same s (F.open_as f (F.key s) (F.grid s))) (F.when_fresh s) F.stale r a b e in
      record { typed = typed; fresh = (W.exact s (F.open_as f (F.key s) (F.grid s))).0 t; told = r; planned = q }

  module _ (k : Key) where
    -- what the laws ask of a store, and what the format gives
    of : {f : List ℕ} {s : Store} {a : ℕ} {b : List ℕ} → Succeeds (system F k) f s a b → Writes F f s a b
    of {f} {s} w = write_fresh f s w.fit.1 w.planned

    -- the places of one key stand on one lattice
    on : {f : List ℕ} {s : Store} {a : ℕ} {b : List ℕ} → Succeeds (system F k) f s a b
        → (j : ℕ) × (a ≡ W.base f k + j * W.width f k) × (length b ≡ W.width f k)
    on w = rw (← w.fit.0) (W.lattice (of w))

    meets : {f : List ℕ} {s t : Store} {a c : ℕ} {b d : List ℕ} → Succeeds (system F k) f s a b → Succeeds (system F k) f t c d
        → (i : ℕ) → a ≤ i → i < a + length b → c ≤ i → i < c + length d → a ≡ c
    meets {f = f} w v i h₁ h₂ h₃ h₄ =
        let (x, xa, xb) = on w in
        let (y, ya, yb) = on v in
        let j = on_lattice i (W.base f k) (W.width f k) x y (omega arith) (omega arith) (omega arith) (omega arith) in
        cc (ap (λ (z : ℕ). W.base f k + z * W.width f k) j)

    -- the stores of one key meet the laws
    pub laws : Laws (system F k)
    unfolding plan
    laws =
        record {
          by_opening = λ f g s ok v n. ap (λ (x : Opened). pick (F.same s x) (F.when_fresh s) (refuse F.stale)) (rw ok.0 (ap (λ (u : ℕ → Opened). u (F.grid s)) v));
          inside = λ w. W.inside (of w);
          opens = λ w. fun_ext (λ g. rw (← w.fit.0) (W.frame (of w) g));
          meet = λ w v i h₁ h₂ h₃ h₄. meets w v i h₁ h₂ h₃ h₄;
          reads = λ w h. W.reads (of w) h;
        }

    -- Demand 3. Of any file and any list of stores of one kind and byte order, no two of which succeed at the same place: all orders leave
    -- the same bytes (`bytes`, `same`), and in every order each store gets the answer it would get alone on the file as it came
    -- (`answered`); each stored place reads back its number (`stored`), every other byte is the old one (`others`, `size`), and opening
    -- answers as before (`opening`).
    pub demand3 : Demand3 (system F k)
    demand3 = order-free (system F k) laws

    -- Demand 3 of functions: those that keep their contracts, called one after another, give these answers and leave these bytes.
    pub demand3_runs : Demand3Runs (system F k)
    demand3_runs = runs_free (system F k) laws

    -- Request 13. Of any file and two lists that hold the same stores, those to the same place in the same order: both leave the same bytes
    -- (`same`), each stored place with its last number (`stored`), and each store gets the same answer (`answered`, `answered'`).
    pub request13 : Request13 (system F k)
    request13 = last_stands (system F k) laws

    -- both over calls that make several stores or none
    module _ {Call Whole : Type 0} (C : CallSystem (system F k) Call Whole) (K : CallLaws (system F k) C) where
      pub demand3-calls : Demand3Calls (system F k) C
      demand3-calls = calls_free (system F k) laws C K

      pub request13-calls : Request13Calls (system F k) C
      request13-calls = calls_last (system F k) laws C K
