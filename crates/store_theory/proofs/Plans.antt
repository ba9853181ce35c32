-- What one plan leaves at one byte.
-- Assumes nothing.
use mathlib.Core.Path.{◌≡◌, refl, sym, ◌∙◌}
use mathlib.Core.Bool.{true, false, false≢true}
use mathlib.Core.Logic.{◌↔◌, ⊎_elim}
use mathlib.Core.List.{List}
use Prim.Native.Nat.{ℕ, ◌+◌, ◌≤◌, ◌<◌}
use native.Mathlib.Omega.{arith}
use lib.ListN.{length, get_or}
use lib.Seq.{sets, length-sets}
use borrow.Author.Tests.{eqb-true, eq-eqb, ne_eqb}
use Rattle.lists.proofs.Stores.{Where, inside, outside, where_is, sets-outside, sets-inside}
use Rattle.store_theory.specs.Plans.{Plan, write, refuse, after, SucceedsAt, succeeds_at, Covers}

module _ {Answer : Type 0} where
  -- a plan that refuses is none that writes
  pub refuse-write {ℓ} : {A : Type ℓ} {r q : Answer} {a : ℕ} {b : List ℕ} → refuse r ≡ write q a b → A
  refuse-write e = let z : ◌≡◌ {A = ℕ} 0 1 = cc in let y : ⊥ = omega arith in absurd y

  -- the place of a plan is inside a file of n bytes
  abbrev pub PlanInside : ℕ → Plan Answer → Type 0
  PlanInside n (write r a b) = a + length b ≤ n
  PlanInside n (refuse r) = Unit {0}

  -- a store leaves the length
  pub length-after : (f : List ℕ) (p : Plan Answer) → length (after f p) ≡ length f
  length-after f (write r a b) = length-sets f _ b
  length-after f (refuse r) = refl

  -- a byte that the store does not cover is left as it is
  pub after_other : (f : List ℕ) (p : Plan Answer) (i : ℕ) → ¬ Covers i p → get_or (after f p) i 0 ≡ get_or f i 0
  after_other f (refuse r) i h = refl
  after_other f (write r a b) i h = step (where_is i a (length b))
    where
      step : Where i a (length b) → get_or (sets f a b) i 0 ≡ get_or f i 0
      step (inside k e g) = absurd (h (omega arith, omega arith))
      step (outside g) = sets-outside b f a i 0 g

  -- what a store leaves at a byte depends on that byte alone
  pub after_agree : (n : ℕ) (f g : List ℕ) (p : Plan Answer) (i : ℕ) → length f ≡ n → length g ≡ n → PlanInside n p → get_or f i 0 ≡ get_or g i 0
      → get_or (after f p) i 0 ≡ get_or (after g p) i 0
  after_agree n f g (refuse r) i lf lg h e = e
  after_agree n f g (write r a b) i lf lg h e = step (where_is i a (length b))
    where
      step : Where i a (length b) → get_or (sets f a b) i 0 ≡ get_or (sets g a b) i 0
      step (inside k q lt) = rw q (sets-inside b f a k 0 (omega arith) lt ∙ sym (sets-inside b g a k 0 (omega arith) lt))
      step (outside q) = sets-outside b f a i 0 q ∙ e ∙ sym (sets-outside b g a i 0 q)

  -- a store that covers a byte succeeds at an address
  pub address : (i : ℕ) (p : Plan Answer) → Covers i p → (a : ℕ) × SucceedsAt a p
  address i (write r a b) c = (a, refl)
  address i (refuse r) c = absurd c

  -- it can be told whether a store covers a byte
  pub covers : (i : ℕ) (p : Plan Answer) → Dec (Covers i p)
  covers i (refuse r) = no (λ h. h)
  covers i (write r a b) = step (where_is i a (length b))
    where
      step : Where i a (length b) → Dec ((a ≤ i) × (i < a + length b))
      step (inside k q lt) = yes (omega arith, omega arith)
      step (outside q) = no (λ h. ⊎_elim (λ lt. omega arith) (λ ge. omega arith) q)

  -- the test for an address is exact
  pub succeeds_exactly : (c : ℕ) (p : Plan Answer) → (succeeds_at c p ≡ true) ↔ SucceedsAt c p
  succeeds_exactly c (write r a b) = (eqb-true a c, eq-eqb a c)
  succeeds_exactly c (refuse r) = (λ e. false≢true e, λ h. absurd h)

  pub not_at : (c : ℕ) (p : Plan Answer) → ¬ SucceedsAt c p → succeeds_at c p ≡ false
  not_at c (write r a b) h = ne_eqb a c h
  not_at c (refuse r) h = refl
