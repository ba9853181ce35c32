-- The lowest number that a test holds of: what it is, and that nothing else is.
-- Assumes nothing.
use mathlib.Core.Path.{◌≡◌, refl, sym, subst, ◌∙◌}
use mathlib.Core.Bool.{Bool, true, false, false≢true}
use mathlib.Core.Logic.{⊎_elim, ◌↔◌}
use Prim.Native.Nat.{ℕ, zero, suc, ◌+◌, ◌≤◌, ◌<◌}
use native.Mathlib.Nat.{eq-or-lt_of_le}
use native.Mathlib.Omega.{arith}
use Rattle.lists.specs.Choices.{pick}
use Rattle.lists.specs.Lowest.{lowest, IsLowest}
use Rattle.lists.proofs.Rows.{compared}

module _ (t : ℕ → Bool) where
  -- it is the lowest
  pub lowest_is : (p c : ℕ) → IsLowest t p c (lowest t p c)
  unfolding lowest
  lowest_is p zero = record { from = omega arith; to = omega arith; none = λ q l m. let z : ⊥ = omega arith in absurd z; holds = λ l. let z : ⊥ = omega arith in absurd z }
  lowest_is p (suc c) = step (t p) refl (lowest_is (p + 1) c)
    where
      step : (b : Bool) → t p ≡ b → IsLowest t (p + 1) c (lowest t (p + 1) c) → IsLowest t p (suc c) (pick b p (lowest t (p + 1) c))
      step true e later = record { from = omega arith; to = omega arith; none = λ q l m. let z : ⊥ = omega arith in absurd z; holds = λ l. e }
      step false e later =
          record {
            from = omega (arith, later.from);
            to = omega (arith, later.to);
            none = λ q l m. ⊎_elim (λ same. subst (λ (i : ℕ). t i ≡ false) same e) (λ lt. later.none q (omega arith) m) (eq-or-lt_of_le l);
            holds = λ l. later.holds (omega arith);
          }

  -- and two numbers that are the lowest are the same
  pub lowest_only : (p c r s : ℕ) → IsLowest t p c r → IsLowest t p c s → r ≡ s
  lowest_only p c r s a b = ⊎_elim (λ e. e) (λ d. ⊎_elim (λ lt. absurd (below r s a b lt)) (λ lt. absurd (below s r b a lt)) d) (compared r s)
    where
      below : (i j : ℕ) → IsLowest t p c i → IsLowest t p c j → i < j → ⊥
      below i j x y lt = false≢true (sym (y.none i x.from lt) ∙ x.holds (omega (arith, lt, y.to)))

  -- so that it is the one exactly where it is the lowest
  pub lowest_exactly : (p c r : ℕ) → (lowest t p c ≡ r) ↔ IsLowest t p c r
  lowest_exactly p c r = (λ e. subst (IsLowest t p c) e (lowest_is p c), λ h. lowest_only p c (lowest t p c) r (lowest_is p c) h)

  -- there is none exactly where the test holds of no number
  pub no_lowest : (p c : ℕ) → (lowest t p c ≡ p + c) ↔ ((q : ℕ) → p ≤ q → q < p + c → t q ≡ false)
  no_lowest p c = (
    λ e q l m. (lowest_is p c).none q l (subst (λ (i : ℕ). q < i) (sym e) m),
    λ h. (lowest_exactly p c (p + c)).1 (record { from = omega arith; to = omega arith; none = h; holds = λ l. let z : ⊥ = omega arith in absurd z }),
  )
