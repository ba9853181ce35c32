-- A rule that holds at every element of a list, from one test that is computed over the whole list.
-- Assumes nothing.
use mathlib.Core.Path.{◌≡◌}
use mathlib.Core.Bool.{Bool, true}
use mathlib.Core.List.{List, [], ◌∷◌}
use Prim.Native.Nat.{ℕ, zero, suc, ◌+◌, ◌<◌}
use native.Mathlib.Nat.{add-zero, zero-add, add-suc, suc-add, le_of_suc-le-suc}
use native.Mathlib.Omega.{arith}
use lib.ListN.{length, get_or}
use Rattle.lists.specs.Choices.{both}
use Rattle.lists.proofs.Choices.{both_true}

module _ {A : Type 0} (t : ℕ → A → Bool) where
  -- the test holds at each element and its index, counted from i
  abbrev pub every : ℕ → List A → Bool
  every i [] = true
  every i (x ∷ l) = both (t i x) (every (suc i) l)

  from : (i : ℕ) (l : List A) (d : A) → every i l ≡ true → (k : ℕ) → k < length l → t (i + k) (get_or l k d) ≡ true
  from i [] d e k h = let z : ⊥ = omega arith in absurd z
  from i (x ∷ l) d e zero h = rw add-zero (both_true (t i x) (every (suc i) l) e).0
  from i (x ∷ l) d e (suc k) h =
      rw (add-suc, ← suc-add) (from (suc i) l d (both_true (t i x) (every (suc i) l) e).1 k (le_of_suc-le-suc h))

  pub every_at : (l : List A) (d : A) → every 0 l ≡ true → (k : ℕ) → k < length l → t k (get_or l k d) ≡ true
  every_at l d e k h = rw zero-add at (from 0 l d e k h)
