-- Tests, what they say, and the equality of lists of numbers by a test.
-- Assumes nothing.
use Rattle.std.specs.Prelude.{◌≡◌, Bool, true, false, List, [], ◌∷◌, ℕ, leb, eqb}
use Rattle.lists.specs.Choices.{both}

-- a test says exactly whether a statement holds
pub record Exactly (test : Bool) (P : Type 0) : Type 0 where
  pub sound : test ≡ true → P
  pub complete : P → test ≡ true

-- whether n is at least low and at most high
unfoldable pub within : ℕ → ℕ → ℕ → Bool
within low high n = both (leb low n) (leb n high)

-- whether two lists of numbers are the same
unfoldable pub same_numbers : List ℕ → List ℕ → Bool
same_numbers [] [] = true
same_numbers [] (y ∷ ys) = false
same_numbers (x ∷ xs) [] = false
same_numbers (x ∷ xs) (y ∷ ys) = both (eqb x y) (same_numbers xs ys)
