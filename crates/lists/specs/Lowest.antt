-- The lowest number that a test holds of.
-- Assumes nothing.
use Rattle.std.specs.Prelude.{◌≡◌, Bool, true, false, ℕ, zero, suc, ◌+◌, ◌≤◌, ◌<◌}
use Rattle.lists.specs.Choices.{pick}

-- the lowest of the c numbers from p on that the test holds of; p + c where it holds of none
unfoldable pub lowest : (ℕ → Bool) → ℕ → ℕ → ℕ
lowest t p zero = p
lowest t p (suc c) = pick (t p) p (lowest t (p + 1) c)

-- r is the lowest of the c numbers from p on that the test holds of, or p + c where it holds of none
pub record IsLowest (t : ℕ → Bool) (p c r : ℕ) : Type 0 where
  pub from : p ≤ r
  pub to : r ≤ p + c
  pub none : (q : ℕ) → p ≤ q → q < r → t q ≡ false
  pub holds : r < p + c → t r ≡ true
