-- Places in rows: where each row has n places, the place j of row i is i · n + j. Samples in lines, points in columns and fields in records
-- are counted so.
-- Assumes nothing.
use mathlib.Core.Path.{◌≡◌, sym, ap, ◌∙◌}
use mathlib.Core.Logic.{◌⊎◌, inl, inr, ⊎_elim}
use Prim.Native.Nat.{ℕ, ◌+◌, ◌*◌, ◌/◌, ◌%◌, ◌≤◌, ◌<◌}
use native.Mathlib.Nat.{suc-mul, mul-le-mul_right}
use native.Mathlib.Decide.{dec_lt}
use native.Mathlib.Omega.{arith}
use lib.Arith.{digits_div, digits_mod}
use Rattle.lists.specs.Lists.{Apart}

-- two numbers are equal, or one is less
pub compared : (a b : ℕ) → (a ≡ b) ⊎ ((a < b) ⊎ (b < a))
compared a b = step (dec_lt a b) (dec_lt b a)
  where
    step : Dec (a < b) → Dec (b < a) → (a ≡ b) ⊎ ((a < b) ⊎ (b < a))
    step (yes h) d = inr (inl h)
    step (no h) (yes k) = inr (inr k)
    step (no h) (no k) = inl (omega arith)

-- the rows before row m end where it begins
pub row-before : (n i m : ℕ) → i < m → i * n + n ≤ m * n
row-before n i m h = omega (arith, suc-mul i n, mul-le-mul_right n h)

-- a place of a row before row m is before its first place
pub row-inside : (n i m j : ℕ) → i < m → j < n → i * n + j < m * n
row-inside n i m j h l = omega (arith, row-before n i m h)

-- a place settles its row and its place in the row
pub row_only : (n i j k m : ℕ) → j < n → m < n → i * n + j ≡ k * n + m → (i ≡ k) × (j ≡ m)
row_only n i j k m p q e =
    (sym (digits_div i p) ∙ ap (λ (x : ℕ). x / n) e ∙ digits_div k q, sym (digits_mod i p) ∙ ap (λ (x : ℕ). x % n) e ∙ digits_mod k q)

-- places of w bytes at different multiples of w share no byte
pub multiples_apart : (b w i j : ℕ) → ¬ (i ≡ j) → Apart (b + i * w) w (b + j * w) w
multiples_apart b w i j h =
    ⊎_elim (λ e. absurd (h e)) (⊎_elim (λ l. inl (omega (arith, row-before w i j l))) (λ l. inr (omega (arith, row-before w j i l)))) (compared i j)
