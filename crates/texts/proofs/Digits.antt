-- The digits that the kit's `io::decimal` writes are those of the definition.
-- Assumes nothing.
use mathlib.Core.Path.{◌≡◌, refl, ap}
use mathlib.Core.Bool.{Bool, true, false}
use mathlib.Core.List.{List, [], ◌∷◌, ◌++◌}
use Prim.Native.Nat.{ℕ, zero, suc, ◌-◌, ◌/◌, ◌%◌, ◌^◌, ◌≤◌, ◌<◌}
use native.Mathlib.Nat.{one-le-pow, pow-le-pow_right}
use native.Mathlib.Omega.{arith}
use lib.Dec.{leb, lit<}
use borrow.Author.Tests.{lt-ltb, le-ltb, leb-true, leb-false}
use Rattle.io.specs.Digits.{last_digits, IsDigitCount}
use Rattle.listing_rules.specs.Decimal.{decimal_digit, decimal_within, decimal}

-- the fewest digits of base ten that a number takes, where there are no more than `most`
fewest_within : (k most n : ℕ) → k ≤ most → IsDigitCount 10 1 n k → last_digits 10 k n ≡ decimal_within most n
unfolding decimal_within
fewest_within zero most n h f = let z : ⊥ = omega (arith, f.0) in absurd z
fewest_within (suc k) zero n h f = let z : ⊥ = omega arith in absurd z
fewest_within (suc zero) (suc most) n h f =
    let below : n < 10 = omega (arith, f.1) in
    let same : n % 10 ≡ n = omega arith in
    rw (same, lt-ltb n 10 below)
fewest_within (suc (suc k)) (suc most) n h f =
    let less : suc (suc k) - 1 ≡ suc k = omega arith in
    let less2 : suc k - 1 ≡ k = omega arith in
    let least : 10 ^ suc k ≤ n = rw less at (f.2 (omega arith)) in
    let one : 1 ≤ 10 ^ k = one-le-pow k 10 (lit< tt) in
    let above : 10 ≤ n = omega arith in
    let last : n % 10 < 10 = omega arith in
    let rest : IsDigitCount 10 1 (n / 10) (suc k) = (omega arith, omega (arith, f.1), λ m. rw less2 (omega arith)) in
    rw (le-ltb n 10 above, lt-ltb (n % 10) 10 last)
    (ap (λ (l : List ℕ). l ++ decimal_digit (n % 10) ∷ []) (fewest_within (suc k) most (n / 10) (omega arith) rest))

-- a number of 64 bits takes 20 of them at the most
few : (k n : ℕ) → n < 2 ^ 64 → IsDigitCount 10 1 n k → k ≤ 20
few k n h f = step (leb k 20) refl
  where
    step : (t : Bool) → leb k 20 ≡ t → k ≤ 20
    step true e = leb-true k 20 e
    step false e =
        let above : 20 < k = leb-false k 20 e in
        let many : 20 ≤ k - 1 = omega arith in
        let least : 10 ^ 20 ≤ 10 ^ (k - 1) = pow-le-pow_right {n = 10} (lit< tt) many in
        let z : ⊥ = omega (arith, h, f.2 (omega arith), least) in
        absurd z

-- the fewest digits of base ten that a number of 64 bits takes are its decimal digits
pub fewest_decimal : (k n : ℕ) → n < 2 ^ 64 → IsDigitCount 10 1 n k → last_digits 10 k n ≡ decimal n
fewest_decimal k n h f = fewest_within k 20 n (few k n h f) f
