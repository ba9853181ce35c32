-- Laws of decimal digits: a number below 10 ^ 20 is what its digits are read as, with no zero in front, and there are never more than 20.
-- Assumes nothing.
use mathlib.Core.Path.{◌≡◌, refl, ◌∙◌}
use mathlib.Core.List.{List, [], ◌∷◌, ◌++◌}
use Prim.Native.Nat.{ℕ, zero, suc, ◌+◌, ◌-◌, ◌*◌, ◌/◌, ◌%◌, ◌^◌, ◌≤◌, ◌<◌}
use native.Mathlib.Omega.{arith}
use lib.Dec.{ltb}
use lib.ListN.{length, get_or, length-append}
use borrow.Author.Tests.{ltb-true, ltb-false}
use Rattle.lists.proofs.Choices.{pick_cases}
use Rattle.listing_rules.specs.Decimal.{decimal_digit, decimal_within, decimal, decimal_value_from, decimal_value, DecimalDigits, DecimalOf}

-- what holds of a digit alone where the number is below 10, and of the digits of its tenth and a digit behind them, holds of the digits of a number
by_digits : (P : List ℕ → Type 0) (k n : ℕ) → (n < 10 → P (decimal_digit n ∷ [])) → (10 ≤ n → P (decimal_within k (n / 10) ++ decimal_digit (n % 10) ∷ []))
    → P (decimal_within (suc k) n)
unfolding decimal_within
by_digits P k n one more = pick_cases P (ltb n 10) _ _ (λ e. one (ltb-true n 10 e)) (λ e. more (ltb-false n 10 e))

-- ---- what a reader of the digits finds

-- the number that is read with a digit more
value_more : (v : ℕ) (l : List ℕ) (b : ℕ) → decimal_value_from v (l ++ b ∷ []) ≡ 10 * decimal_value_from v l + (b - 48)
unfolding decimal_value_from
value_more v [] b = refl
value_more v (x ∷ l) b = value_more (10 * v + (x - 48)) l b

value-within : (k n : ℕ) → n < 10 ^ k → decimal_value (decimal_within k n) ≡ n
unfolding decimal_value_from decimal_within
value-within zero n h = omega arith
value-within (suc k) n h =
    let tenth : decimal_value (decimal_within k (n / 10)) ≡ n / 10 = value-within k (n / 10) (omega arith) in
    by_digits (λ l. decimal_value l ≡ n) k n
    (λ below. omega arith)
    (λ above. value_more 0 (decimal_within k (n / 10)) (decimal_digit (n % 10)) ∙ omega (arith, tenth))

-- a digit more
digits_more : (l : List ℕ) (b : ℕ) → DecimalDigits l → 48 ≤ b → b ≤ 57 → DecimalDigits (l ++ b ∷ [])
digits_more [] b d h m = ((h, m), tt)
digits_more (x ∷ l) b d h m = (d.0, digits_more l b d.1 h m)

digits-within : (k n : ℕ) → DecimalDigits (decimal_within k n)
unfolding decimal_within
digits-within zero n = tt
digits-within (suc k) n =
    let tenth : DecimalDigits (decimal_within k (n / 10)) = digits-within k (n / 10) in
    by_digits DecimalDigits k n
    (λ below. ((omega arith, omega (arith, below)), tt))
    (λ above. digits_more (decimal_within k (n / 10)) (decimal_digit (n % 10)) tenth (omega arith) (omega arith))

-- the first digit stays where others follow it
front_stays : (l m : List ℕ) → 48 < get_or l 0 48 → 48 < get_or (l ++ m) 0 48
front_stays [] m h = let z : ⊥ = omega (arith, h) in absurd z
front_stays (x ∷ l) m h = h

front_within : (k n : ℕ) → 0 < n → n < 10 ^ k → 48 < get_or (decimal_within k n) 0 48
unfolding decimal_within
front_within zero n p h = let z : ⊥ = omega arith in absurd z
front_within (suc k) n p h =
    by_digits (λ l. 48 < get_or l 0 48) k n
    (λ below. omega (arith, p))
    (λ above. front_stays (decimal_within k (n / 10)) (decimal_digit (n % 10) ∷ []) (front_within k (n / 10) (omega (arith, above)) (omega arith)))

decimal_zero : (n : ℕ) → n ≡ 0 → decimal n ≡ 48 ∷ []
unfolding decimal_within
decimal_zero n e = rw e

-- the decimal digits of a number below 10 ^ 20 are its decimal text
pub decimal_of : (n : ℕ) → n < 10 ^ 20 → DecimalOf n (decimal n)
decimal_of n h =
    record {
      reads_as = value-within 20 n h;
      all_digits = digits-within 20 n;
      no_zero_in_front = λ p. front_within 20 n p h;
      one_zero = decimal_zero n;
    }

-- ---- how many there are

most_within : (k n : ℕ) → length (decimal_within k n) ≤ k
unfolding decimal_within
most_within zero n = omega arith
most_within (suc k) n =
    let tenth : length (decimal_within k (n / 10)) ≤ k = most_within k (n / 10) in
    by_digits (λ l. length l ≤ suc k) k n
    (λ below. omega arith)
    (λ above. omega (arith, length-append (decimal_within k (n / 10)) (decimal_digit (n % 10) ∷ []), tenth))

-- 20 at the most, whatever the number is
pub decimal_most : (n : ℕ) → length (decimal n) ≤ 20
decimal_most n = most_within 20 n
