-- Numbers as text: decimal digits in ASCII, the most significant first, with no zero in front.
-- Assumes nothing.
use Rattle.std.specs.Prelude.{◌≡◌, List, [], ◌∷◌, ◌++◌, ℕ, zero, suc, ◌+◌, ◌-◌, ◌*◌, ◌/◌, ◌%◌, ◌≤◌, ◌<◌, ltb, get_or}
use Rattle.lists.specs.Choices.{pick}

-- the byte of a decimal digit: `0` is 48, and the other digits follow it
abbrev pub decimal_digit : ℕ → ℕ
decimal_digit d = 48 + d

-- the decimal digits of a number, k of them at the most: of a number below 10 its digit, of any other those of its tenth and then its last digit
unfoldable pub decimal_within : ℕ → ℕ → List ℕ
decimal_within zero n = []
decimal_within (suc k) n = pick (ltb n 10) (decimal_digit n ∷ []) (decimal_within k (n / 10) ++ decimal_digit (n % 10) ∷ [])

-- the decimal digits of a number below 10 ^ 20, as every number of 64 bits is
abbrev pub decimal : ℕ → List ℕ
decimal n = decimal_within 20 n

-- ---- what a reader of the digits finds

-- the number that is read where v has been read and the bytes of digits follow
unfoldable pub decimal_value_from : ℕ → List ℕ → ℕ
decimal_value_from v [] = v
decimal_value_from v (b ∷ l) = decimal_value_from (10 * v + (b - 48)) l

-- the number that decimal digits are read as
abbrev pub decimal_value : List ℕ → ℕ
decimal_value l = decimal_value_from 0 l

-- every byte is that of a decimal digit
abbrev pub DecimalDigits : List ℕ → Type 0
DecimalDigits [] = Unit {0}
DecimalDigits (b ∷ l) = ((48 ≤ b) × (b ≤ 57)) × DecimalDigits l

-- bytes are the decimal text of a number: they are read as it, each is a digit, and there is no zero in front, but that 0 is one digit
pub record DecimalOf (n : ℕ) (l : List ℕ) : Type 0 where
  pub reads_as : decimal_value l ≡ n
  pub all_digits : DecimalDigits l
  pub no_zero_in_front : 0 < n → 48 < get_or l 0 48
  pub one_zero : n ≡ 0 → l ≡ 48 ∷ []
