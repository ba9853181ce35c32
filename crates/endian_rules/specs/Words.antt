-- Words. A word is four bytes, a 32-bit two's-complement integer (document 01, "Who decides").
--
-- Rules are stated over the raw word: the unsigned number that its 32 bits are.
-- Assumes nothing.
use Rattle.std.specs.Prelude.{Bool, List, ℕ, ◌*◌, leb, ltb, ℤ, pos, ◌≤ℤ◌}
use Rattle.std.specs.Int.{w32}
use Rattle.std.proofs.Common.{to_z, of_z}
use Rattle.lists.specs.Choices.{both}
use Rattle.endian_rules.specs.Numbers.{encode, number_at}
use Rattle.endian_rules.specs.declared.Order.{Order}
use Rattle.endian_rules.specs.declared.Order.TheVariants.{Big, Little}

-- the signed word at byte `at` of a file
abbrev pub signed_at : Order → List ℕ → ℕ → ℤ
signed_at o f at = to_z w32 (number_at o 4 f at)

-- the four bytes of a signed word
abbrev pub encode_signed : Order → ℤ → List ℕ
encode_signed o v = encode o 4 (of_z w32 v)

-- the raw word k of a file, counted from 0
unfoldable pub word_at : Order → List ℕ → ℕ → ℕ
word_at o f k = number_at o 4 f (4 * k)

-- whether a raw word is, as the signed word that it is, at least `low`: from 2 ^ 31 on it is negative
unfoldable pub at_least : ℕ → ℕ → Bool
at_least low n = both (leb low n) (ltb n 2147483648)

-- a raw word is, as the signed word that it is, at least `low`
abbrev pub AtLeast : ℕ → ℕ → Type 0
AtLeast low n = pos low ≤ℤ to_z w32 n

-- a number for each byte order, by which two orders are compared
abbrev pub order_number : Order → ℕ
order_number Big = 0
order_number Little = 1
