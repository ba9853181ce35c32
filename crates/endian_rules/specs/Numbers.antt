-- Numbers in the bytes of a file, in either byte order. The bytes of a number are its digits to the base 256.
-- Assumes nothing.
use Rattle.std.specs.Prelude.{List, [], ◌∷◌, reverse, ℕ, zero, suc, ◌+◌, ◌-◌, ◌*◌, ◌/◌, ◌%◌, ◌^◌, ◌<◌, get_or}
use Rattle.lists.specs.Lists.{part}
use Rattle.endian_rules.specs.declared.Order.{Order}
use Rattle.endian_rules.specs.declared.Order.TheVariants.{Big, Little}

-- the number that digits stand for, the least significant first
unfoldable pub value : List ℕ → ℕ
value [] = 0
value (d ∷ ds) = d + 256 * value ds

-- the w low digits of a number, the least significant first
unfoldable pub digits : ℕ → ℕ → List ℕ
digits zero n = []
digits (suc w) n = n % 256 ∷ digits w (n / 256)

-- digits, the least significant first, as the bytes of a file have them; and such bytes as digits again
abbrev pub ordered : Order → List ℕ → List ℕ
ordered Big l = reverse l
ordered Little l = l

-- the index, among the w bytes of a number, of its digit k; digit 0 is the least significant
abbrev pub position : Order → ℕ → ℕ → ℕ
position Big w k = w - 1 - k
position Little w k = k

-- the number that bytes of a file stand for, in a byte order
unfoldable pub decode : Order → List ℕ → ℕ
decode o bytes = value (ordered o bytes)

-- the w low bytes of a number, as a file in a byte order has them
unfoldable pub encode : Order → ℕ → ℕ → List ℕ
encode o w n = ordered o (digits w n)

-- the digits of the number of w bytes at byte `at` of a file
abbrev pub digits_at : Order → ℕ → List ℕ → ℕ → List ℕ
digits_at o w f at = ordered o (part at w f)

-- the number of w bytes at byte `at` of a file
unfoldable pub number_at : Order → ℕ → List ℕ → ℕ → ℕ
number_at o w f at = decode o (part at w f)

-- the number of w + 1 bytes of which the first w stand for n and the last is b
abbrev pub with_byte : Order → ℕ → ℕ → ℕ → ℕ
with_byte Big w n b = n * 256 + b
with_byte Little w n b = n + b * 256 ^ w

-- every element is a byte, as a lent slice of bytes has it
abbrev pub Bytes : List ℕ → Type 0
Bytes f = (i : ℕ) → get_or f i 0 < 256
