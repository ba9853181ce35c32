-- The opening checks of an MD file: document 01, "MD". Words are counted from 0. w k stands for the raw word k: the unsigned number
-- that its 32 bits are. Rows R is word 3, columns C word 4, keys K word 5; row-header keys a word 6, column-header keys b word 7,
-- data keys d word 8.
-- Assumes nothing.
use Rattle.std.specs.Prelude.{List, [], ◌∷◌, ◌++◌, ℕ, ◌+◌, ◌*◌, ◌/◌, leb, eqb}
use Rattle.endian_rules.specs.Words.{at_least}
use Rattle.refusal_rules.specs.Rules.{Rule, rule}
use Rattle.refusal_rules.specs.Tests.{within}

-- the rule of a count: word k is within its bounds, and refusal 3 at the word where it is not
abbrev pub md_count : (ℕ → ℕ) → ℕ → ℕ → ℕ → Rule
md_count w k low high = rule (within low high (w k)) 3 k

-- the rule of a word that has to be n: refusal 4 at the word where it is not
abbrev pub md_equal : (ℕ → ℕ) → ℕ → ℕ → Rule
md_equal w k n = rule (eqb (w k) n) 4 k

-- the rules of "the counts 3, 4, 5, 6, 7, 8"
unfoldable pub md_count_rules : (ℕ → ℕ) → List Rule
md_count_rules w =
    md_count w 3 1 65535
    ∷ md_count w 4 1 1600000
    ∷ md_count w 5 1 400
    ∷ md_count w 6 0 400
    ∷ md_count w 7 0 400
    ∷ md_count w 8 1 400
    ∷ []

-- the rules of the words that follow from the counts: "K = a+b+d (place 5); word 9 = a+1; word 10 = a+b+1; word 27 = 4096; word 28 = 4096 + R·a; word 29 = word
-- 28 + C·b"
unfoldable pub md_sum_rules : (ℕ → ℕ) → List Rule
md_sum_rules w =
    md_equal w 5 (w 6 + w 7 + w 8)
    ∷ md_equal w 9 (w 6 + 1)
    ∷ md_equal w 10 (w 6 + w 7 + 1)
    ∷ md_equal w 27 4096
    ∷ md_equal w 28 (4096 + w 3 * w 6)
    ∷ md_equal w 29 (w 28 + w 4 * w 7)
    ∷ []

-- the rules of the words that are the same in every file: "words 31, 32, 33 and 34 hold 64, 464, 864 and 1264"
unfoldable pub md_fixed_rules : (ℕ → ℕ) → List Rule
md_fixed_rules w =
    md_equal w 31 64
    ∷ md_equal w 32 464
    ∷ md_equal w 33 864
    ∷ md_equal w 34 1264
    ∷ []

-- the word after the data: "word 29 + R·C·d"
abbrev pub md_data_end : (ℕ → ℕ) → ℕ
md_data_end w = w 29 + w 3 * w 4 * w 8

-- the rules of word 30 in a file of `len` bytes: "word 30 at least word 29 + R·C·d and at most the file's whole words"; "4, but 5 where word 30 only passes the
-- file's end"
unfoldable pub md_end_rules : ℕ → (ℕ → ℕ) → List Rule
md_end_rules len w =
    rule (at_least (md_data_end w) (w 30)) 4 30
    ∷ rule (leb (w 30) (len / 4)) 5 30
    ∷ []

-- the checks of an MD file of `len` bytes, in their order
unfoldable pub md_rules : ℕ → (ℕ → ℕ) → List Rule
md_rules len w = rule (leb 16384 len) 1 0 ∷ (md_count_rules w ++ (md_sum_rules w ++ (md_fixed_rules w ++ md_end_rules len w)))
