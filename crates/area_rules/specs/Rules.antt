-- The opening checks of an AREA file: document 01, "AREA", with the prefix of document 02, request 4. Words are numbered from 1; word k is at byte 4(k - 1).
-- W k stands for the raw word k: the unsigned number that its 32 bits are. The checks are of a directory and a file length that is told; a file that is at
-- hand tells its own.
-- Assumes nothing.
use Rattle.std.specs.Prelude.{Bool, true, not, List, [], ◌∷◌, ◌++◌, ℕ, ◌-◌, ◌%◌, leb, ltb, eqb, length, get_or}
use Rattle.endian_rules.specs.Words.{word_at, at_least}
use Rattle.endian_rules.specs.declared.Order.{Order}
use Rattle.endian_rules.specs.declared.Order.TheVariants.{Big, Little}
use Rattle.lists.specs.Choices.{pick, both, either}
use Rattle.lists.specs.Lists.{list_of}
use Rattle.refusal_rules.specs.Rules.{Rule, rule}
use Rattle.refusal_rules.specs.Tests.{within}
use Rattle.area_rules.specs.Lines.{prefix_length, padding_length, line_length, audit_end}

-- ---- the directory

-- the 64 words of a directory in a byte order
unfoldable pub directory_of : Order → List ℕ → List ℕ
directory_of o f = list_of (word_at o f) 64

-- word k, counted from 1, of a directory's 64 words
unfoldable pub word_in : List ℕ → ℕ → ℕ
word_in words k = get_or words (k - 1) 0

-- whether word 2 of a file reads 4 in a byte order
abbrev pub reads_four : Order → List ℕ → Bool
reads_four o f = eqb (word_at o f 1) 4

-- the byte order of a file: "AREA's byte order is the one in which word 2 reads 4"
abbrev pub area_order : List ℕ → Order
area_order f = pick (reads_four Big f) Big Little

-- ---- the counts: refusal 3

-- the rule of a count: word k is within its bounds, and refusal 3 at the word where it is not
abbrev pub area_count : (ℕ → ℕ) → ℕ → ℕ → ℕ → Rule
area_count W k low high = rule (within low high (W k)) 3 k

-- whether a sample may have n bytes: "W11 is 1, 2 or 4"
abbrev pub is_width : ℕ → Bool
is_width n = either (eqb n 1) (either (eqb n 2) (eqb n 4))

-- the rules of the counts: "counts W9, W10, W11, W14, W49, W50, W51, W61, W64"
unfoldable pub area_count_rules : (ℕ → ℕ) → List Rule
area_count_rules W =
    area_count W 9 1 65535
    ∷ area_count W 10 1 65535
    ∷ rule (is_width (W 11)) 3 11
    ∷ area_count W 14 1 64
    ∷ area_count W 49 0 65535
    ∷ area_count W 50 0 65535
    ∷ area_count W 51 0 65535
    ∷ area_count W 61 0 65535
    ∷ area_count W 64 0 65535
    ∷ []

-- ---- the words that have a rule: refusal 4

-- whether a number is a multiple of four
abbrev pub multiple_of_four : ℕ → Bool
multiple_of_four n = eqb (n % 4) 0

-- the prefix length that the words give, which W15 must be
abbrev pub prefix_length_of : (ℕ → ℕ) → ℕ
prefix_length_of W = prefix_length (eqb (W 36) 0) (W 49) (W 50) (W 51)

-- the padding length that the words give
abbrev pub padding_length_of : (ℕ → ℕ) → ℕ
padding_length_of W = padding_length (eqb (W 36) 0) (W 49) (W 50) (W 51)

-- the line length that the words give
abbrev pub line_length_of : (ℕ → ℕ) → ℕ
line_length_of W = line_length (W 15) (W 14) (W 10) (W 11)

-- the rules of the words that follow from others: "W15; line length (place 10); W61 zero if W60 is zero"; of document 01's list "the multiple-of-four check
-- on 49, 50 and 51 goes" (document 02, request 4)
unfoldable pub area_shape_rules : (ℕ → ℕ) → List Rule
area_shape_rules W =
    rule (eqb (W 15) (prefix_length_of W)) 4 15
    ∷ rule (multiple_of_four (line_length_of W)) 4 10
    ∷ rule (either (not (eqb (W 60) 0)) (eqb (W 61) 0)) 4 61
    ∷ []

-- ---- the places: refusal 5, in a file of `told` bytes

-- the byte after AUDIT that the words give
abbrev pub audit_end_of : (ℕ → ℕ) → ℕ
audit_end_of W = audit_end (W 34) (W 9) (line_length_of W) (W 64)

-- whether byte x is not inside DATA or AUDIT
abbrev pub outside_data_and_audit : (ℕ → ℕ) → ℕ → Bool
outside_data_and_audit W x = either (ltb x (W 34)) (leb (audit_end_of W) x)

-- whether NAV, CAL or AUX may start at x: "each 0, or at least 256, before the end of the file, not inside DATA or AUDIT, and unequal to an earlier one";
-- `unequal` is whether x is unequal to the earlier ones
abbrev pub block_start_fits : ℕ → (ℕ → ℕ) → ℕ → Bool → Bool
block_start_fits told W x unequal = either (eqb x 0) (both (at_least 256 x) (both (ltb x told) (both (outside_data_and_audit W x) unequal)))

-- the rules of the places: "W34 at least 256 with DATA and AUDIT inside the file (place 34); then W35, W63, W60"
unfoldable pub area_place_rules : ℕ → (ℕ → ℕ) → List Rule
area_place_rules told W =
    rule (both (at_least 256 (W 34)) (leb (audit_end_of W) told)) 5 34
    ∷ rule (block_start_fits told W (W 35) true) 5 35
    ∷ rule (block_start_fits told W (W 63) (not (eqb (W 63) (W 35)))) 5 63
    ∷ rule (block_start_fits told W (W 60) (both (not (eqb (W 60) (W 35))) (not (eqb (W 60) (W 63))))) 5 60
    ∷ []

-- ---- the table

-- the checks that a directory's words alone settle, whatever the length of the file: those of the counts, and of the words that follow from others
unfoldable pub area_described_rules : (ℕ → ℕ) → List Rule
area_described_rules W = area_count_rules W ++ area_shape_rules W

-- all checks of a directory's words but that of W2, in a file of `told` bytes
unfoldable pub area_word_rules : ℕ → (ℕ → ℕ) → List Rule
area_word_rules told W = area_described_rules W ++ area_place_rules told W

-- All checks of a file of `told` bytes that begins with the bytes d. "The directory is bytes 0 to 255": fewer of them are no directory, as in a file
-- that is shorter.
unfoldable pub area_rules : ℕ → List ℕ → List Rule
area_rules told d =
    rule (leb 256 told) 1 0
    ∷ rule (leb 256 (length d)) 1 0
    ∷ rule (either (reads_four Big d) (reads_four Little d)) 2 2
    ∷ area_word_rules told (word_in (directory_of (area_order d) d))
