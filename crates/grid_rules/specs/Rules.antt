-- The opening checks of a GRID file: document 01, "GRID". Words are counted from 0. w k stands for the raw word k: the unsigned number
-- that its 32 bits are. Word 10 is n, words 11 to 10 + n are the offsets of grids 1 to n, word 11 + n is the next free word.
--
-- "Next free word" and "slot" are document 01's terms: what the manual calls the next available address to start writing the next grid, and a
-- grid's place in the directory. Slots are counted from 0 here: slot k is that of grid k + 1, its offset is word 11 + k, and 11 + k is also the
-- place of its faults.
-- Assumes nothing.
use Rattle.std.specs.Prelude.{Bool, false, not, List, [], ◌∷◌, ◌++◌, ℕ, zero, suc, ◌+◌, ◌*◌, ◌/◌, leb, ltb, eqb}
use Rattle.endian_rules.specs.Words.{at_least}
use Rattle.lists.specs.Choices.{pick, both, either}
use Rattle.refusal_rules.specs.Rules.{Rule, rule}
use Rattle.refusal_rules.specs.Tests.{within}

-- the next free word of a file: "word 11+n is the next free word"
abbrev pub next_free : (ℕ → ℕ) → ℕ
next_free w = w (11 + w 10)

-- -1 as a raw word: "an offset of -1 is an empty slot"
abbrev pub empty_slot : ℕ
empty_slot = 4294967295

-- whether slot k is empty: only -1 is
abbrev pub is_empty_slot : (ℕ → ℕ) → ℕ → Bool
is_empty_slot w k = eqb (w (11 + k)) empty_slot

-- the word after a grid that begins at an offset: its header of 64 words, of which the first is the size, and its data
abbrev pub grid_end : (ℕ → ℕ) → ℕ → ℕ
grid_end w offset = offset + 64 + w offset

-- the checks before the slots, of a file of `len` bytes: "length; n; room for 12+n words (place 10); next free word from 12+n up to the file's whole words (place
-- 11+n)"
unfoldable pub grid_head_rules : ℕ → (ℕ → ℕ) → List Rule
grid_head_rules len w =
    rule (leb 44 len) 1 0
    ∷ rule (within 1 1024 (w 10)) 3 10
    ∷ rule (leb (12 + w 10) (len / 4)) 5 10
    ∷ rule (at_least (12 + w 10) (next_free w)) 5 (11 + w 10)
    ∷ rule (leb (next_free w) (len / 4)) 5 (11 + w 10)
    ∷ []

-- whether the grid of slot j has a word from `low` up to, but not with, `high`
unfoldable pub meets : (ℕ → ℕ) → ℕ → ℕ → ℕ → Bool
meets w low high j = both (not (is_empty_slot w j)) (both (ltb low (grid_end w (w (11 + j)))) (ltb (w (11 + j)) high))

-- whether the grid of one of the first k slots has a word from `low` up to, but not with, `high`
unfoldable pub shares : (ℕ → ℕ) → ℕ → ℕ → ℕ → Bool
shares w low high zero = false
shares w low high (suc k) = either (shares w low high k) (meets w low high k)

-- the checks of where the header of slot k's grid is: "offset at least 12+n and offset + 64 at most the next free word"; n and `next` are words 10 and 11 + n
unfoldable pub header_rules : (ℕ → ℕ) → ℕ → ℕ → ℕ → List Rule
header_rules w n next k =
    rule (at_least (12 + n) (w (11 + k))) 5 (11 + k)
    ∷ rule (leb (w (11 + k) + 64) next) 5 (11 + k)
    ∷ []

-- the checks of the header at an offset: "rows; columns; size = rows·columns; data end at most the next free word", size a signed word. "Rows and columns are 3
-- and size is 4, each at that word's own address; the other slot faults are 5 at 10 + slot", with slots counted from 1.
unfoldable pub size_rules : (ℕ → ℕ) → ℕ → ℕ → ℕ → List Rule
size_rules w next k offset =
    rule (within 1 65535 (w (offset + 1))) 3 (offset + 1)
    ∷ rule (within 1 65535 (w (offset + 2))) 3 (offset + 2)
    ∷ rule (ltb (w offset) 2147483648) 4 offset
    ∷ rule (eqb (w offset) (w (offset + 1) * w (offset + 2))) 4 offset
    ∷ rule (leb (grid_end w offset) next) 5 (11 + k)
    ∷ []

-- the checks of the grid of slot k that look at no other slot
unfoldable pub own_rules : (ℕ → ℕ) → ℕ → ℕ → ℕ → List Rule
own_rules w n next k = header_rules w n next k ++ size_rules w next k (w (11 + k))

-- the check that the grid of slot k has "no word shared with an earlier grid"
unfoldable pub overlap_rule : (ℕ → ℕ) → ℕ → Rule
overlap_rule w k = rule (not (shares w (w (11 + k)) (grid_end w (w (11 + k))) k)) 5 (11 + k)

-- the checks of slot k: they are made "for each slot that isn't empty"
unfoldable pub slot_rules : (ℕ → ℕ) → ℕ → ℕ → ℕ → List Rule
slot_rules w n next k = pick (is_empty_slot w k) [] (own_rules w n next k ++ overlap_rule w k ∷ [])

-- the checks of the first k slots, each "complete before the next slot"
unfoldable pub slots_rules : (ℕ → ℕ) → ℕ → ℕ → ℕ → List Rule
slots_rules w n next zero = []
slots_rules w n next (suc k) = slots_rules w n next k ++ slot_rules w n next k

-- the checks of a whole GRID file of `len` bytes, before a grid of it is asked for
unfoldable pub grid_file_rules : ℕ → (ℕ → ℕ) → List Rule
grid_file_rules len w = grid_head_rules len w ++ slots_rules w (w 10) (next_free w) (w 10)

-- the checks of the grid that is asked for: "Last, the wanted grid number, then whether its slot is empty."
unfoldable pub wanted_rules : (ℕ → ℕ) → ℕ → List Rule
wanted_rules w number =
    rule (within 1 (w 10) number) 7 0
    ∷ rule (not (eqb (w (10 + number)) empty_slot)) 6 0
    ∷ []
