-- When a GRID file is accepted.
-- Assumes nothing.
use Rattle.std.specs.Prelude.{◌≡◌, ◌⊎◌, ℕ, ◌+◌, ◌*◌, ◌/◌, ◌≤◌, ◌<◌}
use Rattle.endian_rules.specs.Words.{AtLeast}
use Rattle.grid_rules.specs.Rules.{next_free, empty_slot, grid_end}

-- slot k is not empty: it has a grid
abbrev pub FullSlot : (ℕ → ℕ) → ℕ → Type 0
FullSlot w k = ¬ (w (11 + k) ≡ empty_slot)

-- The head of a file of `len` bytes whose raw words are w is accepted, one field a rule. A word with an upper limit below 2 ^ 31 is the signed word; the next free word has no upper limit of its
-- own, and is compared as a signed word.
pub record AcceptsGridHead (len : ℕ) (w : ℕ → ℕ) : Type 0 where
  pub long : 44 ≤ len
  pub grids : (1 ≤ w 10) × (w 10 ≤ 1024)
  pub room : 12 + w 10 ≤ len / 4
  pub next_from : AtLeast (12 + w 10) (next_free w)
  pub next_to : next_free w ≤ len / 4

-- what the checks before the slots give, of a file of `len` bytes with n slots and the next free word `next`
pub record GridRoom (len n next : ℕ) : Type 0 where
  pub some : 1 ≤ n
  pub few : n ≤ 1024
  pub after : 12 + n ≤ next
  pub whole : 4 * next ≤ len
  pub small : next < 2147483648

-- Slot k, which is not empty, is accepted: the grid at its offset, one field a rule.
pub record AcceptsGridSlot (w : ℕ → ℕ) (n next k : ℕ) : Type 0 where
  pub offset : AtLeast (12 + n) (w (11 + k))
  pub header : w (11 + k) + 64 ≤ next
  pub rows : (1 ≤ w (w (11 + k) + 1)) × (w (w (11 + k) + 1) ≤ 65535)
  pub columns : (1 ≤ w (w (11 + k) + 2)) × (w (w (11 + k) + 2) ≤ 65535)
  pub signed : w (w (11 + k)) < 2147483648
  pub size : w (w (11 + k)) ≡ w (w (11 + k) + 1) * w (w (11 + k) + 2)
  pub end : grid_end w (w (11 + k)) ≤ next
  -- of this grid and an earlier one, one ends before the other begins
  pub apart : (j : ℕ) → j < k → FullSlot w j → (grid_end w (w (11 + j)) ≤ w (11 + k)) ⊎ (grid_end w (w (11 + k)) ≤ w (11 + j))

-- A whole file is accepted: its head, and every slot that is not empty.
pub record AcceptsGridFile (len : ℕ) (w : ℕ → ℕ) : Type 0 where
  pub head : AcceptsGridHead len w
  pub slots : (k : ℕ) → k < w 10 → FullSlot w k → AcceptsGridSlot w (w 10) (next_free w) k

-- A whole file is accepted, and has the wanted grid.
pub record AcceptsGrid (len : ℕ) (w : ℕ → ℕ) (number : ℕ) : Type 0 where
  pub file : AcceptsGridFile len w
  pub number_from : 1 ≤ number
  pub number_to : number ≤ w 10
  pub full : ¬ (w (10 + number) ≡ empty_slot)
