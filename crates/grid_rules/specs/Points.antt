-- Where the header words and the points of a grid are: document 01, "GRID". All addresses are in words; header words, rows and columns are
-- counted from 1. That points are stored column by column is ruled in document 01.
-- Assumes nothing.
use Rattle.std.specs.Prelude.{◌≡◌, List, ℕ, ◌+◌, ◌-◌, ◌*◌, ◌≤◌, ◌<◌, length}
use Rattle.endian_rules.specs.declared.Order.{Order}
use Rattle.grid_rules.specs.declared.GridLayout.{GridLayout}

-- the address of header word k: "Header word k (from 1) is at offset + k - 1: 1 size, 2 rows, 3 columns, 4 date, 5 time."
abbrev pub header_word : GridLayout → ℕ → ℕ
header_word l k = l.offset + k - 1

-- the address of the point of row r and column c: "offset + 64 + (c-1)·rows + (r-1)"
abbrev pub point_word : GridLayout → ℕ → ℕ → ℕ
point_word l r c = l.offset + 64 + (c - 1) * l.rows + (r - 1)

-- a grid of the layout has a point of row r and column c
pub record IsPoint (l : GridLayout) (r c : ℕ) : Type 0 where
  pub row_from : 1 ≤ r
  pub row_to : r ≤ l.rows
  pub column_from : 1 ≤ c
  pub column_to : c ≤ l.columns

-- What is known of the layout of a grid of an accepted file: both bounds of every field, and that header and data are inside the file. Every later
-- address rests on this, and not on the rules.
pub record GridFits (l : GridLayout) : Type 0 where
  pub number_from : 1 ≤ l.number
  pub number_to : l.number ≤ 1024
  pub offset_from : 12 + l.number ≤ l.offset
  pub rows_from : 1 ≤ l.rows
  pub rows_to : l.rows ≤ 65535
  pub columns_from : 1 ≤ l.columns
  pub columns_to : l.columns ≤ 65535
  -- the data end inside the file, and below 2 ^ 31
  pub room : 4 * (l.offset + 64 + l.rows * l.columns) ≤ l.length
  pub small : l.offset + 64 + l.rows * l.columns < 2147483648

-- the layout l is one of grid `number` of the file f in the byte order o, and what is known of the layout of an accepted file's grid holds of it
pub record GridOf (o : Order) (f : List ℕ) (number : ℕ) (l : GridLayout) : Type 0 where
  pub order : l.order ≡ o
  pub size : l.length ≡ length f
  pub wanted : l.number ≡ number
  pub fits : GridFits l
