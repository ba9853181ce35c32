-- What opening a GRID file answers: document 01, "What comes back".
-- Assumes nothing.
use Rattle.std.specs.Prelude.{Bool, List, [], ◌∷◌, ◌++◌, ℕ, ◌+◌, length}
use Rattle.endian_rules.specs.Words.{word_at, order_number}
use Rattle.endian_rules.specs.declared.Order.{Order}
use Rattle.refusal_rules.specs.Rules.{first_fault}
use Rattle.refusal_rules.specs.Answers.{Answer, answered}
use Rattle.refusal_rules.specs.Tests.{same_numbers}
use Rattle.grid_rules.specs.Rules.{grid_file_rules, wanted_rules}
use Rattle.grid_rules.specs.declared.GridLayout.{GridLayout}

-- the layout of a grid that the words of a file of `len` bytes give: "grid number, offset, rows, columns"
unfoldable pub grid_layout_of : Order → ℕ → (ℕ → ℕ) → ℕ → GridLayout
grid_layout_of o len w number =
    record {
      order = o;
      length = len;
      number = number;
      offset = w (10 + number);
      rows = w (w (10 + number) + 1);
      columns = w (w (10 + number) + 2);
    }

-- opening a grid, where the file's own checks have passed
unfoldable pub open_wanted : Order → ℕ → (ℕ → ℕ) → ℕ → Answer GridLayout
open_wanted o len w number = answered (first_fault (wanted_rules w number)) (grid_layout_of o len w number)

-- opening a grid of a file of `len` bytes, by the file's raw words
unfoldable pub open_grid_words : Order → ℕ → (ℕ → ℕ) → ℕ → Answer GridLayout
open_grid_words o len w number = answered (first_fault (grid_file_rules len w ++ wanted_rules w number)) (grid_layout_of o len w number)

-- opening a grid of a file in a byte order
unfoldable pub open_grid : Order → List ℕ → ℕ → Answer GridLayout
open_grid o f number = open_grid_words o (length f) (word_at o f) number

-- the fields of a GRID layout as numbers
abbrev pub grid_numbers : GridLayout → List ℕ
grid_numbers l =
    order_number l.order
    ∷ l.length
    ∷ l.number
    ∷ l.offset
    ∷ l.rows
    ∷ l.columns
    ∷ []

-- whether two GRID layouts are the same in every field
unfoldable pub same_grid : GridLayout → GridLayout → Bool
same_grid a b = same_numbers (grid_numbers a) (grid_numbers b)
