-- What the calls on grids answer after a grid is deleted or added: document 02, request 5. "No other byte changes; other grids read as before", and "after one, a
-- layout is judged as ever". A grid that is added opens, and reads back as it was lent.
-- Assumes nothing.
use Rattle.std.specs.Prelude.{◌≡◌, List, [], ◌∷◌, ◌++◌, ℕ, ◌+◌, ◌-◌, ◌*◌, ◌<◌, ℤ, pos, length, get_or, drop}
use Rattle.std.specs.Int.{w32}
use Rattle.std.proofs.Common.{SFits}
use Rattle.lists.specs.Lists.{list_of, lines_of}
use Rattle.endian_rules.specs.Files.{bytes_of}
use Rattle.endian_rules.specs.declared.Order.{Order}
use Rattle.refusal_rules.specs.Answers.{gives, refuses}
use Rattle.grid_rules.specs.Points.{IsPoint}
use Rattle.grid_rules.specs.Opening.{open_grid}
use Rattle.grid_rules.specs.declared.GridLayout.{GridLayout}
use Rattle.layout_rules.specs.Layouts.{reopened}
use Rattle.layout_rules.specs.declared.Layout.TheVariants.{Grid}
use Rattle.value_rules.specs.declared.ValueName.{ValueName}
use Rattle.value_rules.specs.Reading.{place_in, read_point}
use Rattle.copy_rules.specs.Runs.{copied}
use Rattle.span_rules.specs.Spans.{handed}
use Rattle.grid_part_rules.specs.Grids.{header_span, copy_by_columns, copy_by_rows}
use Rattle.extent_rules.specs.declared.Extent.{Extent}
use Rattle.grid_update_rules.specs.Updates.{delete_grid, add_grid}
use Rattle.grid_update_rules.specs.declared.Added.{Added}

-- the layout is one of the grid of a number, in a byte order
abbrev pub IsOf : Order → ℕ → GridLayout → Type 0
IsOf o number l = (l.order ≡ o) × (l.number ≡ number)

-- ---- one layout, and a file before and after

-- With a layout, opening and every call that reads a grid answer on the file g as on the file f; and a value lies where it lay, so that a store goes to the same place.
pub record AsBefore (f g : List ℕ) (l : GridLayout) : Type 0 where
  -- opening with its order and number: so the layout is fresh where it was fresh, and stale where it was stale
  pub opening : reopened g (Grid l) ≡ reopened f (Grid l)
  -- where a named value lies, by which values are read and stored
  pub place : (x : ValueName) → place_in g (Grid l) x ≡ place_in f (Grid l) x
  -- the single read of any point
  pub point : (r c : ℕ) → read_point g (Grid l) r c ≡ read_point f (Grid l) r c
  -- where its header is
  pub header : header_span g (Grid l) ≡ header_span f (Grid l)
  -- the header's bytes, as they are handed back
  pub header_bytes : handed g (header_span g (Grid l)) ≡ handed f (header_span f (Grid l))
  -- the whole grid by columns, copied into any output
  pub columns : (out : List ℤ) → copy_by_columns g (Grid l) out ≡ copy_by_columns f (Grid l) out
  -- the whole grid by rows
  pub rows : (out : List ℤ) → copy_by_rows g (Grid l) out ≡ copy_by_rows f (Grid l) out

-- Every call that reads a grid refuses the layout with 9, and writes nothing; so does a store, which goes where the value lies.
pub record IsRefused (g : List ℕ) (l : GridLayout) : Type 0 where
  -- where a named value lies
  pub place : (x : ValueName) → place_in g (Grid l) x ≡ refuses 9 0
  -- the single read of any point
  pub point : (r c : ℕ) → read_point g (Grid l) r c ≡ refuses 9 0
  -- where the header is
  pub header : header_span g (Grid l) ≡ refuses 9 0
  -- so no byte of it is handed back
  pub header_bytes : handed g (header_span g (Grid l)) ≡ []
  -- the whole grid by columns
  pub columns : (out : List ℤ) → copy_by_columns g (Grid l) out ≡ (refuses 9 0, out)
  -- by rows
  pub rows : (out : List ℤ) → copy_by_rows g (Grid l) out ≡ (refuses 9 0, out)

-- The grid of the layout, as the file g has it, is made of a header of 256 bytes and of values by columns.
pub record ReadsBack (header : List ℕ) (values : List ℤ) (g : List ℕ) (l : GridLayout) : Type 0 where
  -- opening gives the layout
  pub opening : open_grid l.order g l.number ≡ gives l
  -- the point of row r and column c is value number (c-1)·rows + (r-1), counted from 0
  pub point : (r c : ℕ) → IsPoint l r c → read_point g (Grid l) r c ≡ gives (get_or values ((c - 1) * l.rows + (r - 1)) (pos 0))
  -- the header's bytes are those of size, rows and columns in the file's order, and then the given ones from byte 12 on
  pub header_bytes : handed g (header_span g (Grid l)) ≡ bytes_of l.order (l.rows * l.columns ∷ l.rows ∷ l.columns ∷ []) ++ drop 12 header
  -- a copy by columns copies the values as they were lent
  pub columns : (out : List ℤ) → copy_by_columns g (Grid l) out ≡ copied (gives values) out
  -- a copy by rows copies value number c·rows + r for row r and column c, both counted from 0 here
  pub rows : (out : List ℤ) → copy_by_rows g (Grid l) out
      ≡ copied (gives (lines_of (λ r. list_of (λ c. get_or values (c * l.rows + r) (pos 0)) l.columns) l.rows)) out

-- ---- the two calls

-- deleting the grid of a number, of a file and a table, in a byte order
pub record AfterDeleting (o : Order) (f : List ℕ) (number : ℕ) (t : List Extent) : Type 0 where
  -- whether it is deleted or refused, every layout but those of that grid is judged, and reads, as before
  pub others : (l : GridLayout) → ¬ IsOf o number l → AsBefore f (delete_grid o f number t).1.0 l
  -- where it is deleted, every layout of that grid is refused
  pub gone : (count : ℕ) → (delete_grid o f number t).0 ≡ gives count → (l : GridLayout) → IsOf o number l → IsRefused (delete_grid o f number t).1.0 l

-- the layout of a grid that was added to a file
abbrev pub new_layout : Order → List ℕ → Added → ℕ → ℕ → GridLayout
new_layout o f a rows columns =
    record { order = o; length = length f; number = a.number; offset = a.address; rows = rows; columns = columns }

-- adding a grid of a header, of rows and columns, and of values by columns, to a file and a table, in a byte order
pub record AfterAdding (o : Order) (f header : List ℕ) (rows columns : ℕ) (values : List ℤ) (t : List Extent) : Type 0 where
  -- whether it is added or refused, every layout but those of the number that is answered is judged, and reads, as before
  pub others : (l : GridLayout) → ((a : Added) → (add_grid o f header rows columns values t).0 ≡ gives a → ¬ IsOf o a.number l)
      → AsBefore f (add_grid o f header rows columns values t).1.0 l
  -- where it is added, it opens with the number and the address that are answered, and reads back. Each value is a signed word, as a lent slice of them has it.
  pub back : (a : Added) → (add_grid o f header rows columns values t).0 ≡ gives a → ((i : ℕ) → i < length values → SFits w32 (get_or values i (pos 0)))
      → ReadsBack header values (add_grid o f header rows columns values t).1.0 (new_layout o f a rows columns)

-- that deleting and adding do so, of every file
pub record GridsKept : Type 0 where
  -- deleting
  pub deletion : (o : Order) (f : List ℕ) (number : ℕ) (t : List Extent) → AfterDeleting o f number t
  -- adding
  pub addition : (o : Order) (f header : List ℕ) (rows columns : ℕ) (values : List ℤ) (t : List Extent) → AfterAdding o f header rows columns values t
