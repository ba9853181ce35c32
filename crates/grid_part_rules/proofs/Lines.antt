-- The points of a grid as lines of words at equal distances. By columns a line is a column, by rows a row: the distances across and along are exchanged.
-- Assumes nothing.
use mathlib.Core.Path.{◌≡◌, ap, ◌∙◌}
use mathlib.Core.List.{List}
use Prim.Native.Nat.{ℕ, ◌+◌, ◌-◌, ◌*◌, ◌^◌, ◌≤◌, ◌<◌}
use native.Mathlib.Nat.{mul-le-mul, mul_left_comm}
use native.Mathlib.Omega.{arith}
use lib.IntN.{ℤ}
use lib.ListN.{length}
use Rattle.lists.specs.Lists.{list_of, lines_of}
use Rattle.endian_rules.specs.Words.{signed_at}
use Rattle.endian_rules.specs.declared.Order.{Order}
use Rattle.refusal_rules.specs.Answers.{Answer, gives}
use Rattle.grid_rules.specs.Points.{point_word, IsPoint, GridOf}
use Rattle.grid_rules.proofs.Points.{point-inside}
use Rattle.grid_rules.specs.declared.GridLayout.{GridLayout}
use Rattle.copy_rules.specs.Runs.{lines_at, copied}
use Rattle.grid_part_rules.specs.Grids.{by_columns, by_rows}

-- what a copy of `count` lines of n words asks of its caller
abbrev pub Copyable : List ℕ → ℕ → ℕ → ℕ → ℕ → ℕ → Type 0
Copyable f at across along count n =
    (count * n < 2 ^ 64) × ((1 ≤ n) × ((k i : ℕ) → k < count → i < n → at + k * across + i * along + 4 ≤ length f))

-- the point of row r + 1 and column c + 1 is c columns and r words behind the first
point_byte : (g : GridLayout) (r c : ℕ) → 4 * (g.offset + 64) + c * (4 * g.rows) + r * 4 ≡ 4 * point_word g (r + 1) (c + 1)
point_byte g r c =
    let row : r + 1 - 1 ≡ r = omega arith in
    let column : c + 1 - 1 ≡ c = omega arith in
    rw (row, column) (omega (arith, mul_left_comm c 4 g.rows))

-- so it is along a row
point_across : (g : GridLayout) (r c : ℕ) → 4 * (g.offset + 64) + r * 4 + c * (4 * g.rows) ≡ 4 * point_word g (r + 1) (c + 1)
point_across g r c = omega (arith, point_byte g r c)

-- where element i of line k is the word `word k i`, the lines are the lists of these words
lines-words : (o : Order) (f : List ℕ) (at across along count n : ℕ) (word : ℕ → ℕ → ℕ)
    → ((k i : ℕ) → at + k * across + i * along ≡ 4 * word k i)
    → lines_at o f at across along count n ≡ lines_of (λ k. list_of (λ i. signed_at o f (4 * word k i)) n) count
lines-words o f at across along count n word same = λ t. lines_of (λ k. list_of (λ i. signed_at o f (same k i t)) n) count

-- what a copy of one list does, a copy of the same list does
pub copied-same : (out : List ℤ) {l k : List ℤ} {x : Answer ℕ × List ℤ} → l ≡ k → x ≡ copied (gives l) out → x ≡ copied (gives k) out
copied-same out e h = h ∙ ap (λ (l : List ℤ). copied (gives l) out) e

module _ (f : List ℕ) (g : GridLayout) where
  -- the columns
  pub columns-lines : lines_at g.order f (4 * (g.offset + 64)) (4 * g.rows) 4 g.columns g.rows ≡ by_columns f g
  unfolding by_columns
  columns-lines =
      lines-words g.order f (4 * (g.offset + 64)) (4 * g.rows) 4 g.columns g.rows (λ c r. point_word g (r + 1) (c + 1)) (λ c r. point_byte g r c)

  -- the rows
  pub rows-lines : lines_at g.order f (4 * (g.offset + 64)) 4 (4 * g.rows) g.rows g.columns ≡ by_rows f g
  unfolding by_rows
  rows-lines =
      lines-words g.order f (4 * (g.offset + 64)) 4 (4 * g.rows) g.rows g.columns (λ r c. point_word g (r + 1) (c + 1)) (λ r c. point_across g r c)

  module _ (of : GridOf g.order f g.number g) where
    -- the point of row r + 1 and column c + 1 is inside the file
    inside : (r c : ℕ) → r < g.rows → c < g.columns → 4 * point_word g (r + 1) (c + 1) + 4 ≤ length f
    inside r c row column =
        let is : IsPoint g (r + 1) (c + 1) = record { row_from = omega arith; row_to = omega arith; column_from = omega arith; column_to = omega arith } in
        omega (arith, point-inside g of.fits (r + 1) (c + 1) is, of.size)

    -- so the columns can be copied
    pub columns_copyable : Copyable f (4 * (g.offset + 64)) (4 * g.rows) 4 g.columns g.rows
    columns_copyable = (
      omega (arith, mul-le-mul of.fits.columns_to of.fits.rows_to),
      (of.fits.rows_from, λ c r column row. omega (arith, inside r c row column, point_byte g r c)),
    )

    -- and the rows
    pub rows_copyable : Copyable f (4 * (g.offset + 64)) 4 (4 * g.rows) g.rows g.columns
    rows_copyable = (
      omega (arith, mul-le-mul of.fits.rows_to of.fits.columns_to),
      (of.fits.columns_from, λ r c row column. omega (arith, inside r c row column, point_across g r c)),
    )
