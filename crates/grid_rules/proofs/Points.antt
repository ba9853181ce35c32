-- Addresses of header words and points. All of it rests on `GridFits`, what is known of the layout of a grid of an accepted file.
-- Assumes nothing.
use mathlib.Core.Path.{◌≡◌}
use Prim.Native.Nat.{ℕ, ◌+◌, ◌-◌, ◌*◌, ◌≤◌, ◌<◌}
use native.Mathlib.Nat.{mul_comm}
use native.Mathlib.Omega.{arith}
use Rattle.lists.specs.Lists.{Apart}
use Rattle.lists.proofs.Rows.{row-inside, row_only}
use Rattle.endian_rules.proofs.Places.{words-apart}
use Rattle.grid_rules.specs.declared.GridLayout.{GridLayout}
use Rattle.grid_rules.specs.Points.{header_word, point_word, IsPoint, GridFits}

-- header word k, of 64, is one of the 64 words from the offset on, before the data
pub header_among : (l : GridLayout) (k : ℕ) → 1 ≤ k → k ≤ 64 → (l.offset ≤ header_word l k) × (header_word l k < l.offset + 64)
header_among l k from to = (omega arith, omega arith)

-- the point of row r and column c is one of the rows·columns points
pub point_among : (l : GridLayout) (r c : ℕ) → IsPoint l r c → (c - 1) * l.rows + (r - 1) < l.rows * l.columns
point_among l r c p =
    let row : r - 1 < l.rows = omega (arith, p.row_from, p.row_to) in
    let column : c - 1 < l.columns = omega (arith, p.column_from, p.column_to) in
    omega (arith, row-inside l.rows (c - 1) l.columns (r - 1) column row, mul_comm l.columns l.rows)

module _ (l : GridLayout) (fits : GridFits l) where
  -- the bytes of a point are inside the file
  pub point-inside : (r c : ℕ) → IsPoint l r c → 4 * point_word l r c + 4 ≤ l.length
  point-inside r c p = omega (arith, fits.room, point_among l r c p)

  -- its word is below 2 ^ 31
  pub point-small : (r c : ℕ) → IsPoint l r c → point_word l r c < 2147483648
  point-small r c p = omega (arith, fits.small, point_among l r c p)

  -- the bytes of a header word are inside the file
  pub header-inside : (k : ℕ) → 1 ≤ k → k ≤ 64 → 4 * header_word l k + 4 ≤ l.length
  header-inside k from to = omega (arith, fits.room, (header_among l k from to).1)

module _ (l : GridLayout) (r c s d : ℕ) (p : IsPoint l r c) (q : IsPoint l s d) where
  -- points with one word have one row and one column
  pub point_only : point_word l r c ≡ point_word l s d → (r ≡ s) × (c ≡ d)
  point_only e =
      let same : (c - 1) * l.rows + (r - 1) ≡ (d - 1) * l.rows + (s - 1) = omega arith in
      let x =
      row_only l.rows (c - 1) (r - 1) (d - 1) (s - 1) (omega (arith, p.row_from, p.row_to)) (omega (arith, q.row_from, q.row_to)) same in
      (omega (arith, x.1, p.row_from, q.row_from), omega (arith, x.0, p.column_from, q.column_from))

  -- distinct points share no byte
  pub points_apart : ¬ ((r ≡ s) × (c ≡ d)) → Apart (4 * point_word l r c) 4 (4 * point_word l s d) 4
  points_apart other = words-apart (point_word l r c) (point_word l s d) (λ e. other (point_only e))
