-- What the products of an MD address are at most, where the fields of a layout are within bounds: all of them fit 64 bits.
-- Assumes nothing.
use mathlib.Core.Path.{◌≡◌}
use Prim.Native.Nat.{ℕ, zero, suc, ◌+◌, ◌-◌, ◌*◌, ◌≤◌, ◌<◌}
use native.Mathlib.Nat.{mul-le-mul}
use native.Mathlib.Omega.{arith}
use lib.Dec.{eqb-suc-zero}
use Rattle.md_rules.specs.Fields.{field_word, IsField}
use Rattle.md_rules.specs.declared.MdLayout.{MdLayout}
use Rattle.md_rules.specs.Bounds.{MdBounds}
use Rattle.md_rules.specs.Places.{part_word}

module _ {l : MdLayout} (b : MdBounds l) where
  -- the words of the row headers before row r
  pub rows_most : (r : ℕ) → r ≤ l.rows → (r - 1) * l.row_keys ≤ 65535 * 400
  rows_most r h = mul-le-mul {n₂ = 65535} {m₂ = 400} (omega (arith, h, b.rows)) b.row_keys

  -- of the column headers before column c
  pub columns_most : (c : ℕ) → c ≤ l.columns → (c - 1) * l.column_keys ≤ 1600000 * 400
  columns_most c h = mul-le-mul {n₂ = 1600000} {m₂ = 400} (omega (arith, h, b.columns)) b.column_keys

  -- the records before row r, and before one of them
  pub records_most : (r : ℕ) → r ≤ l.rows → (r - 1) * l.columns ≤ 65535 * 1600000
  records_most r h = mul-le-mul {n₂ = 65535} {m₂ = 1600000} (omega (arith, h, b.rows)) b.columns

  pub data_most : (r c : ℕ) → r ≤ l.rows → c ≤ l.columns → ((r - 1) * l.columns + (c - 1)) * l.data_keys ≤ 104857600000 * 400
  data_most r c h k = mul-le-mul {n₂ = 104857600000} {m₂ = 400} (omega (arith, records_most r h, k, b.columns)) b.data_keys

  -- where a part begins, and a field is
  pub part_most : (r c : ℕ) → r ≤ l.rows → c ≤ l.columns → l.column_start < 4294967296 → l.data_start < 4294967296
      → part_word l r c < 4294967296 + 104857600000 * 400
  unfolding field_word
  part_most zero zero h k p q = omega arith
  part_most zero (suc c) h k p q = rw (eqb-suc-zero c) (omega (arith, columns_most (suc c) k))
  part_most (suc r) zero h k p q = rw (eqb-suc-zero r) (omega (arith, rows_most (suc r) h))
  part_most (suc r) (suc c) h k p q = rw (eqb-suc-zero r, eqb-suc-zero c) (omega (arith, data_most (suc r) (suc c) h k))

-- a field is in the part that its coordinates name
pub field_in_part : (l : MdLayout) (r c f : ℕ) → field_word l r c f ≡ part_word l r c + (f - 1)
unfolding field_word
field_in_part l zero zero f = omega arith
field_in_part l zero (suc c) f = rw (eqb-suc-zero c) (omega arith)
field_in_part l (suc r) zero f = rw (eqb-suc-zero r) (omega arith)
field_in_part l (suc r) (suc c) f = rw (eqb-suc-zero r, eqb-suc-zero c) (omega arith)

pub field_most : {l : MdLayout} {r c f : ℕ} → MdBounds l → IsField l r c f → l.column_start < 4294967296 → l.data_start < 4294967296 → f < 4294967296
    → field_word l r c f < 8589934592 + 104857600000 * 400
field_most {l} {r} {c} {f} b is p q small =
    omega (arith, field_in_part l r c f, part_most b r c is.row is.column p q, small)
