-- What the product of a GRID address is at most, where the fields of a layout are within bounds: it fits 64 bits.
-- Assumes nothing.
use Prim.Native.Nat.{ℕ, ◌-◌, ◌*◌, ◌≤◌}
use native.Mathlib.Nat.{mul-le-mul}
use native.Mathlib.Omega.{arith}
use Rattle.grid_rules.specs.declared.GridLayout.{GridLayout}
use Rattle.grid_rules.specs.Bounds.{GridBounds}

-- the points before column c
pub points_most : {l : GridLayout} → GridBounds l → (c : ℕ) → c ≤ l.columns → (c - 1) * l.rows ≤ 65535 * 65535
points_most b c h = mul-le-mul {n₂ = 65535} {m₂ = 65535} (omega (arith, h, b.columns)) b.rows
