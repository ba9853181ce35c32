-- What the table of rules of GRID places asks, as a statement: it holds exactly where there is such a point.
-- Assumes nothing.
use mathlib.Core.Logic.{◌↔◌}
use Prim.Native.Nat.{ℕ}
use Rattle.refusal_rules.specs.Rules.{Hold}
use Rattle.refusal_rules.proofs.Exactness.{within_exactly}
use Rattle.refusal_rules.proofs.Tables.{also}
use Rattle.grid_rules.specs.Points.{IsPoint}
use Rattle.grid_rules.specs.declared.GridLayout.{GridLayout}
use Rattle.grid_rules.specs.Bounds.{GridBounds}
use Rattle.grid_rules.specs.Places.{point_rules}
use Rattle.grid_rules.proofs.Bounds.{grid_bounds}

-- a point
pub points_hold : (l : GridLayout) (r c : ℕ) → Hold (point_rules l r c) ↔ (GridBounds l × IsPoint l r c)
unfolding point_rules
points_hold l r c =
    let row = within_exactly 1 l.rows r in
    let column = within_exactly 1 l.columns c in (
      λ h.
          let (row_from, row_to) = row.sound h.1.0 in
          let (column_from, column_to) = column.sound h.1.1.0 in (
            (grid_bounds l).sound h.0,
            record { row_from = row_from; row_to = row_to; column_from = column_from; column_to = column_to },
          ),
      λ p.
          also ((grid_bounds l).complete p.0)
          (also (row.complete (p.1.row_from, p.1.row_to)) (also (column.complete (p.1.column_from, p.1.column_to)) tt)),
    )
