-- The test of bounds says exactly what it is for, and every GRID layout that opening gives passes it.
-- Assumes nothing.
use mathlib.Core.Path.{◌≡◌}
use mathlib.Core.Bool.{true}
use Rattle.refusal_rules.specs.Tests.{Exactly}
use Rattle.refusal_rules.proofs.Exactness.{le_exactly, both_exactly}
use Rattle.grid_rules.specs.Points.{GridFits}
use Rattle.grid_rules.specs.declared.GridLayout.{GridLayout}
use Rattle.grid_rules.specs.Bounds.{grid_bounded, GridBounds}

-- the test
pub grid_bounds : (l : GridLayout) → Exactly (grid_bounded l) (GridBounds l)
unfolding grid_bounded
grid_bounds l =
    let x = both_exactly (le_exactly l.rows 65535) (le_exactly l.columns 65535) in
    record { sound = λ e. let h = x.sound e in record { rows = h.0; columns = h.1 }; complete = λ b. x.complete (b.rows, b.columns) }

-- a layout that opening gives
pub grid_bounded_lem : (l : GridLayout) → GridFits l → grid_bounded l ≡ true
grid_bounded_lem l fits = (grid_bounds l).complete (record { rows = fits.rows_to; columns = fits.columns_to })
