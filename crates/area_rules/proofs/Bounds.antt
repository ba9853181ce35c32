-- The test of bounds says exactly what it is for, and every AREA layout that opening gives passes it.
-- Assumes nothing.
use mathlib.Core.Path.{◌≡◌}
use mathlib.Core.Bool.{true}
use Rattle.refusal_rules.specs.Tests.{Exactly}
use Rattle.refusal_rules.proofs.Exactness.{le_exactly, both_exactly}
use Rattle.area_rules.specs.Samples.{AreaFits}
use Rattle.area_rules.specs.declared.AreaLayout.{AreaLayout}
use Rattle.area_rules.proofs.Counts.{width_bounds}
use Rattle.area_rules.specs.Bounds.{area_bounded, AreaBounds}

-- the test
pub area_bounds : (l : AreaLayout) → Exactly (area_bounded l) (AreaBounds l)
unfolding area_bounded
area_bounds l =
    let x = both_exactly (le_exactly l.lines 65535)
    (both_exactly (le_exactly l.elements 65535) (both_exactly (le_exactly l.width 4) (le_exactly l.bands 64))) in
    record {
      sound = λ e. let h = x.sound e in record { lines = h.0; elements = h.1.0; width = h.1.1.0; bands = h.1.1.1 };
      complete = λ b. x.complete (b.lines, (b.elements, (b.width, b.bands)));
    }

-- a layout that opening gives
pub area_bounded_lem : (l : AreaLayout) → AreaFits l → area_bounded l ≡ true
area_bounded_lem l fits =
    (area_bounds l).complete
    (record { lines = fits.lines_to; elements = fits.elements_to; width = (width_bounds l.width fits.width).1; bands = fits.bands_to })
