-- The test of bounds says exactly what it is for, and every MD layout that opening gives passes it.
-- Assumes nothing.
use mathlib.Core.Path.{◌≡◌}
use mathlib.Core.Bool.{true}
use Rattle.refusal_rules.specs.Tests.{Exactly}
use Rattle.refusal_rules.proofs.Exactness.{le_exactly, both_exactly}
use Rattle.md_rules.specs.Accepts.{MdFits}
use Rattle.md_rules.specs.declared.MdLayout.{MdLayout}
use Rattle.md_rules.specs.Bounds.{md_bounded, MdBounds}

-- the test
pub md_bounds : (l : MdLayout) → Exactly (md_bounded l) (MdBounds l)
unfolding md_bounded
md_bounds l =
    let x = both_exactly (le_exactly l.rows 65535)
    (both_exactly (le_exactly l.columns 1600000)
    (both_exactly (le_exactly l.row_keys 400) (both_exactly (le_exactly l.column_keys 400) (le_exactly l.data_keys 400)))) in
    record {
      sound =
          λ e.
          let h = x.sound e in
          record { rows = h.0; columns = h.1.0; row_keys = h.1.1.0; column_keys = h.1.1.1.0; data_keys = h.1.1.1.1 };
      complete = λ b. x.complete (b.rows, (b.columns, (b.row_keys, (b.column_keys, b.data_keys))));
    }

-- a layout that opening gives
pub md_bounded_lem : (l : MdLayout) → MdFits l → md_bounded l ≡ true
md_bounded_lem l fits =
    (md_bounds l).complete
    (record {
      rows = fits.rows_to;
      columns = fits.columns_to;
      row_keys = fits.row_keys_to;
      column_keys = fits.column_keys_to;
      data_keys = fits.data_keys_to;
    })
