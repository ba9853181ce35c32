-- Whether the fields of a GRID layout that addresses are computed from are at most what opening accepts: document 01, "Bounds". Those of a layout that
-- opening gives are; those of one that a caller has made up may not be.
-- Assumes nothing.
use Rattle.std.specs.Prelude.{Bool, ◌≤◌, leb}
use Rattle.lists.specs.Choices.{both}
use Rattle.grid_rules.specs.declared.GridLayout.{GridLayout}

-- whether rows and columns of a layout are at most what opening accepts
unfoldable pub grid_bounded : GridLayout → Bool
grid_bounded l = both (leb l.rows 65535) (leb l.columns 65535)

-- rows and columns of a layout are at most what opening accepts
pub record GridBounds (l : GridLayout) : Type 0 where
  pub rows : l.rows ≤ 65535
  pub columns : l.columns ≤ 65535
