-- Whether the fields of an MD layout that addresses are computed from are at most what opening accepts: document 01, "Bounds". Those of a layout that
-- opening gives are; those of one that a caller has made up may not be.
-- Assumes nothing.
use Rattle.std.specs.Prelude.{Bool, ◌≤◌, leb}
use Rattle.lists.specs.Choices.{both}
use Rattle.md_rules.specs.declared.MdLayout.{MdLayout}

-- whether rows, columns, and the keys of row headers, column headers and data of a layout are at most what opening accepts
unfoldable pub md_bounded : MdLayout → Bool
md_bounded l =
    both (leb l.rows 65535)
    (both (leb l.columns 1600000)
    (both (leb l.row_keys 400) (both (leb l.column_keys 400) (leb l.data_keys 400))))

-- rows, columns, and the keys of row headers, column headers and data of a layout are at most what opening accepts
pub record MdBounds (l : MdLayout) : Type 0 where
  pub rows : l.rows ≤ 65535
  pub columns : l.columns ≤ 1600000
  pub row_keys : l.row_keys ≤ 400
  pub column_keys : l.column_keys ≤ 400
  pub data_keys : l.data_keys ≤ 400
