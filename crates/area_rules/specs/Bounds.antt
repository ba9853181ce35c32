-- Whether the fields of an AREA layout that addresses are computed from are at most what opening accepts: document 01, "Bounds". Those of a layout that
-- opening gives are; those of one that a caller has made up may not be.
-- Assumes nothing.
use Rattle.std.specs.Prelude.{Bool, ◌≤◌, leb}
use Rattle.lists.specs.Choices.{both}
use Rattle.area_rules.specs.declared.AreaLayout.{AreaLayout}

-- whether lines, elements, bytes of a sample and bands of a layout are at most what opening accepts
unfoldable pub area_bounded : AreaLayout → Bool
area_bounded a = both (leb a.lines 65535) (both (leb a.elements 65535) (both (leb a.width 4) (leb a.bands 64)))

-- lines, elements, bytes of a sample and bands of a layout are at most what opening accepts
pub record AreaBounds (a : AreaLayout) : Type 0 where
  pub lines : a.lines ≤ 65535
  pub elements : a.elements ≤ 65535
  pub width : a.width ≤ 4
  pub bands : a.bands ≤ 64
