-- `area_lines::copy_line` meets its contract: the layout that is found is that of the file.
-- Assumes nothing.
use mathlib.Core.Path.{sym}
use Rattle.layout_rules.proofs.OneKind.{area_known}
use Rattle.area_lines.proofs.copy_line.Goals as goal

pub copy_line_in-requires : goal.copy_line_in-requires
copy_line_in-requires c = area_known _ _ _ (sym c.in_ok-l.ensures)
