-- `area_blocks::block_span` meets its contract: the layout that is found is one that an accepted file has.
-- Assumes nothing.
use mathlib.Core.Path.{sym}
use Rattle.layout_rules.proofs.OneKind.{area_known}
use Rattle.area_blocks.proofs.block_span.Goals as goal

pub span_of-requires : goal.span_of-requires
span_of-requires c = (area_known _ _ _ (sym c.in_ok-l.ensures)).fits
