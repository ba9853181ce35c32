-- `area_prefixes::region_span` meets its contract: the layout that is found is one that an accepted file has.
-- Assumes nothing.
use mathlib.Core.Path.{sym}
use Rattle.layout_rules.proofs.OneKind.{area_known}
use Rattle.area_prefixes.proofs.region_span.Goals as goal

pub region_of-requires : goal.region_of-requires
region_of-requires c = (area_known _ _ _ (sym c.in_ok-l.ensures)).fits
