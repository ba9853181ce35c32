-- `area_prefixes::region_bytes` meets its contract: the span that `region_span` gives is inside the file.
-- Assumes nothing.
use mathlib.Core.Path.{sym, subst}
use Rattle.span_rules.specs.Spans.{Inside}
use Rattle.area_part_rules.proofs.Regions.{region_in_file}
use Rattle.area_prefixes.proofs.region_bytes.Goals as goal

pub hand_back-requires : goal.hand_back-requires
hand_back-requires c =
    let a = c.args in
    subst (Inside a.file.now) (sym c.region_span.ensures) (region_in_file _ _ _ _)
