-- `bands::slot_of_band` meets its contract: a map that has the band bounds it.
-- Assumes nothing.
use mathlib.Core.Path.{sym, ◌∙◌}
use native.Mathlib.Omega.{arith}
use Rattle.refusal_rules.proofs.Tables.{judge_pass}
use Rattle.area_rules.proofs.Bands.{HasBand, band_exactly}
use Rattle.bands.proofs.slot_of_band.Goals as goal

has : (c : goal.In_ok-check-2) → HasBand c.args.layout.map c.second_map-second.result c.args.band
has c = (band_exactly _ _ _).sound (sym c.has.ensures ∙ judge_pass _ (sym c.in_ok-check-2.ensures))

pub overflow_sub-band : goal.overflow_sub-band
overflow_sub-band c = (has c).from

pub set_below-requires-2 : goal.set_below-requires-2
set_below-requires-2 c = omega (arith, (has c).to)
