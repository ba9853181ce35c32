-- The loop of `bands::BandMap::set_below`: the count is that of the bits below i.
-- Assumes nothing.
use mathlib.Core.Path.{◌≡◌}
use Rattle.area_rules.specs.Bands.{set_below}
use Rattle.bands.proofs.BandMap.set_below.Given as goal

abbrev pub invariant-loop-i : goal.invariant-loop-i
invariant-loop-i l = l.count ≡ set_below l.self.first l.self.second l.i
