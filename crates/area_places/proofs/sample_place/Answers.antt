-- `area_places::sample_place` meets its contract: the layout that is within bounds is the one that has the line, the element and the slot.
-- Assumes nothing.
use mathlib.Core.Path.{sym}
use native.Mathlib.Omega.{arith}
use Rattle.area_rules.proofs.Bands.{named_slot-inside}
use Rattle.area_places.proofs.sample_place.Goals as goal

pub sample_address-requires : goal.sample_address-requires
sample_address-requires c =
    let slot = named_slot-inside c.args.layout c.args.which _ (sym c.in_ok-slot.ensures) in
    rw c.in_ok-bounded.ensures.same (omega arith, (omega arith, omega arith))
