-- `extent_steps::GridSlots::past_grid` meets its contract: the end of a slot's words is a number of words of the file.
-- Assumes nothing.
use mathlib.Core.Path.{ap}
use native.Mathlib.Omega.{arith}
use Rattle.extent_rules.specs.Stretches.{extent_end}
use Rattle.extent_rules.proofs.Slots.{slot-inside}
use Rattle.extent_steps.proofs.GridSlots.past_grid.Goals as goal

pub overflow_add-end : goal.overflow_add-end
overflow_add-end c =
    let inside = slot-inside _ _ c.loop-k.k c.args.self.inside (omega (arith, c.loop-k-test.true, c.read_word-n.ensures)) in
    omega (arith, inside, ap extent_end c.slot_extent-grid.ensures)
