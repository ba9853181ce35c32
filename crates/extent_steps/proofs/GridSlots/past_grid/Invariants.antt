-- `extent_steps::GridSlots::past_grid` meets its contract: the end so far is that of a grid of the slots before the one that the loop is at.
-- Assumes nothing.
use mathlib.Core.Path.{◌≡◌}
use Rattle.endian_rules.specs.Words.{word_at}
use Rattle.extent_rules.specs.Steps.{past_grid}
use Rattle.extent_steps.proofs.GridSlots.past_grid.Given as goal

abbrev pub invariant-loop-k : goal.invariant-loop-k
invariant-loop-k l = l.past ≡ past_grid (word_at l.self.order l.self.file.now) l.p l.k
