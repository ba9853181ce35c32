-- `extent_steps::GridSlots::next_grid` meets its contract: the next start so far is that of a grid of the slots before the one that the loop is at.
-- Assumes nothing.
use mathlib.Core.Path.{◌≡◌}
use Rattle.endian_rules.specs.Words.{word_at}
use Rattle.extent_rules.specs.Steps.{next_grid}
use Rattle.extent_steps.proofs.GridSlots.next_grid.Given as goal

abbrev pub invariant-loop-k : goal.invariant-loop-k
invariant-loop-k l = l.next ≡ next_grid (word_at l.self.order l.self.file.now) l.whole l.p l.k
