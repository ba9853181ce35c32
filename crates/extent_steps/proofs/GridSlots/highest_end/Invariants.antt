-- `extent_steps::GridSlots::highest_end` meets its contract: the highest end so far is that of the slots before the one that the loop is at.
-- Assumes nothing.
use mathlib.Core.Path.{◌≡◌}
use Prim.Native.Nat.{◌+◌}
use Rattle.endian_rules.specs.Words.{word_at}
use Rattle.extent_rules.specs.Stretches.{highest_end}
use Rattle.extent_steps.proofs.GridSlots.highest_end.Given as goal

abbrev pub invariant-loop-k : goal.invariant-loop-k
invariant-loop-k l = l.high ≡ highest_end (word_at l.self.order l.self.file.now) (12 + l.n) l.k
