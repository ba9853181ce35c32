-- `grid_update_steps::lowest_empty` meets its contract: the slots before the one that the loop is at are not empty.
-- Assumes nothing.
use mathlib.Core.Path.{◌≡◌}
use mathlib.Core.Bool.{false}
use Prim.Native.Nat.{ℕ, ◌<◌}
use Rattle.endian_rules.specs.Words.{word_at}
use Rattle.grid_rules.specs.Rules.{is_empty_slot}
use Rattle.grid_update_steps.proofs.lowest_empty.Given as goal

abbrev pub invariant-loop-k : goal.invariant-loop-k
invariant-loop-k l = (q : ℕ) → q < l.k → is_empty_slot (word_at l.accepted.order l.accepted.file.now) q ≡ false
