-- `extent_steps::AcceptedFile::lowest_free` meets its contract: the words from p up to the one that the loop is at are not free, and each turn goes on behind the grid that
-- has that word.
-- Assumes nothing.
use mathlib.Core.Path.{◌≡◌}
use mathlib.Core.Bool.{false}
use Prim.Native.Nat.{ℕ, ◌-◌, ◌/◌, ◌≤◌, ◌<◌}
use lib.ListN.{length}
use Rattle.endian_rules.specs.Words.{word_at}
use Rattle.extent_rules.specs.Stretches.{is_free}
use Rattle.extent_rules.specs.Steps.{past_grid}
use Rattle.extent_steps.proofs.AcceptedFile.lowest_free.Given as goal

abbrev pub invariant-loop-at : goal.invariant-loop-at
invariant-loop-at l =
    (l.p ≤ l.at) × ((l.at ≤ length l.self.file.now / 4) × ((l.past ≡ past_grid (word_at l.self.order l.self.file.now) l.at (word_at l.self.order l.self.file.now 10)) ×
    ((q : ℕ) → l.p ≤ q → q < l.at → is_free (word_at l.self.order l.self.file.now) q ≡ false)))

abbrev pub decreases-loop-at : goal.decreases-loop-at
decreases-loop-at l = length l.self.file.now / 4 - l.at
