-- `copy_steps::fill_by_fours` meets its contract: after so many turns four times as many places hold what is read. The rest is filled one by one.
-- Assumes nothing.
use Prim.Native.Nat.{ℕ, ◌*◌}
use lib.ListN.{length}
use Rattle.copy_rules.proofs.Runs.{Filled}
use Rattle.copy_steps.specs.Fills.{AtEach, Reads}
use Rattle.copy_steps.proofs.fill_by_fours.Given as goal

abbrev pub invariant-loop-turn : goal.invariant-loop-turn
invariant-loop-turn g l =
    (value : ℕ → g.row.T.Denot) → AtEach (Reads (goal.F-post g l.read) value) l.at l.step (length l.initial.out)
    → Filled value l.at l.step (4 * l.turn) l.initial.out l.out
