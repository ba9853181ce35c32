-- `copy_steps::fill_singly` meets its contract: after i turns the first i places hold what is read at the first i bytes.
-- Assumes nothing.
use Prim.Native.Nat.{ℕ}
use lib.ListN.{length}
use Rattle.copy_rules.proofs.Runs.{Filled}
use Rattle.copy_steps.specs.Fills.{AtEach, Reads}
use Rattle.copy_steps.proofs.fill_singly.Given as goal

abbrev pub invariant-loop-i : goal.invariant-loop-i
invariant-loop-i g l =
    (value : ℕ → g.row.T.Denot) → AtEach (Reads (goal.F-post g l.read) value) l.at l.step (length l.initial.out)
    → Filled value l.at l.step l.i l.initial.out l.out
