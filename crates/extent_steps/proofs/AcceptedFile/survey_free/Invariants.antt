-- `extent_steps::AcceptedFile::survey_free` meets its contract: after so many turns the loop is at the run of that number, and each run before it has words.
-- Assumes nothing.
use mathlib.Core.Path.{◌≡◌}
use Prim.Native.Nat.{ℕ, suc, ◌+◌, ◌-◌, ◌/◌, ◌<◌}
use lib.ListN.{length}
use Rattle.extent_rules.specs.Steps.{nth_run}
use Rattle.extent_steps.proofs.AcceptedFile.survey_free.Given as goal

abbrev pub invariant-loop-e : goal.invariant-loop-e
invariant-loop-e l =
    (l.last ≡ nth_run l.self.order l.self.file.now l.count) × ((l.e ≡ nth_run l.self.order l.self.file.now (suc l.count)) × ((i : ℕ) → i < l.count → 0 < (nth_run l.self.order l.self.file.now (suc i)).length))

abbrev pub decreases-loop-e : goal.decreases-loop-e
decreases-loop-e l = length l.self.file.now / 4 - (l.last.start + l.last.length)
