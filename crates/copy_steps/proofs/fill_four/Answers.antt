-- `copy_steps::fill_four` meets its contract: the four values are stored one by one.
-- Assumes nothing.
use native.Mathlib.Omega.{arith}
use Rattle.copy_rules.proofs.Runs.{four_stored, holds_first, holds_second}
use Rattle.copy_steps.specs.Fills.{Reads}
use Rattle.copy_steps.proofs.fill_four.Goals as goal

pub returns : goal.returns
returns g c =
    λ value reads.
    four_stored value c.args.at c.args.step c.args.out.now c.requires.0
    (holds_first (Reads (goal.F-post g c.args.read.now) value) c.args.at c.args.step (reads 0 (omega arith)) _ c.read-a.ensures)
    (holds_second (Reads (goal.F-post g c.args.read.now) value) c.args.at c.args.step (reads 1 (omega arith)) _ c.read-b.ensures)
    (reads 2 (omega arith) _ c.read-c.ensures)
    (reads 3 (omega arith) _ c.read-d.ensures)
