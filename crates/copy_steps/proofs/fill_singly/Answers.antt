-- `copy_steps::fill_singly` meets its contract: after i turns the first i places hold what is read at the first i bytes.
-- Assumes nothing.
use Rattle.copy_rules.proofs.Runs.{none_filled, one_filled, all_filled}
use Rattle.copy_steps.proofs.fill_singly.Goals as goal

pub loop-i-init : goal.loop-i-init
loop-i-init g c = λ value reads. none_filled _ _ _ _

pub loop-i-preserved : goal.loop-i-preserved
loop-i-preserved g c =
    λ value reads.
    one_filled (c.loop-i.invariant value reads) c.loop-i-test.true (reads _ c.loop-i-test.true _ c.read.ensures)

pub returns : goal.returns
returns g c = λ value reads. all_filled (c.loop-i.invariant value reads) c.loop-i-test.false
