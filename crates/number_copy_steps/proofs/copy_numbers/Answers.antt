-- `number_copy_steps::copy_numbers` meets its contract: the run is copied where the output has a place for each of its numbers.
-- Assumes nothing.
use Prim.Native.Nat.{ℕ}
use Rattle.endian_rules.specs.Numbers.{number_at}
use Rattle.copy_rules.proofs.Copies.{listed_short}
use Rattle.copy_rules.proofs.Runs.{element}
use Rattle.number_copy_steps.proofs.copy_numbers.Goals as goal

-- the numbers of the run, each by its index
abbrev theNumbers : goal.Then-out-count → ℕ → ℕ
theNumbers s = element (number_at s.args.order s.args.width s.args.file.now) s.args.run.at s.args.run.step

pub returns-then-out-count : goal.returns-then-out-count
returns-then-out-count c =
    let s = c in
    listed_short (theNumbers s) s.args.run.count s.args.out.now c.if-out-count.true
