-- `extent_table_steps::fill`: after i turns the extent is run number i, and the first i places of the table hold the runs behind the directory.
-- Assumes nothing.
use Rattle.std.proofs.Common.{◌≡◌, suc, ◌++◌, drop, take}
use Rattle.lists.specs.Lists.{list_of}
use Rattle.extent_rules.specs.Steps.{nth_run}
use Rattle.extent_table_steps.proofs.fill.Given as goal

abbrev pub invariant-loop-place : goal.invariant-loop-place
invariant-loop-place l =
    (l.e ≡ nth_run l.fn.order l.fn.file l.place-index)
    × (l.place-items ≡ list_of (λ k. nth_run l.fn.order l.fn.file (suc k)) l.place-index ++ drop l.place-index (take l.fn.count l.fn.table))
