-- `extent_table_steps::first_fit`: after i turns what is found is what a search of the first i places finds.
-- Assumes nothing.
use Rattle.std.proofs.Common.{◌≡◌}
use Rattle.extent_rules.specs.Rooms.{searched}
use Rattle.extent_table_steps.proofs.first_fit.Given as goal

abbrev pub invariant-loop-extent : goal.invariant-loop-extent
invariant-loop-extent l = l.found ≡ searched l.fn.table l.fn.need l.extent-index
