-- `extent_table_steps::search` meets its contract: the table that is searched has as many places as are filled.
-- Assumes nothing.
use Rattle.std.proofs.Common.{◌≤◌, length, arith}
use Rattle.extent_rules.proofs.Fit.{lesser_count}
use Rattle.extent_table_steps.proofs.search.Goals as goal

pub returns : goal.returns
returns c =
    let room : c.args.count ≤ length c.fill.new.table = omega (arith, c.requires.0, c.fill.auto.table) in
    rw (c.first_fit.ensures, lesser_count c.args.count (length c.fill.new.table) room, c.fill.ensures)
