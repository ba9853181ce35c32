-- `grid_updates::free_stretches` meets its contract: what is counted fits the table, and is what the table is filled with.
-- Assumes nothing.
use mathlib.Core.Path.{refl}
use Rattle.std.specs.Prelude.{Ok, Err}
use Rattle.std.proofs.lemmas.Result.{err_from_is_err_and}
use Rattle.grid_update_rules.proofs.Calls.{tell_may_fill, tell_done, tell_kept}
use Rattle.grid_updates.proofs.free_stretches.Goals as goal

pub fill-requires : goal.fill-requires
fill-requires c = tell_may_fill c.args.order c.args.file.now c.args.table.now (Ok c.in_ok-count.count) c.in_ok-count.ensures

pub returns : goal.returns
returns c =
    rw c.fill.ensures (tell_done c.args.order c.args.file.now c.args.table.now (Ok c.in_ok-count.count) c.in_ok-count.ensures)

pub returns-in_err-count : goal.returns-in_err-count
returns-in_err-count c =
    let p = err_from_is_err_and c.from_residual.result c.from_residual.ensures.1 in
    rw (p.1, p.2) (tell_kept c.args.order c.args.file.now c.args.table.now (Err _) c.in_err-count.ensures refl)
