-- `grid_updates::delete` meets its contract: the table is filled with the free stretches of the file that deleting leaves.
-- Assumes nothing.
use mathlib.Core.Path.{refl}
use Rattle.std.specs.Prelude.{Ok, Err}
use Rattle.std.proofs.lemmas.Result.{err_from_is_err_and}
use Rattle.grid_update_rules.proofs.Calls.{delete_may_fill, delete_done, delete_kept}
use Rattle.grid_updates.proofs.delete.Goals as goal

pub fill-requires : goal.fill-requires
fill-requires c =
    let a = c.args in
    delete_may_fill a.order a.file.now a.number a.table.now (Ok c.in_ok-count.count) c.delete_in.new.file c.in_ok-count.ensures

pub returns : goal.returns
returns c =
    let a = c.args in
    rw c.fill.ensures (delete_done a.order a.file.now a.number a.table.now (Ok c.in_ok-count.count) c.delete_in.new.file c.in_ok-count.ensures)

pub returns-in_err-count : goal.returns-in_err-count
returns-in_err-count c =
    let p = err_from_is_err_and c.from_residual.result c.from_residual.ensures.1 in
    rw (p.1, p.2) (delete_kept c.args.order c.args.file.now c.args.number c.args.table.now (Err _) c.delete_in.new.file c.in_err-count.ensures refl)
