-- `grid_updates::add` meets its contract: the table holds the free stretches of the file while it is searched, and those of the file with the grid in the end.
-- Assumes nothing.
use Rattle.std.proofs.Common.{List, length, ap}
use Rattle.std.specs.Prelude.{◌≡◌, Ok}
use Rattle.refusal_rules.specs.Answers.{gives}
use Rattle.extent_rules.specs.declared.Extent.{Extent}
use Rattle.std.proofs.lemmas.Result.{err_from_is_err_and}
use Rattle.grid_update_rules.proofs.Calls.{plan_may_fill, plan_ready, add_refused, add_allowed, add_may_fill, add_done}
use Rattle.grid_updates.proofs.add.Goals as goal

pub search-found-requires : goal.search-found-requires
search-found-requires c =
    let a = c.args in
    plan_may_fill a.order a.file.now (length a.header.now) a.rows a.columns (length a.values.now) a.table.now (gives c.in_ok-plan.plan)
    c.in_ok-plan.ensures

pub add_at-requires : goal.add_at-requires
add_at-requires c =
    let a = c.args in
    rw c.search-found.auto.table
    (plan_ready a.order a.file.now a.header.now a.rows a.columns a.values.now a.table.now (Ok c.in_ok-plan.plan) c.search-found.result c.in_ok-plan.ensures
    (λ q same.
    let this : q ≡ c.in_ok-plan.plan = cc in
    rw this (ap (λ (z : Extent × List Extent). z.0) c.search-found.ensures)))

pub fill-requires : goal.fill-requires
fill-requires c =
    let a = c.args in
    let stepped = rw c.search-found.auto.table at c.add_at.ensures in
    let given = rw c.in_ok-added.was at stepped in
    rw c.search-found.auto.table
    (add_may_fill a.order a.file.now a.header.now a.rows a.columns a.values.now a.table.now (Ok c.in_ok-added.added) c.add_at.new.file given)

pub returns : goal.returns
returns c =
    let a = c.args in
    let stepped = rw c.search-found.auto.table at c.add_at.ensures in
    let given = rw c.in_ok-added.was at stepped in
    rw (c.fill.ensures, ap (λ (z : Extent × List Extent). z.1) c.search-found.ensures)
    (add_done a.order a.file.now a.header.now a.rows a.columns a.values.now a.table.now (gives c.in_ok-plan.plan) (Ok c.in_ok-added.added) c.add_at.new.file
    c.in_ok-plan.ensures given)

pub returns-in_err-added : goal.returns-in_err-added
returns-in_err-added c =
    let a = c.args in
    let stepped = rw c.search-found.auto.table at c.add_at.ensures in
    add_allowed a.order a.file.now a.header.now a.rows a.columns a.values.now a.table.now c.in_ok-plan.plan _ c.add_at.new.file c.in_ok-plan.ensures
    (rw c.in_err-added.was at stepped)

pub returns-in_err-plan : goal.returns-in_err-plan
returns-in_err-plan c =
    let a = c.args in
    let p = err_from_is_err_and c.from_residual.result c.from_residual.ensures.1 in
    rw (p.1, p.2) (add_refused a.order a.file.now a.header.now a.rows a.columns a.values.now a.table.now _ c.in_err-plan.ensures)
