-- `grid_update_steps::carry_out` meets its contract: the grid has room where it is written, at an address of 32 bits.
-- Assumes nothing.
use Rattle.grid_update_rules.proofs.Plans.{may_write, address_small}
use Rattle.grid_update_steps.proofs.carry_out.Goals as goal

pub write_grid-requires : goal.write_grid-requires
write_grid-requires c =
    let a = c.args in
    may_write a.order a.file.now a.header.now a.rows a.columns a.values.now a.size a.plan a.found c.requires c.first_fitting-at.result c.first_fitting-at.ensures

pub overflow_cast-at : goal.overflow_cast-at
overflow_cast-at c =
    let a = c.args in
    address_small a.order a.file.now a.header.now a.rows a.columns a.values.now a.size a.plan a.found c.requires c.first_fitting-at.result c.first_fitting-at.ensures
