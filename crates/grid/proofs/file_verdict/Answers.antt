-- `grid::file_verdict` meets its contract: where the checks before the slots pass, the directory is inside the file.
-- Assumes nothing.
use mathlib.Core.Path.{sym}
use native.Mathlib.Omega.{arith}
use Rattle.grid_rules.proofs.Slots.{head-room}
use Rattle.grid.proofs.file_verdict.Goals as goal

pub read_word-grids-requires : goal.read_word-grids-requires
read_word-grids-requires c = let room = head-room _ _ (sym c.in_ok-head_verdict.ensures) in omega (arith, room.after, room.whole)

pub read_word-next-requires : goal.read_word-next-requires
read_word-next-requires c =
    let room = head-room _ _ (sym c.in_ok-head_verdict.ensures) in
    omega (arith, room.after, room.whole, c.read_word-grids.ensures)

pub invariant_of-slots_verdict : goal.invariant_of-slots_verdict
invariant_of-slots_verdict c = rw (c.read_word-next.ensures, c.read_word-grids.ensures) (record { room = head-room _ _ (sym c.in_ok-head_verdict.ensures) })
