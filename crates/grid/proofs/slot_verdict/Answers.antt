-- `grid::slot_verdict` meets its contract: where the grid's own checks have passed, its first word is inside the file.
-- Assumes nothing.
use mathlib.Core.Path.{sym}
use native.Mathlib.Omega.{arith}
use Rattle.grid_rules.proofs.Slots.{own_end}
use Rattle.grid.proofs.slot_verdict.Goals as goal

pub read_word-requires : goal.read_word-requires
read_word-requires c =
    omega (arith, own_end _ _ _ _ (sym c.in_ok-own_verdict.ensures), c.args.directory.room.whole, c.read_word-word.ensures)
