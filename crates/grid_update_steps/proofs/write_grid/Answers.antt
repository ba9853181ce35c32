-- `grid_update_steps::write_grid` meets its contract: the words and bytes of the grid are stored one behind another.
-- Assumes nothing.
use mathlib.Core.Path.{◌∙◌}
use mathlib.Core.List.{List}
use Prim.Native.Nat.{ℕ, ◌+◌, ◌*◌}
use native.Mathlib.Omega.{arith}
use lib.ListN.{length, drop, length-drop}
use Rattle.std.proofs.lemmas.Slice.{between_to_end}
use Rattle.grid_update_rules.proofs.Bytes.{put_part, grid_stored}
use Rattle.grid_update_steps.proofs.write_grid.Goals as goal

pub returns : goal.returns
returns c =
    let a = c.args in
    let h : List ℕ = a.header.now in
    let copied = c.copy_from_slice.ensures.after ∙ between_to_end h 12 (length h) (omega arith) in
    grid_stored a.order h a.rows a.columns a.values.now a.file.now (4 * a.at) c.requires.0
    c.write_number.ensures
    c.write_number-2.ensures
    c.write_number-3.ensures
    (put_part c.write_number-3.new.file c.copy_from_slice.new.self (drop 12 h) (4 * a.at + 12) _ copied
    (omega (arith, length-drop 12 h, c.requires.0))
    (omega (arith, c.write_number.auto.file, c.write_number-2.auto.file, c.write_number-3.auto.file, c.requires)))
    c.write_values.ensures
