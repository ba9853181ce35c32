-- `grid_update_steps::write_values` meets its contract: after i turns the first i words are stored.
-- Assumes nothing.
use mathlib.Core.Path.{◌≡◌}
use mathlib.Core.List.{map}
use lib.ListN.{take}
use lib.Seq.{sets}
use mir.Syntax.{w32}
use mir.Val.{of_z}
use Rattle.endian_rules.specs.Files.{bytes_of}
use Rattle.grid_update_steps.proofs.write_values.Given as goal

abbrev pub invariant-loop-i : goal.invariant-loop-i
invariant-loop-i l = l.file ≡ sets l.initial.file l.at (bytes_of l.order (map (of_z w32) (take l.i l.values)))
