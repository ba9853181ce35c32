-- `grid_correction::correct_point` meets its contract: a point that cannot be read is not stored, and one that can be is.
-- Assumes nothing.
use mathlib.Core.Path.{◌≡◌, ap, ◌∙◌}
use mir.Syntax.{w32}
use mir.Val.{to_z, of_z}
use borrow.Author.Rules.{rules}
use Rattle.store_rules.specs.Stores.{store_point}
use Rattle.grid_correction.proofs.Corrections.{stored_told}
use Rattle.grid_correction.proofs.correct_point.Goals as goal

pub returns-in_err-store_point : goal.returns-in_err-store_point
returns-in_err-store_point c =
    let a = c.args in
    let same : to_z w32 (of_z w32 a.value) ≡ a.value = search rules in
    absurd (stored_told _ _ _ _ _ _ _ _ _ c.ranges.value c.in_ok-old.ensures (c.in_err-store_point.ensures ∙ ap (store_point a.file.now c.in_ok-layout.layout a.row a.column) same))
