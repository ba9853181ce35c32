-- `grid_copies::copy_by_columns` meets its contract: a fresh GRID layout is one of an accepted file, and its columns are lines of words at equal distances, all
-- inside the file.
-- Assumes nothing.
use mathlib.Core.Path.{sym, ap, ◌∙◌}
use Rattle.refusal_rules.specs.Answers.{mapped}
use Rattle.copy_rules.specs.Runs.{copied}
use Rattle.layout_rules.proofs.OneKind.{grid_known}
use Rattle.grid_part_rules.specs.Grids.{by_columns}
use Rattle.grid_part_rules.proofs.Lines.{copied-same, columns-lines, columns_copyable}
use Rattle.grid_copies.proofs.copy_by_columns.Goals as goal

pub copy_lines-requires : goal.copy_lines-requires
copy_lines-requires c = columns_copyable _ _ (grid_known _ _ _ (sym c.in_ok-l.ensures))

pub returns : goal.returns
returns c =
    let a = c.args in
    copied-same a.out.now (columns-lines a.file.now c.in_ok-l.l) c.copy_lines.ensures
    ∙ ap (λ x. copied (mapped (by_columns a.file.now) x) a.out.now) c.in_ok-l.ensures
