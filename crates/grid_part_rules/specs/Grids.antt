-- The header of a grid, and a whole grid by columns or by rows: document 01, "GRID" and "What comes back". Each call refuses 9, then 7 for the kind.
-- Assumes nothing.
use Rattle.std.specs.Prelude.{List, ℕ, ◌+◌, ◌*◌, ℤ}
use Rattle.lists.specs.Lists.{list_of, lines_of}
use Rattle.endian_rules.specs.Words.{signed_at}
use Rattle.refusal_rules.specs.Answers.{Answer, mapped}
use Rattle.grid_rules.specs.Points.{header_word, point_word}
use Rattle.grid_rules.specs.declared.GridLayout.{GridLayout}
use Rattle.layout_rules.specs.Found.{grid_of}
use Rattle.layout_rules.specs.declared.Layout.{Layout}
use Rattle.copy_rules.specs.Runs.{copied}
use Rattle.span_rules.specs.Spans.{span}
use Rattle.span_rules.specs.declared.Span.{Span}

-- the span of the header of a grid, which is 64 words from header word 1 on, or the refusal
abbrev pub header_span : List ℕ → Layout → Answer Span
header_span f l = mapped (λ g. span (4 * header_word g 1) 256) (grid_of f l)

-- the value of the point of row r and column c, counted from 1
abbrev pub point_at : List ℕ → GridLayout → ℕ → ℕ → ℤ
point_at f g r c = signed_at g.order f (4 * point_word g r c)

-- the points of a grid column by column: column 1 from row 1 on, then column 2
unfoldable pub by_columns : List ℕ → GridLayout → List ℤ
by_columns f g = lines_of (λ c. list_of (λ r. point_at f g (r + 1) (c + 1)) g.rows) g.columns

-- the points of a grid row by row: row 1 from column 1 on, then row 2
unfoldable pub by_rows : List ℕ → GridLayout → List ℤ
by_rows f g = lines_of (λ r. list_of (λ c. point_at f g (r + 1) (c + 1)) g.columns) g.rows

-- what copying a grid by columns into a lent output answers and leaves: after 9 and 7 for the kind, 10 where the output is too short
abbrev pub copy_by_columns : List ℕ → Layout → List ℤ → Answer ℕ × List ℤ
copy_by_columns f l out = copied (mapped (by_columns f) (grid_of f l)) out

-- what copying a grid by rows into a lent output answers and leaves: after 9 and 7 for the kind, 10 where the output is too short
abbrev pub copy_by_rows : List ℕ → Layout → List ℤ → Answer ℕ × List ℤ
copy_by_rows f l out = copied (mapped (by_rows f) (grid_of f l)) out
