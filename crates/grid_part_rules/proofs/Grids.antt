-- What is promised of the header of a grid, and of a grid that is copied by columns or by rows.
-- Assumes nothing.
use mathlib.Core.Path.{◌≡◌, refl, ap, ◌∙◌}
use mathlib.Core.Logic.{◌↔◌}
use mathlib.Core.List.{List}
use Prim.Native.Nat.{ℕ, ◌+◌, ◌-◌, ◌*◌, ◌≤◌, ◌<◌}
use native.Mathlib.Nat.{mul_comm}
use native.Mathlib.Omega.{arith}
use lib.IntN.{ℤ}
use lib.ListN.{length}
use Rattle.lists.specs.Lists.{part}
use Rattle.lists.proofs.Built.{length-list_of, length-lines_of}
use Rattle.lists.proofs.Parts.{part-part}
use Rattle.refusal_rules.specs.Answers.{Answer, gives, refuses, mapped}
use Rattle.refusal_rules.proofs.Answers.{gives-same, mapped_made, mapped-refuses}
use Rattle.grid_rules.specs.Opening.{open_grid}
use Rattle.grid_rules.specs.Points.{header_word, point_word, GridOf}
use Rattle.grid_rules.specs.declared.GridLayout.{GridLayout}
use Rattle.layout_rules.specs.Layouts.{Fresh}
use Rattle.layout_rules.specs.Found.{grid_of}
use Rattle.layout_rules.specs.declared.Layout.{Layout}
use Rattle.layout_rules.specs.declared.Layout.TheVariants.{Grid}
use Rattle.layout_rules.proofs.OneKind.{grid-found, grid_known, grid-stale, grid_ten}
use Rattle.span_rules.specs.Spans.{span, handed, Inside}
use Rattle.span_rules.specs.declared.Span.{Span}
use Rattle.copy_rules.specs.Runs.{copied}
use Rattle.copy_rules.proofs.Copies.{copied_nine, copied_ten}
use Rattle.grid_part_rules.specs.Grids.{header_span, by_columns, by_rows, copy_by_columns, copy_by_rows}

-- whatever is made of the layout, it is refused with 9 exactly where the layout is stale
made_stale : {Value : Type 0} (h : GridLayout → Value) (f : List ℕ) (l : Layout) → (mapped h (grid_of f l) ≡ refuses 9 0) ↔ (¬ Fresh f l)
made_stale h f l =
    let x = mapped-refuses h (grid_of f l) 9 0 in
    let y = grid-stale f l in
    (λ e. y.0 (x.0 e), λ s. x.1 (y.1 s))

-- ---- the header

-- the span is that of the header of a grid of a file: the layout is a GRID layout that opening the file gives, and the span is 64 words from header word 1 on
pub record IsHeaderSpan (f : List ℕ) (l : Layout) (s : Span) : Type 0 where
  pub grid : GridLayout
  pub layout : l ≡ Grid grid
  pub opens : open_grid grid.order f grid.number ≡ gives grid
  pub same : s ≡ span (4 * header_word grid 1) 256

-- a span of a header is given exactly where it is that
pub header_exactly : (f : List ℕ) (l : Layout) (s : Span) → (header_span f l ≡ gives s) ↔ IsHeaderSpan f l s
header_exactly f l s =
    let x = mapped_made (λ g. span (4 * header_word g 1) 256) (grid_of f l) s in (
      λ e.
          let (g, found, same) = x.0 e in
          let (layout, opens) = (grid-found f l g).0 found in
          record { grid = g; layout = layout; opens = opens; same = same },
      λ h. x.1 (h.grid, (grid-found f l h.grid).1 (h.layout, h.opens), h.same),
    )

-- a header that is given ends where the data begin
pub header_span-end : (f : List ℕ) (l : Layout) (g : GridLayout) (s : Span) → grid_of f l ≡ gives g → header_span f l ≡ gives s
    → s.start + s.length ≡ 4 * point_word g 1 1
header_span-end f l g s e given = omega (arith, ap (λ (x : Span). x.start + x.length) (gives-same (rw e at given)))

-- it is inside the file
pub header_span-inside : (f : List ℕ) (l : Layout) → Inside f (header_span f l)
header_span-inside f l = step (header_span f l) refl
  where
    step : (x : Answer Span) → header_span f l ≡ x → Inside f x
    step (gives s) given =
        let (g, e, same) = (mapped_made _ (grid_of f l) s).0 given in
        let of : GridOf g.order f g.number g = grid_known f l g e in
        omega (arith, header_span-end f l g s e given, of.fits.room, of.size)
    step (refuses n p) given = tt

-- header word k is word k, counted from 1, of the bytes that are handed back
pub header_word_lem : (f : List ℕ) (l : Layout) (g : GridLayout) → grid_of f l ≡ gives g
    → (k : ℕ) → 1 ≤ k → k ≤ 64 → part (4 * (k - 1)) 4 (handed f (header_span f l)) ≡ part (4 * header_word g k) 4 f
header_word_lem f l g e k from to =
    let at : 4 * header_word g 1 + 4 * (k - 1) ≡ 4 * header_word g k = omega arith in
    rw e (part-part (4 * header_word g 1) 256 (4 * (k - 1)) 4 f (omega arith) ∙ ap (λ (a : ℕ). part a 4 f) at)

-- the header is refused with 9 exactly where the layout is stale
pub header-stale : (f : List ℕ) (l : Layout) → (header_span f l ≡ refuses 9 0) ↔ (¬ Fresh f l)
header-stale f l = made_stale _ f l

-- ---- a refused copy

-- what is made of a grid of a file and copied, as many numbers as there are points, is refused with 10 exactly where there is such a grid, and the output has fewer
-- places than the grid has points
made_short : (h : GridLayout → List ℤ) → ((g : GridLayout) → length (h g) ≡ g.rows * g.columns) → (f : List ℕ) (l : Layout) (out : List ℤ)
    → ((copied (mapped h (grid_of f l)) out).0 ≡ refuses 10 0) ↔ ((g : GridLayout) × (grid_of f l ≡ gives g) × (length out < g.rows * g.columns))
made_short h size f l out =
    let y = copied_ten (mapped h (grid_of f l)) out (λ e. grid_ten f l ((mapped-refuses h (grid_of f l) 10 0).0 e)) in (
      λ e.
          let (xs, given, short) = y.0 e in
          let (g, found, same) = (mapped_made h (grid_of f l) xs).0 given in
          (g, found, omega (arith, short, ap length same, size g)),
      λ p.
          let (g, found, short) = p in
          y.1 (h g, (mapped_made h (grid_of f l) (h g)).1 (g, found, refl), omega (arith, short, size g)),
    )

module _ (f : List ℕ) (l : Layout) (out : List ℤ) where
  -- a copy by columns is refused with 9 exactly where the layout is stale
  pub columns-stale : ((copy_by_columns f l out).0 ≡ refuses 9 0) ↔ (¬ Fresh f l)
  columns-stale = copied_nine (mapped (by_columns f) (grid_of f l)) out (made_stale (by_columns f) f l)

  -- a copy by rows
  pub rows-stale : ((copy_by_rows f l out).0 ≡ refuses 9 0) ↔ (¬ Fresh f l)
  rows-stale = copied_nine (mapped (by_rows f) (grid_of f l)) out (made_stale (by_rows f) f l)

  -- a copy by columns is refused with 10 exactly where there is such a grid, and the output has fewer places than the grid has points
  pub columns_short : ((copy_by_columns f l out).0 ≡ refuses 10 0) ↔ ((g : GridLayout) × (grid_of f l ≡ gives g) × (length out < g.rows * g.columns))
  unfolding by_columns
  columns_short =
      made_short (by_columns f)
      (λ g. length-lines_of _ g.rows (λ c. length-list_of _ g.rows) g.columns ∙ mul_comm g.columns g.rows)
      f l out

  -- a copy by rows
  pub rows_short : ((copy_by_rows f l out).0 ≡ refuses 10 0) ↔ ((g : GridLayout) × (grid_of f l ≡ gives g) × (length out < g.rows * g.columns))
  unfolding by_rows
  rows_short = made_short (by_rows f) (λ g. length-lines_of _ g.columns (λ r. length-list_of _ g.columns) g.rows) f l out
