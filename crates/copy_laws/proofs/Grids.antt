-- Each point that a copy of a grid writes is what the single read of the same point answers, by columns and by rows.
-- Assumes nothing.
use mathlib.Core.Path.{◌≡◌, sym, ap, ap₂, ◌∙◌}
use mathlib.Core.Logic.{◌↔◌}
use mathlib.Core.List.{List}
use Prim.Native.Nat.{ℕ, ◌+◌, ◌-◌, ◌*◌, ◌/◌, ◌%◌, ◌≤◌, ◌<◌}
use native.Mathlib.Nat.{mul_comm, mod-lt, div-add-mod', div-lt_iff_lt-mul}
use native.Mathlib.Omega.{arith}
use lib.IntN.{ℤ, pos}
use lib.ListN.{length, get_or}
use lib.Seq.{ext_get_or}
use Rattle.lists.specs.Lists.{list_of, lines_of}
use Rattle.lists.proofs.Built.{length-list_of, length-lines_of, get_or-list_of, get_or-lines_of}
use Rattle.refusal_rules.specs.Answers.{gives, mapped}
use Rattle.refusal_rules.proofs.Answers.{gives-same, mapped_made}
use Rattle.grid_rules.specs.Points.{IsPoint, GridFits}
use Rattle.grid_rules.proofs.Facts.{grid_of_lem}
use Rattle.grid_rules.specs.Opening.{open_grid}
use Rattle.grid_rules.specs.declared.GridLayout.{GridLayout}
use Rattle.layout_rules.specs.Found.{grid_of}
use Rattle.layout_rules.specs.declared.Layout.{Layout}
use Rattle.layout_rules.specs.declared.Layout.TheVariants.{Grid}
use Rattle.layout_rules.proofs.OneKind.{grid-found}
use Rattle.grid_part_rules.specs.Grids.{point_at, by_columns, by_rows}
use Rattle.value_rules.specs.Reading.{read_point}
use Rattle.value_rules.proofs.Reading.{point_exactly}

-- ---- lines of n elements each, lines and elements counted from 1

-- an index is that of one element of one line
record Element (n count i : ℕ) : Type 0 where
  line : ℕ
  place : ℕ
  line-from : 1 ≤ line
  line-to : line ≤ count
  place-from : 1 ≤ place
  place-to : place ≤ n
  same : i ≡ (line - 1) * n + (place - 1)

element_at : (n count i : ℕ) → 1 ≤ n → i < count * n → Element n count i
element_at n count i some h =
    record {
      line = i / n + 1;
      place = i % n + 1;
      line-from = omega arith;
      line-to = omega (arith, (div-lt_iff_lt-mul {k = n} {x = i} {y = count} some).1 h);
      place-from = omega arith;
      place-to = omega (arith, mod-lt i {m = n} some);
      same =
          let line : i / n + 1 - 1 ≡ i / n = omega arith in
          rw line (omega (arith, div-add-mod' i n));
    }

-- the element of a line
line-element : {A : Type 0} (p : ℕ → ℕ → A) (n count k i : ℕ) (d : A) → 1 ≤ k → k ≤ count → 1 ≤ i → i ≤ n
    → get_or (lines_of (λ a. list_of (λ b. p (b + 1) (a + 1)) n) count) ((k - 1) * n + (i - 1)) d ≡ p i k
line-element p n count k i d k-from k-to i-from i-to =
    let line : k - 1 + 1 ≡ k = omega arith in
    let place : i - 1 + 1 ≡ i = omega arith in
    get_or-lines_of (λ a. list_of (λ b. p (b + 1) (a + 1)) n) n (λ a. length-list_of (λ b. p (b + 1) (a + 1)) n) count (k - 1) (i - 1) d (omega arith) (omega arith)
    ∙ get_or-list_of (λ b. p (b + 1) (k - 1 + 1)) n (i - 1) d (omega arith)
    ∙ ap₂ p place line

-- ---- a grid that is copied

-- where the point of row r and column c stands in a copy by columns
abbrev pub column_index : GridLayout → ℕ → ℕ → ℕ
column_index g r c = (c - 1) * g.rows + (r - 1)

-- in a copy by rows
abbrev pub row_index : GridLayout → ℕ → ℕ → ℕ
row_index g r c = (r - 1) * g.columns + (c - 1)

-- the points of a file, in the order that an index gives: the layout is a GRID layout that opening the file gives, there is an element for each of its
-- points, and that of a point is what the single read of the point gives
pub record PointsOf (index : GridLayout → ℕ → ℕ → ℕ) (f : List ℕ) (l : Layout) (xs : List ℤ) : Type 0 where
  pub grid : GridLayout
  pub layout : l ≡ Grid grid
  pub opens : open_grid grid.order f grid.number ≡ gives grid
  pub size : length xs ≡ grid.rows * grid.columns
  pub point : (r c : ℕ) → IsPoint grid r c → read_point f l r c ≡ gives (get_or xs (index grid r c) (pos 0))

-- the point whose element is at an index
record PointAt (index : GridLayout → ℕ → ℕ → ℕ) (g : GridLayout) (i : ℕ) : Type 0 where
  row : ℕ
  column : ℕ
  is : IsPoint g row column
  same : i ≡ index g row column

-- a list of the points of a grid, in the order that an index gives
record Listed (index : GridLayout → ℕ → ℕ → ℕ) (list : List ℕ → GridLayout → List ℤ) : Type 0 where
  has : (f : List ℕ) (g : GridLayout) (r c : ℕ) → IsPoint g r c → get_or (list f g) (index g r c) (pos 0) ≡ point_at f g r c
  sized : (f : List ℕ) (g : GridLayout) → length (list f g) ≡ g.rows * g.columns
  all : (g : GridLayout) → GridFits g → (i : ℕ) → i < g.rows * g.columns → PointAt index g i

by_columns_lem : Listed column_index by_columns
unfolding by_columns
by_columns_lem =
    record {
      has =
          λ f g r c is.
          line-element (point_at f g) g.rows g.columns c r (pos 0) is.column_from is.column_to is.row_from is.row_to;
      sized =
          λ f g.
          length-lines_of (λ c. list_of (λ r. point_at f g (r + 1) (c + 1)) g.rows) g.rows
          (λ c. length-list_of (λ r. point_at f g (r + 1) (c + 1)) g.rows) g.columns
          ∙ mul_comm g.columns g.rows;
      all =
          λ g fits i lt.
          let x = element_at g.rows g.columns i fits.rows_from (omega (arith, mul_comm g.columns g.rows)) in
          record {
            row = x.place;
            column = x.line;
            is = record { row_from = x.place-from; row_to = x.place-to; column_from = x.line-from; column_to = x.line-to };
            same = x.same;
          };
    }

by_rows_lem : Listed row_index by_rows
unfolding by_rows
by_rows_lem =
    record {
      has =
          λ f g r c is.
          line-element (λ k i. point_at f g i k) g.columns g.rows r c (pos 0) is.row_from is.row_to is.column_from is.column_to;
      sized =
          λ f g.
          length-lines_of (λ r. list_of (λ c. point_at f g (r + 1) (c + 1)) g.columns) g.columns
          (λ r. length-list_of (λ c. point_at f g (r + 1) (c + 1)) g.columns) g.rows;
      all =
          λ g fits i lt.
          let x = element_at g.columns g.rows i fits.columns_from lt in
          record {
            row = x.line;
            column = x.place;
            is = record { row_from = x.line-from; row_to = x.line-to; column_from = x.place-from; column_to = x.place-to };
            same = x.same;
          };
    }

module _ {index : GridLayout → ℕ → ℕ → ℕ} {list : List ℕ → GridLayout → List ℤ} (x : Listed index list) (f : List ℕ) (l : Layout) where
  -- the list of the points of a grid of the file holds what the single reads give
  listed_points : (g : GridLayout) → l ≡ Grid g → open_grid g.order f g.number ≡ gives g
      → (r c : ℕ) → IsPoint g r c → read_point f l r c ≡ gives (get_or (list f g) (index g r c) (pos 0))
  listed_points g layout opens r c is =
      (point_exactly f l r c (get_or (list f g) (index g r c) (pos 0))).1
      (record { grid = g; layout = layout; opens = opens; is = is; value = x.has f g r c is })

  -- and no other list does
  only_list : (xs : List ℤ) (p : PointsOf index f l xs) → xs ≡ list f p.grid
  only_list xs p =
      let g : GridLayout = p.grid in
      let fits : GridFits g = (grid_of_lem g.order f g.number g p.opens).fits in
      ext_get_or (pos 0) xs (list f g) (p.size ∙ sym (x.sized f g))
      (λ i lt.
      let at : PointAt index g i = x.all g fits i (omega (arith, p.size)) in
      let r : ℕ = at.row in
      let c : ℕ = at.column in
      ap (λ (j : ℕ). get_or xs j (pos 0)) at.same
      ∙ gives-same (sym (p.point r c at.is) ∙ listed_points g p.layout p.opens r c at.is)
      ∙ ap (λ (j : ℕ). get_or (list f g) j (pos 0)) (sym at.same))

  -- so the copy gives it exactly where it holds what the single reads give
  points_exactly : (xs : List ℤ) → (mapped (list f) (grid_of f l) ≡ gives xs) ↔ PointsOf index f l xs
  points_exactly xs = (
    λ e.
        let (g, given, same) = (mapped_made (list f) (grid_of f l) xs).0 e in
        let (layout, opens) = (grid-found f l g).0 given in
        record {
          grid = g;
          layout = layout;
          opens = opens;
          size = ap length same ∙ x.sized f g;
          point =
              λ r c is.
              listed_points g layout opens r c is ∙ ap (λ (ys : List ℤ). gives (get_or ys (index g r c) (pos 0))) (sym same);
        },
    λ p. (mapped_made (list f) (grid_of f l) xs).1 (p.grid, (grid-found f l p.grid).1 (p.layout, p.opens), only_list xs p),
  )

-- A copy by columns gives a list exactly where it has an element for each point, that of row r and column c at (c-1)·rows + (r-1), and each is what the
-- single read of the point gives.
pub columns-point : (f : List ℕ) (l : Layout) (xs : List ℤ) → (mapped (by_columns f) (grid_of f l) ≡ gives xs) ↔ PointsOf column_index f l xs
columns-point f l xs = points_exactly by_columns_lem f l xs

-- a copy by rows, that of row r and column c at (r-1)·columns + (c-1)
pub rows-point : (f : List ℕ) (l : Layout) (xs : List ℤ) → (mapped (by_rows f) (grid_of f l) ≡ gives xs) ↔ PointsOf row_index f l xs
rows-point f l xs = points_exactly by_rows_lem f l xs
