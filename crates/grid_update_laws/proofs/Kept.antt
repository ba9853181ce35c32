-- A file that keeps a grid of another: every call on the grid answers alike, with every layout of it, stale or not.
-- Assumes nothing.
use mathlib.Core.Path.{◌≡◌, refl, ap}
use mathlib.Core.List.{List}
use Prim.Native.Nat.{ℕ, ◌+◌, ◌*◌, ◌≤◌, ◌<◌}
use native.Mathlib.Omega.{arith}
use lib.IntN.{ℤ}
use lib.ListN.{length, get_or}
use mir.Syntax.{w32}
use mir.Val.{to_z}
use Rattle.lists.specs.Choices.{pick}
use Rattle.lists.specs.Lists.{list_of}
use Rattle.lists.proofs.Built.{list_of-same, lines_of-same}
use Rattle.lists.proofs.Choices.{pick_cases}
use Rattle.lists.proofs.Parts.{part-same}
use Rattle.endian_rules.specs.Numbers.{number_at}
use Rattle.endian_rules.specs.Words.{signed_at, word_at}
use Rattle.endian_rules.specs.declared.Order.{Order}
use Rattle.endian_rules.proofs.Places.{number-same}
use Rattle.refusal_rules.specs.Answers.{Answer, gives, refuses, mapped}
use Rattle.refusal_rules.specs.declared.Place.{Place}
use Rattle.grid_rules.specs.Points.{header_word, point_word, IsPoint}
use Rattle.grid_rules.proofs.Points.{point_among}
use Rattle.grid_rules.specs.Opening.{open_grid}
use Rattle.grid_rules.specs.declared.GridLayout.{GridLayout}
use Rattle.layout_rules.specs.Layouts.{open_as, reopened, Fresh, gives_that, is_fresh}
use Rattle.layout_rules.specs.Found.{as_grid, found, grid_of}
use Rattle.layout_rules.specs.declared.Layout.{Layout}
use Rattle.layout_rules.specs.declared.Layout.TheVariants.{Grid}
use Rattle.layout_rules.proofs.Freshness.{fresh_exactly}
use Rattle.layout_rules.proofs.OneKind.{fresh_grid}
use Rattle.value_rules.specs.Places.{place_of}
use Rattle.value_rules.specs.declared.ValueName.TheVariants.{Point}
use Rattle.value_rules.proofs.Places.{Located, point_at_lem, located}
use Rattle.value_rules.specs.Reading.{read_word, read_point}
use Rattle.copy_rules.specs.Runs.{copied}
use Rattle.span_rules.specs.Spans.{span, handed}
use Rattle.grid_part_rules.specs.Grids.{header_span, point_at, by_columns, by_rows}
use Rattle.grid_update_laws.specs.Kept.{AsBefore}

-- The file g keeps the grid of a number of the file f: it is as long, the number opens alike, and where it opens, every byte of header and data is the same.
pub record Keeps (o : Order) (number : ℕ) (f g : List ℕ) : Type 0 where
  -- the length
  pub long : length g ≡ length f
  -- what opening answers
  pub opens : open_grid o g number ≡ open_grid o f number
  -- the bytes
  pub bytes : (l : GridLayout) → open_grid o f number ≡ gives l
      → (i : ℕ) → 4 * l.offset ≤ i → i < 4 * (l.offset + 64 + l.rows * l.columns) → get_or g i 0 ≡ get_or f i 0

-- ---- answers

-- a property that an answer's refusals have, and the values that it gives, the answer has
answer_cases : {Value : Type 0} (P : Answer Value → Type 0) (x : Answer Value) → ((v : Value) → x ≡ gives v → P (gives v)) → ((n p : ℕ) → P (refuses n p)) → P x
answer_cases P (gives v) value refusal = value v refl
answer_cases P (refuses n p) value refusal = refusal n p

-- what a call finds by a layout has a property that 9 has, and, where the layout is fresh, what its kind says
found_cases : {Value : Type 0} (own : Layout → Answer Value) (f : List ℕ) (l : Layout) (P : Answer Value → Type 0)
    → (Fresh f l → P (own l)) → P (refuses 9 0) → P (found own f l)
unfolding found
found_cases own f l P fresh stale = pick_cases P (is_fresh f l) (own l) (refuses 9 0) (λ e. fresh ((fresh_exactly f l).sound e)) (λ e. stale)

-- what a call on grids finds by the layout of a grid
grid_cases : (f : List ℕ) (l : GridLayout) (P : Answer GridLayout → Type 0)
    → (open_grid l.order f l.number ≡ gives l → P (gives l)) → P (refuses 9 0) → P (grid_of f (Grid l))
grid_cases f l P opens stale = found_cases as_grid f (Grid l) P (λ fresh. opens ((fresh_grid f l).0 fresh)) stale

-- ---- a grid that is kept

module _ (f g : List ℕ) (l : GridLayout) (k : Keeps l.order l.number f g) where
  -- opening again answers alike
  kept_fresh : reopened g (Grid l) ≡ reopened f (Grid l)
  unfolding open_as
  kept_fresh = ap (mapped Grid) k.opens

  -- so every call finds the same
  kept_found : {Value : Type 0} (own : Layout → Answer Value) → found own g (Grid l) ≡ found own f (Grid l)
  unfolding found is_fresh
  kept_found own = ap (λ (x : Answer Layout). pick (gives_that (Grid l) x) (own (Grid l)) (refuses 9 0)) kept_fresh

  -- where the layout is fresh, a word of the grid is the same
  kept_word : open_grid l.order f l.number ≡ gives l → (x : ℕ) → l.offset ≤ x → x < l.offset + 64 + l.rows * l.columns
      → number_at l.order 4 g (4 * x) ≡ number_at l.order 4 f (4 * x)
  kept_word e x from to =
      number-same l.order 4 g f (4 * x) k.long (λ i low high. k.bytes l e i (omega (arith, low, from)) (omega (arith, high, to)))

  -- so is header word i
  pub kept_header_word : open_grid l.order f l.number ≡ gives l → (i : ℕ) → 1 ≤ i → i ≤ 64
      → word_at l.order g (header_word l i) ≡ word_at l.order f (header_word l i)
  unfolding word_at
  kept_header_word e i from to = kept_word e (header_word l i) (omega (arith, from)) (omega (arith, to))

  -- and a point
  kept_at : open_grid l.order f l.number ≡ gives l → (r c : ℕ) → IsPoint l r c → point_at g l r c ≡ point_at f l r c
  kept_at e r c is = ap (to_z w32) (kept_word e (point_word l r c) (omega arith) (omega (arith, point_among l r c is)))

  -- one that is counted from 0
  kept_counted : open_grid l.order f l.number ≡ gives l → (r c : ℕ) → r < l.rows → c < l.columns
      → point_at g l (r + 1) (c + 1) ≡ point_at f l (r + 1) (c + 1)
  kept_counted e r c row column =
      kept_at e (r + 1) (c + 1)
      (record { row_from = omega arith; row_to = omega (arith, row); column_from = omega arith; column_to = omega (arith, column) })

  -- a point that is read
  kept_point : (r c : ℕ) → read_point g (Grid l) r c ≡ read_point f (Grid l) r c
  unfolding read_word
  kept_point r c =
      rw (kept_found (λ m. place_of m (Point r c)))
      (found_cases (λ m. place_of m (Point r c)) f (Grid l) Alike
      (λ fresh.
      answer_cases Alike (place_of (Grid l) (Point r c))
      (λ p given. ap gives (at fresh p (located f (Grid l) (Point r c) p fresh given)))
      (λ n p. refl))
      refl)
    where
      Alike : Answer Place → Type 0
      Alike x = mapped (λ p. signed_at l.order g p.address) x ≡ mapped (λ p. signed_at l.order f p.address) x

      at : Fresh f (Grid l) → (p : Place) → Located f (Grid l) (Point r c) p → signed_at l.order g p.address ≡ signed_at l.order f p.address
      at fresh p (point_at_lem opens is same) = rw same (kept_at opens r c is)

  -- where the header is
  kept_header : header_span g (Grid l) ≡ header_span f (Grid l)
  kept_header = ap (mapped (λ (x : GridLayout). span (4 * header_word x 1) 256)) (kept_found as_grid)

  -- its bytes
  kept_header_bytes : handed g (header_span g (Grid l)) ≡ handed f (header_span f (Grid l))
  kept_header_bytes =
      rw (kept_found as_grid)
      (grid_cases f l
      (λ x. handed g (mapped (λ (y : GridLayout). span (4 * header_word y 1) 256) x) ≡ handed f (mapped (λ (y : GridLayout). span (4 * header_word y 1) 256) x))
      (λ e. part-same (4 * header_word l 1) 256 g f 0 k.long (λ i low high. k.bytes l e i (omega (arith, low)) (omega (arith, high))))
      refl)

  -- a list that is made of the grid, and copied
  kept_copy : (list : List ℕ → GridLayout → List ℤ) → (open_grid l.order f l.number ≡ gives l → list g l ≡ list f l)
      → (out : List ℤ) → copied (mapped (list g) (grid_of g (Grid l))) out ≡ copied (mapped (list f) (grid_of f (Grid l))) out
  kept_copy list same out =
      rw (kept_found as_grid)
      (grid_cases f l (λ x. copied (mapped (list g) x) out ≡ copied (mapped (list f) x) out)
      (λ e. ap (λ (xs : List ℤ). copied (gives xs) out) (same e))
      refl)

  -- the points by columns, and by rows
  kept_by_columns : open_grid l.order f l.number ≡ gives l → by_columns g l ≡ by_columns f l
  unfolding by_columns
  kept_by_columns e =
      lines_of-same (λ c. list_of (λ r. point_at g l (r + 1) (c + 1)) l.rows) (λ c. list_of (λ r. point_at f l (r + 1) (c + 1)) l.rows) l.columns
      (λ c column.
      list_of-same (λ r. point_at g l (r + 1) (c + 1)) (λ r. point_at f l (r + 1) (c + 1)) l.rows (λ r row. kept_counted e r c row column))

  kept_by_rows : open_grid l.order f l.number ≡ gives l → by_rows g l ≡ by_rows f l
  unfolding by_rows
  kept_by_rows e =
      lines_of-same (λ r. list_of (λ c. point_at g l (r + 1) (c + 1)) l.columns) (λ r. list_of (λ c. point_at f l (r + 1) (c + 1)) l.columns) l.rows
      (λ r row.
      list_of-same (λ c. point_at g l (r + 1) (c + 1)) (λ c. point_at f l (r + 1) (c + 1)) l.columns (λ c column. kept_counted e r c row column))

  -- so every call answers as before
  pub kept : AsBefore f g l
  kept =
      record {
        opening = kept_fresh;
        place = λ x. kept_found (λ m. place_of m x);
        point = kept_point;
        header = kept_header;
        header_bytes = kept_header_bytes;
        columns = kept_copy by_columns kept_by_columns;
        rows = kept_copy by_rows kept_by_rows;
      }
