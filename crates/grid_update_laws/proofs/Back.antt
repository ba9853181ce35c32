-- A grid that is added opens, and reads back as it was lent: its points, its header, and the whole grid by columns and by rows.
-- Assumes nothing.
use mathlib.Core.Path.{◌≡◌, refl, sym, ap, ap₂, ◌∙◌}
use mathlib.Core.Logic.{inr}
use mathlib.Core.List.{List, [], ◌∷◌, ◌++◌, map}
use Prim.Native.Nat.{ℕ, ◌+◌, ◌-◌, ◌*◌, ◌≤◌, ◌<◌}
use native.Mathlib.Omega.{arith}
use lib.IntN.{ℤ, pos}
use lib.ListN.{length, get_or, drop, length-append, length-drop, get_or-append}
use lib.Seq.{sets, ext_get_or}
use mir.Syntax.{w32}
use mir.Val.{SFits, of_z}
use Rattle.lists.specs.Lists.{part, list_of, lines_of}
use Rattle.lists.proofs.Built.{list_of-same, lines_of-same}
use Rattle.lists.proofs.Parts.{length-part, get_or-part}
use Rattle.lists.proofs.Stores.{sets-inside}
use Rattle.endian_rules.specs.Words.{word_at}
use Rattle.endian_rules.specs.Files.{bytes_of}
use Rattle.endian_rules.specs.declared.Order.{Order}
use Rattle.refusal_rules.specs.Rules.{first_fault, Pass}
use Rattle.refusal_rules.specs.Answers.{Answer, gives, mapped}
use Rattle.grid_rules.specs.Points.{header_word, IsPoint}
use Rattle.grid_rules.proofs.Points.{point_among}
use Rattle.grid_rules.specs.Opening.{open_grid}
use Rattle.grid_rules.specs.declared.GridLayout.{GridLayout}
use Rattle.layout_rules.specs.Found.{grid_of}
use Rattle.layout_rules.specs.declared.Layout.TheVariants.{Grid}
use Rattle.layout_rules.proofs.OneKind.{grid-found}
use Rattle.value_rules.specs.Reading.{read_point}
use Rattle.value_rules.proofs.Reading.{point_exactly}
use Rattle.copy_rules.specs.Runs.{copied}
use Rattle.span_rules.specs.Spans.{span, handed}
use Rattle.grid_part_rules.specs.Grids.{point_at, by_columns, by_rows}
use Rattle.copy_laws.proofs.Grids.{columns-point}
use Rattle.grid_update_rules.specs.Updates.{grid_words, add_rules, grid_bytes, grid_put, with_grid}
use Rattle.grid_update_rules.proofs.Words.{set_byte}
use Rattle.grid_update_rules.proofs.Highest.{next_byte, next_count}
use Rattle.grid_update_rules.proofs.GridBytes.{length-bytes_of, grid-length}
use Rattle.grid_update_rules.proofs.Addition.{AddPasses, new_slot, new_address, grid_in, add_passes, add_place, add_slot, added-length, added_count, added_opens, added_reads}
use Rattle.grid_update_laws.specs.Kept.{ReadsBack}

module _ (o : Order) (f header : List ℕ) (rows columns : ℕ) (values : List ℤ) (size : ℕ)
    (pass : first_fault (add_rules o f (length header) rows columns (length values) size) ≡ Pass)
    (fit : (i : ℕ) → i < length values → SFits w32 (get_or values i (pos 0))) where
  -- the changed file, and the layout of the new grid
  abbrev after : List ℕ
  after = with_grid o f header rows columns values

  abbrev new : GridLayout
  new =
      record {
        order = o;
        length = length f;
        number = new_slot o f header rows columns values + 1;
        offset = new_address o f header rows columns values;
        rows = rows;
        columns = columns;
      }

  passes : AddPasses o f (length header) rows columns (length values) size
  passes = (add_passes o f (length header) rows columns (length values) size).0 pass

  -- opening gives the layout
  opens : open_grid o after new.number ≡ gives new
  opens = added_opens o f header rows columns values size pass

  -- so every call on grids finds it
  new_found : grid_of after (Grid new) ≡ gives new
  new_found = (grid-found after (Grid new) new).1 (refl, opens)

  -- a point is the value of its place
  new_point : (r c : ℕ) → IsPoint new r c → point_at after new r c ≡ get_or values ((c - 1) * rows + (r - 1)) (pos 0)
  new_point r c is =
      added_reads o f header rows columns values size pass r c is.row_from is.row_to is.column_from is.column_to
      (fit ((c - 1) * rows + (r - 1)) (omega (arith, point_among new r c is, passes.asked.all_values)))

  -- and is read
  new_read : (r c : ℕ) → IsPoint new r c → read_point after (Grid new) r c ≡ gives (get_or values ((c - 1) * rows + (r - 1)) (pos 0))
  new_read r c is =
      (point_exactly after (Grid new) r c (get_or values ((c - 1) * rows + (r - 1)) (pos 0))).1
      (record { grid = new; layout = refl; opens = opens; is = is; value = sym (new_point r c is) })

  -- the bytes from the address on are those of the grid
  new_byte : (i : ℕ) → i < 4 * grid_words rows columns → get_or after (4 * new.offset + i) 0 ≡ get_or (grid_bytes o header rows columns values) i 0
  unfolding with_grid grid_put
  new_byte i l =
      let a : ℕ = new_address o f header rows columns values in
      let s : ℕ = new_slot o f header rows columns values in
      let g : List ℕ = grid_in o f header rows columns values in
      let place = add_place o f header rows columns values size pass in
      let count : word_at o g 10 ≡ word_at o f 10 = sym (next_count o g) ∙ added_count o f header rows columns values size pass in
      let sized : length (grid_bytes o header rows columns values) ≡ 4 * grid_words rows columns =
      grid-length o header rows columns values passes.asked.whole-header passes.asked.all_values in
      next_byte o g (4 * a + i) (inr (omega (arith, count, place.from)))
      ∙ set_byte o (sets f (4 * a) (grid_bytes o header rows columns values)) (11 + s) a (4 * a + i)
      (inr (omega (arith, (add_slot o f header rows columns values size pass).0, place.from)))
      ∙ sets-inside (grid_bytes o header rows columns values) f (4 * a) i 0 (omega (arith, sized, place.inside)) (omega (arith, sized, l))

  -- so the first 256 are those of the header
  new_header : part (4 * header_word new 1) 256 after ≡ bytes_of o (rows * columns ∷ rows ∷ columns ∷ []) ++ drop 12 header
  unfolding grid_bytes
  new_header =
      let front : List ℕ = bytes_of o (rows * columns ∷ rows ∷ columns ∷ []) in
      let bytes : List ℕ = front ++ drop 12 header in
      let at : 4 * header_word new 1 ≡ 4 * new.offset = omega arith in
      let whole : length bytes ≡ 256 =
      length-append front (drop 12 header)
      ∙ omega (arith, passes.asked.whole-header, length-bytes_of o (rows * columns ∷ rows ∷ columns ∷ []), length-drop 12 header) in
      let inside : 4 * new.offset + 256 ≤ length after =
      omega (arith, (add_place o f header rows columns values size pass).inside, added-length o f header rows columns values size pass) in
      let long : length (part (4 * new.offset) 256 after) ≡ 256 = length-part (4 * new.offset) 256 after inside in
      ap (λ (x : ℕ). part x 256 after) at
      ∙ ext_get_or 0 (part (4 * new.offset) 256 after) bytes (long ∙ sym whole)
      (λ i lt.
      get_or-part (4 * new.offset) 256 after i 0 (omega (arith, lt, long))
      ∙ new_byte i (omega (arith, lt, long))
      ∙ get_or-append bytes (bytes_of o (map (of_z w32) values)) 0 i (omega (arith, lt, long, whole)))

  -- the points by rows
  new_by_rows : by_rows after new ≡ lines_of (λ r. list_of (λ c. get_or values (c * rows + r) (pos 0)) columns) rows
  unfolding by_rows
  new_by_rows =
      lines_of-same (λ r. list_of (λ c. point_at after new (r + 1) (c + 1)) columns) (λ r. list_of (λ c. get_or values (c * rows + r) (pos 0)) columns) rows
      (λ r row.
      list_of-same (λ c. point_at after new (r + 1) (c + 1)) (λ c. get_or values (c * rows + r) (pos 0)) columns
      (λ c column.
      let up : c + 1 - 1 ≡ c = omega arith in
      let down : r + 1 - 1 ≡ r = omega arith in
      new_point (r + 1) (c + 1)
      (record { row_from = omega arith; row_to = omega (arith, row); column_from = omega arith; column_to = omega (arith, column) })
      ∙ ap₂ (λ (y x : ℕ). get_or values (y * rows + x) (pos 0)) up down))

  -- the points by columns are the values
  new_by_columns : mapped (by_columns after) (grid_of after (Grid new)) ≡ gives values
  new_by_columns =
      (columns-point after (Grid new) values).1
      (record { grid = new; layout = refl; opens = opens; size = passes.asked.all_values; point = new_read })

  -- the new grid reads back as it was lent
  pub added-back : ReadsBack header values after new
  added-back =
      record {
        opening = opens;
        point = new_read;
        header_bytes = ap (λ (x : Answer GridLayout). handed after (mapped (λ (y : GridLayout). span (4 * header_word y 1) 256) x)) new_found ∙ new_header;
        columns = λ out. ap (λ (x : Answer (List ℤ)). copied x out) new_by_columns;
        rows =
            λ out.
            ap (λ (x : Answer GridLayout). copied (mapped (by_rows after) x) out) new_found
            ∙ ap (λ (xs : List ℤ). copied (gives xs) out) new_by_rows;
      }
