-- What an opened grid is in its file: its layout fits, and its points are words that opening does not read and that no other grid has. This comes
-- from the theorem of acceptance and from the footprint of opening.
-- Assumes nothing.
use mathlib.Core.Path.{◌≡◌, refl, sym, ap, ◌∙◌}
use mathlib.Core.Logic.{◌⊎◌, inl, inr, ⊎_elim}
use mathlib.Core.List.{List}
use Prim.Native.Nat.{ℕ, ◌+◌, ◌-◌, ◌*◌, ◌≤◌, ◌<◌}
use native.Mathlib.Decide.{ℕ_discrete}
use native.Mathlib.Omega.{arith}
use lib.ListN.{length}
use Rattle.endian_rules.specs.Words.{word_at}
use Rattle.endian_rules.specs.declared.Order.{Order}
use Rattle.lists.specs.Lists.{Outside, Apart}
use Rattle.refusal_rules.specs.Answers.{gives}
use Rattle.grid_rules.specs.Rules.{grid_end}
use Rattle.grid_rules.specs.Accepts.{FullSlot, AcceptsGrid}
use Rattle.grid_rules.specs.Opening.{grid_layout_of, open_grid}
use Rattle.grid_rules.specs.declared.GridLayout.{GridLayout}
use Rattle.grid_rules.proofs.Slots.{number-slot}
use Rattle.grid_rules.proofs.Acceptance.{GridAt, grid_exactly, slot-grid, number-grid, slots-apart}
use Rattle.grid_rules.proofs.Footprint.{grid_footprint}
use Rattle.grid_rules.specs.Points.{header_word, point_word, IsPoint, GridOf}
use Rattle.grid_rules.proofs.Points.{point_among}

-- ---- the grid of a number

-- the grid of a number, as the words of an accepted file of `len` bytes have it, and its layout
pub record InFile (len : ℕ) (w : ℕ → ℕ) (number : ℕ) (l : GridLayout) : Type 0 where
  pub accepted : AcceptsGrid len w number
  pub offset : l.offset ≡ w (10 + number)
  pub rows : l.rows ≡ w (l.offset + 1)
  pub columns : l.columns ≡ w (l.offset + 2)
  pub end : grid_end w l.offset ≡ l.offset + 64 + l.rows * l.columns

module _ (o : Order) (f : List ℕ) (number : ℕ) (l : GridLayout) (e : open_grid o f number ≡ gives l) where
  accepted : AcceptsGrid (length f) (word_at o f) number
  accepted = ((grid_exactly o f number l).0 e).0

  grid : GridAt (length f) (word_at o f) (word_at o f (10 + number))
  grid = number-grid (length f) (word_at o f) accepted.file number accepted.number_from accepted.number_to accepted.full

  -- the grid that was opened
  pub in_file : InFile (length f) (word_at o f) number l
  unfolding grid_layout_of
  in_file =
      rw ((grid_exactly o f number l).0 e).1
      (record {
        accepted = accepted;
        offset = refl;
        rows = refl;
        columns = refl;
        end = ap (λ (size : ℕ). word_at o f (10 + number) + 64 + size) grid.size;
      })

  -- what acceptance gives of its layout
  pub grid_of_lem : GridOf o f number l
  unfolding grid_layout_of
  grid_of_lem =
      rw ((grid_exactly o f number l).0 e).1
      (record {
        order = refl;
        size = refl;
        wanted = refl;
        fits =
            record {
              number_from = accepted.number_from;
              number_to = omega (arith, accepted.number_to, accepted.file.head.grids.1);
              offset_from = omega (arith, accepted.number_to, grid.after-directory);
              rows_from = grid.rows.0;
              rows_to = grid.rows.1;
              columns_from = grid.columns.0;
              columns_to = grid.columns.1;
              room = omega (arith, grid.inside, grid.size);
              small = omega (arith, grid.small, grid.size);
            };
      })

  -- header words 1, 2 and 3 hold its size, rows and columns
  pub header-words : (word_at o f (header_word l 1) ≡ l.rows * l.columns)
      × (word_at o f (header_word l 2) ≡ l.rows)
      × (word_at o f (header_word l 3) ≡ l.columns)
  header-words =
      let size : header_word l 1 ≡ l.offset = omega arith in
      let rows : header_word l 2 ≡ l.offset + 1 = omega arith in
      let columns : header_word l 3 ≡ l.offset + 2 = omega arith in (
        ap (word_at o f) size ∙ omega (arith, in_file.end),
        ap (word_at o f) rows ∙ sym in_file.rows,
        ap (word_at o f) columns ∙ sym in_file.columns,
      )

-- ---- its words among those of the file

-- the word x is none of the directory, no header word of any grid, and no word of a grid of another number
pub record Elsewhere (w : ℕ → ℕ) (number x : ℕ) : Type 0 where
  pub directory : 12 + w 10 ≤ x
  pub headers : (k : ℕ) → k < w 10 → FullSlot w k → Outside x (w (11 + k)) 64
  pub others : (k : ℕ) → k < w 10 → FullSlot w k → ¬ (k + 1 ≡ number) → Outside x (w (11 + k)) (64 + w (w (11 + k)))

module _ (len : ℕ) (w : ℕ → ℕ) (number : ℕ) (l : GridLayout) (g : InFile len w number l) where
  -- its slot
  slot_in : number - 1 < w 10
  slot_in = omega (arith, g.accepted.number_from, g.accepted.number_to)

  slot-offset : w (11 + (number - 1)) ≡ l.offset
  slot-offset = ap w (number-slot number g.accepted.number_from) ∙ sym g.offset

  slot-full : FullSlot w (number - 1)
  slot-full e = g.accepted.full (ap w (sym (number-slot number g.accepted.number_from)) ∙ e)

  -- of this grid and one of another slot, one ends before the other begins
  other_apart : (k : ℕ) → k < w 10 → FullSlot w k → ¬ (k + 1 ≡ number) → (grid_end w (w (11 + k)) ≤ l.offset) ⊎ (grid_end w l.offset ≤ w (11 + k))
  other_apart k lt full other =
      let slots : ¬ (k ≡ number - 1) = λ e. other (omega (arith, e, g.accepted.number_from)) in
      rw slot-offset at (slots-apart len w g.accepted.file k (number - 1) lt slot_in slots full slot-full)

  -- a word of its data
  data_elsewhere : (x : ℕ) → l.offset + 64 ≤ x → x < grid_end w l.offset → Elsewhere w number x
  data_elsewhere x from to =
      record {
        directory = omega (arith, from, (slot-grid len w g.accepted.file (number - 1) slot_in slot-full).after-directory, slot-offset);
        headers = λ k lt full. headers k lt full (ℕ_discrete (k + 1) number);
        others = others;
      }
    where
      others : (k : ℕ) → k < w 10 → FullSlot w k → ¬ (k + 1 ≡ number) → Outside x (w (11 + k)) (64 + w (w (11 + k)))
      others k lt full other = ⊎_elim (λ before. inr (omega arith)) (λ after. inl (omega arith)) (other_apart k lt full other)

      headers : (k : ℕ) → k < w 10 → FullSlot w k → Dec (k + 1 ≡ number) → Outside x (w (11 + k)) 64
      headers k lt full (yes e) =
          let same : number - 1 ≡ k = omega arith in
          inr (omega (arith, from, rw same at slot-offset))
      headers k lt full (no other) = ⊎_elim (λ low. inl low) (λ high. inr (omega arith)) (others k lt full other)

-- a point of an opened grid is elsewhere
pub point_elsewhere : (o : Order) (f : List ℕ) (number : ℕ) (l : GridLayout) → open_grid o f number ≡ gives l
    → (r c : ℕ) → IsPoint l r c → Elsewhere (word_at o f) number (point_word l r c)
point_elsewhere o f number l e r c p =
    let g : InFile (length f) (word_at o f) number l = in_file o f number l e in
    data_elsewhere (length f) (word_at o f) number l g (point_word l r c) (omega arith) (omega (arith, g.end, point_among l r c p))

-- two grids of different numbers of one opened file share no word, of the header or of the data
pub grids-apart : (o : Order) (f : List ℕ) (a b : ℕ) (l m : GridLayout) → open_grid o f a ≡ gives l → open_grid o f b ≡ gives m → ¬ (a ≡ b)
    → Apart l.offset (64 + l.rows * l.columns) m.offset (64 + m.rows * m.columns)
grids-apart o f a b l m ea eb other =
    let w : ℕ → ℕ = word_at o f in
    let x : InFile (length f) w a l = in_file o f a l ea in
    let y : InFile (length f) w b m = in_file o f b m eb in
    let slot : w (11 + (a - 1)) ≡ l.offset = slot-offset (length f) w a l x in
    let apart : (grid_end w l.offset ≤ m.offset) ⊎ (grid_end w m.offset ≤ l.offset) =
    rw slot at
    (other_apart (length f) w b m y (a - 1) (slot_in (length f) w a l x) (slot-full (length f) w a l x)
    (λ e. other (omega (arith, e, x.accepted.number_from)))) in
    ⊎_elim (λ before. inl (omega (arith, x.end, before))) (λ after. inr (omega (arith, y.end, after))) apart

-- ---- what a store into a point leaves

-- in a file of the same length, of which every word but that of a point of an opened grid is as it was, every opening answers as before, whatever
-- its number
pub store_frame : (o : Order) (f f' : List ℕ) (number : ℕ) (l : GridLayout) → open_grid o f number ≡ gives l → (r c : ℕ) → IsPoint l r c
    → length f' ≡ length f → ((x : ℕ) → ¬ (x ≡ point_word l r c) → word_at o f' x ≡ word_at o f x)
    → (h : ℕ) → open_grid o f' h ≡ open_grid o f h
store_frame o f f' number l e r c p size same =
    grid_footprint o f f' size
    (record {
      count = same 10 (λ q. omega (arith, q, x.directory));
      next = same (11 + w 10) (λ q. omega (arith, q, x.directory));
      slots =
          λ k lt.
          record {
            offset = same (11 + k) (λ q. omega (arith, q, lt, x.directory));
            size = λ full. same (w (11 + k)) (header k lt full (w (11 + k)) (omega arith) (omega arith));
            rows = λ full. same (w (11 + k) + 1) (header k lt full (w (11 + k) + 1) (omega arith) (omega arith));
            columns = λ full. same (w (11 + k) + 2) (header k lt full (w (11 + k) + 2) (omega arith) (omega arith));
          };
    })
  where
    w : ℕ → ℕ
    w = word_at o f

    x : Elsewhere (word_at o f) number (point_word l r c)
    x = point_elsewhere o f number l e r c p

    header : (k : ℕ) → k < word_at o f 10 → FullSlot (word_at o f) k
        → (i : ℕ) → word_at o f (11 + k) ≤ i → i < word_at o f (11 + k) + 64 → ¬ (i ≡ point_word l r c)
    header k lt full i from to q = ⊎_elim (λ low. omega arith) (λ high. omega arith) (x.headers k lt full)
