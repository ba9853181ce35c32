-- Deleting a grid keeps every other one, and so does adding one; and the layouts of the deleted grid are stale.
-- Assumes nothing.
use mathlib.Core.Path.{◌≡◌, sym, ap, ap₂, ◌∙◌}
use mathlib.Core.Logic.{inl, inr, ⊎_elim}
use mathlib.Core.List.{List}
use Prim.Native.Nat.{ℕ, ◌+◌, ◌-◌, ◌*◌, ◌≤◌, ◌<◌}
use native.Mathlib.Omega.{arith}
use lib.IntN.{ℤ}
use lib.ListN.{length}
use Rattle.endian_rules.specs.Words.{word_at}
use Rattle.endian_rules.specs.declared.Order.{Order}
use Rattle.refusal_rules.specs.Rules.{first_fault, Pass}
use Rattle.refusal_rules.specs.Answers.{Answer, gives, refuses, mapped}
use Rattle.refusal_rules.proofs.Answers.{gives-refuses}
use Rattle.grid_rules.proofs.Facts.{InFile, in_file}
use Rattle.grid_rules.specs.Rules.{grid_end}
use Rattle.grid_rules.specs.Accepts.{FullSlot}
use Rattle.grid_rules.specs.Opening.{open_grid}
use Rattle.grid_rules.specs.declared.GridLayout.{GridLayout}
use Rattle.grid_rules.proofs.Slots.{number-slot}
use Rattle.grid_rules.proofs.Acceptance.{slot-grid}
use Rattle.layout_rules.specs.Layouts.{Fresh}
use Rattle.layout_rules.specs.Found.{grid_of}
use Rattle.layout_rules.specs.declared.Layout.TheVariants.{Grid}
use Rattle.layout_rules.proofs.OneKind.{fresh_grid, grid-stale}
use Rattle.value_rules.specs.declared.ValueName.TheVariants.{Point}
use Rattle.value_rules.proofs.Reading.{place-stale, word_stale}
use Rattle.copy_rules.specs.Runs.{copied}
use Rattle.span_rules.specs.Spans.{handed}
use Rattle.grid_part_rules.specs.Grids.{by_columns, by_rows}
use Rattle.grid_part_rules.proofs.Grids.{header-stale}
use Rattle.grid_update_rules.specs.Updates.{delete_rules, without_grid, lowest_empty, add_rules, with_grid}
use Rattle.grid_update_rules.proofs.Deleted.{delete_passes, deleted_length, deleted_accepted, deleted_bytes, deleted_others, deleted_gone}
use Rattle.grid_update_rules.proofs.Addition.{add_passes, add_place, add_slot, added-length, added_accepted, added_bytes, added-others}
use Rattle.grid_update_laws.specs.Kept.{IsOf, IsRefused}
use Rattle.grid_update_laws.proofs.Kept.{Keeps}
use Rattle.grid_update_laws.proofs.Orders.{keeps_others}

-- ---- the slot of a grid that opens

-- the slot of a number of an accepted file, counted from 0: it has a grid, whose bounds are those of the layout, after the directory
record SlotOf (o : Order) (f : List ℕ) (l : GridLayout) (k : ℕ) : Type 0 where
  inside : k < word_at o f 10
  full : FullSlot (word_at o f) k
  offset : word_at o f (11 + k) ≡ l.offset
  end : grid_end (word_at o f) (word_at o f (11 + k)) ≡ l.offset + 64 + l.rows * l.columns
  after-directory : 12 + word_at o f 10 ≤ l.offset

slot_of_lem : (o : Order) (f : List ℕ) (number : ℕ) (l : GridLayout) → open_grid o f number ≡ gives l → SlotOf o f l (number - 1)
slot_of_lem o f number l e =
    let w : ℕ → ℕ = word_at o f in
    let x : InFile (length f) w number l = in_file o f number l e in
    let inside : number - 1 < w 10 = omega (arith, x.accepted.number_from, x.accepted.number_to) in
    let slot : 11 + (number - 1) ≡ 10 + number = number-slot number x.accepted.number_from in
    let offset : w (11 + (number - 1)) ≡ l.offset = ap w slot ∙ sym x.offset in
    let full : FullSlot w (number - 1) = λ q. x.accepted.full (ap w (sym slot) ∙ q) in
    record {
      inside = inside;
      full = full;
      offset = offset;
      end = ap (grid_end w) offset ∙ x.end;
      after-directory = omega (arith, (slot-grid (length f) w x.accepted.file (number - 1) inside full).after-directory, offset);
    }

-- ---- deleting

module _ (o : Order) (f : List ℕ) (number size : ℕ) (pass : first_fault (delete_rules o f number size) ≡ Pass) where
  -- a deleted grid leaves every other one
  pub deleted_keeps : (l : GridLayout) → ¬ IsOf o number l → Keeps l.order l.number f (without_grid o f number)
  deleted_keeps =
      let d = (delete_passes o f number size).0 pass in
      keeps_others o f (without_grid o f number) number (deleted_length o f number) d.accepted (deleted_accepted o f number size pass)
      (λ m other.
      record {
        long = deleted_length o f number;
        opens = deleted_others o f number size pass m other;
        bytes =
            λ l e i low high.
            let s : SlotOf o f l (m - 1) = slot_of_lem o f m l e in
            deleted_bytes o f number size pass i (inr (omega (arith, low, s.after-directory, d.to))) (inr (omega (arith, low, s.after-directory)));
      })

  -- and no layout of it is fresh
  pub deleted_stale : (l : GridLayout) → IsOf o number l → ¬ Fresh (without_grid o f number) (Grid l)
  deleted_stale l of fresh =
      let g : List ℕ = without_grid o f number in
      let same : open_grid l.order g l.number ≡ open_grid o g number = ap₂ (λ (p : Order) (m : ℕ). open_grid p g m) of.0 of.1 in
      gives-refuses (sym ((fresh_grid g l).0 fresh) ∙ same ∙ deleted_gone o f number size pass)

-- every call refuses a layout that is not fresh
pub stale_refused : (g : List ℕ) (l : GridLayout) → ¬ Fresh g (Grid l) → IsRefused g l
stale_refused g l stale =
    record {
      place = λ x. (place-stale g (Grid l) x).1 stale;
      point = λ r c. (word_stale g (Grid l) (Point r c)).1 stale;
      header = (header-stale g (Grid l)).1 stale;
      header_bytes = ap (handed g) ((header-stale g (Grid l)).1 stale);
      columns = copy by_columns;
      rows = copy by_rows;
    }
  where
    copy : (list : List ℕ → GridLayout → List ℤ) (out : List ℤ) → copied (mapped (list g) (grid_of g (Grid l))) out ≡ (refuses 9 0, out)
    copy list out = ap (λ (x : Answer GridLayout). copied (mapped (list g) x) out) ((grid-stale g (Grid l)).1 stale)

-- ---- adding

-- an added grid leaves every other one
pub added_keeps : (o : Order) (f header : List ℕ) (rows columns : ℕ) (values : List ℤ) (size : ℕ)
    → first_fault (add_rules o f (length header) rows columns (length values) size) ≡ Pass
    → (l : GridLayout) → ¬ IsOf o (lowest_empty (word_at o f) + 1) l → Keeps l.order l.number f (with_grid o f header rows columns values)
added_keeps o f header rows columns values size pass =
    let place = add_place o f header rows columns values size pass in
    let slot = add_slot o f header rows columns values size pass in
    let long : length (with_grid o f header rows columns values) ≡ length f = added-length o f header rows columns values size pass in
    keeps_others o f (with_grid o f header rows columns values) (lowest_empty (word_at o f) + 1) long
    ((add_passes o f (length header) rows columns (length values) size).0 pass).asked.accepted
    (added_accepted o f header rows columns values size pass)
    (λ m other.
    record {
      long = long;
      opens = added-others o f header rows columns values size pass m other;
      bytes =
          λ l e i low high.
          let s : SlotOf o f l (m - 1) = slot_of_lem o f m l e in
          added_bytes o f header rows columns values size pass i
          (inr (omega (arith, low, s.after-directory)))
          (inr (omega (arith, low, s.after-directory, slot.0)))
          (⊎_elim (λ before. inl (omega (arith, before, high, s.end))) (λ after. inr (omega (arith, after, low, s.offset)))
          (place.apart (m - 1) s.inside s.full));
    })
