-- When a GRID file opens, and what it is refused with, in document 01's terms: each rule says exactly what its line says, and opening answers the
-- first that fails.
-- Assumes nothing.
use mathlib.Core.Path.{◌≡◌, refl, ap, subst, ◌∙◌}
use mathlib.Core.Logic.{◌⊎◌, inl, inr, ⊎_elim, ◌↔◌}
use mathlib.Core.List.{List, ◌++◌}
use Prim.Native.Nat.{ℕ, ◌+◌, ◌-◌, ◌*◌, ◌≤◌, ◌<◌}
use native.Mathlib.Omega.{arith}
use lib.ListN.{length, get_or}
use Rattle.endian_rules.specs.Words.{word_at}
use Rattle.endian_rules.specs.declared.Order.{Order}
use Rattle.endian_rules.specs.declared.Order.TheVariants.{Big, Little}
use Rattle.endian_rules.proofs.Places.{one_order, order-same}
use Rattle.endian_rules.proofs.Signs.{signed_at_least}
use Rattle.lists.proofs.Rows.{compared}
use Rattle.refusal_rules.specs.Rules.{Rule, first, first_fault, Hold, FirstFailing, Refused, Verdict, Pass, Fault}
use Rattle.refusal_rules.specs.Answers.{Answer, gives, refuses, answered}
use Rattle.refusal_rules.specs.Tests.{Exactly}
use Rattle.refusal_rules.proofs.Answers.{value_exactly, refusal_exactly}
use Rattle.refusal_rules.proofs.Exactness.{eq_exactly, not_exactly, within_exactly, by_numbers}
use Rattle.refusal_rules.proofs.Tables.{pass_hold, hold_pass, joined_faults, joined, hold-append}
use Rattle.grid_rules.specs.Rules.{next_free, empty_slot, grid_end, grid_head_rules, slots_rules, grid_file_rules, wanted_rules}
use Rattle.grid_rules.specs.Accepts.{FullSlot, GridRoom, AcceptsGridSlot, AcceptsGridFile, AcceptsGrid}
use Rattle.grid_rules.specs.Opening.{grid_layout_of, open_wanted, open_grid_words, open_grid, grid_numbers, same_grid}
use Rattle.grid_rules.specs.declared.GridLayout.{GridLayout}
use Rattle.grid_rules.proofs.Slots.{number-slot, head_exactly, accepted_room, slots_exactly}

-- ---- answers and layouts

-- layouts with the same numbers are the same
numbers_settle : (a b : GridLayout) → grid_numbers a ≡ grid_numbers b → a ≡ b
numbers_settle a b e = λ i.
    record {
      order = order-same a.order b.order (ap (λ (l : List ℕ). get_or l 0 0) e) i;
      length = get_or (e i) 1 0;
      number = get_or (e i) 2 0;
      offset = get_or (e i) 3 0;
      rows = get_or (e i) 4 0;
      columns = get_or (e i) 5 0;
    }

-- the comparison of layouts is true exactly where they are the same
pub same_grid_exactly : (a b : GridLayout) → Exactly (same_grid a b) (a ≡ b)
unfolding same_grid
same_grid_exactly = by_numbers grid_numbers numbers_settle

-- ---- opening by the file's verdict

-- the answer after a verdict: the verdict's fault, or the answer
abbrev pub after_verdict : Verdict → Answer GridLayout → Answer GridLayout
after_verdict Pass a = a
after_verdict (Fault r) a = refuses r.number r.place

answered-first : (a b : Verdict) (l : GridLayout) → answered (first a b) l ≡ after_verdict a (answered b l)
unfolding first
answered-first Pass b l = refl
answered-first (Fault r) b l = refl

-- opening is `open_wanted` where the file's verdict is a pass, and refuses the file's fault otherwise
pub open_split : (o : Order) (len : ℕ) (w : ℕ → ℕ) (number : ℕ) (v : Verdict) → first_fault (grid_file_rules len w) ≡ v
    → open_grid_words o len w number ≡ after_verdict v (open_wanted o len w number)
unfolding open_grid_words open_wanted
open_split o len w number v e =
    ap (λ (x : Verdict). answered x (grid_layout_of o len w number)) (joined_faults (grid_file_rules len w) (wanted_rules w number))
    ∙ answered-first (first_fault (grid_file_rules len w)) (first_fault (wanted_rules w number)) (grid_layout_of o len w number)
    ∙ ap (λ (x : Verdict). after_verdict x (open_wanted o len w number)) e

-- ---- what acceptance is

-- what the checks of a whole file say, where those before the slots come to a verdict
pub file-split : (len : ℕ) (w : ℕ → ℕ) (v : Verdict) → first_fault (grid_head_rules len w) ≡ v
    → first_fault (grid_file_rules len w) ≡ first v (first_fault (slots_rules w (w 10) (next_free w) (w 10)))
unfolding grid_file_rules
file-split len w v e = joined (grid_head_rules len w) (slots_rules w (w 10) (next_free w) (w 10)) v e

-- the rules of a whole file hold exactly where it is accepted
pub file_exactly : (len : ℕ) (w : ℕ → ℕ) → Hold (grid_file_rules len w) ↔ AcceptsGridFile len w
unfolding grid_file_rules
file_exactly len w =
    let slots : List Rule = slots_rules w (w 10) (next_free w) (w 10) in
    let both = hold-append (grid_head_rules len w) slots in
    let x = slots_exactly w (w 10) (next_free w) (w 10) in (
      λ h. record { head = (head_exactly len w).0 (both.0 h).0; slots = x.0 (hold_pass slots (both.0 h).1) },
      λ a. both.1 ((head_exactly len w).1 a.head, pass_hold slots (x.1 a.slots)),
    )

-- by their verdict
pub file_passes : (len : ℕ) (w : ℕ → ℕ) → (first_fault (grid_file_rules len w) ≡ Pass) ↔ AcceptsGridFile len w
file_passes len w = (
  λ e. (file_exactly len w).0 (pass_hold (grid_file_rules len w) e),
  λ a. hold_pass (grid_file_rules len w) ((file_exactly len w).1 a),
)

-- the rules of the wanted grid hold exactly where the file has its number, and its slot is not empty
pub wanted_exactly : (w : ℕ → ℕ) (number : ℕ) → Hold (wanted_rules w number) ↔ (((1 ≤ number) × (number ≤ w 10)) × ¬ (w (10 + number) ≡ empty_slot))
unfolding wanted_rules
wanted_exactly w number =
    let range = within_exactly 1 (w 10) number in
    let full = not_exactly (eq_exactly (w (10 + number)) empty_slot) in
    (λ h. (range.sound h.0, full.sound h.1.0), λ h. (range.complete h.0, (full.complete h.1, tt)))

-- a grid opens exactly where the file and the number are accepted, and then with the layout that the words give
pub grid_exactly : (o : Order) (f : List ℕ) (number : ℕ) (l : GridLayout)
    → (open_grid o f number ≡ gives l) ↔ (AcceptsGrid (length f) (word_at o f) number × (l ≡ grid_layout_of o (length f) (word_at o f) number))
unfolding open_grid open_grid_words
grid_exactly o f number l =
    let w : ℕ → ℕ = word_at o f in
    let both = hold-append (grid_file_rules (length f) w) (wanted_rules w number) in
    let x = value_exactly (grid_file_rules (length f) w ++ wanted_rules w number) (grid_layout_of o (length f) w number) l in (
      λ e.
          let h = both.0 (x.0 e).0 in
          let wanted = (wanted_exactly w number).0 h.1 in (
            record {
              file = (file_exactly (length f) w).0 h.0;
              number_from = wanted.0.0;
              number_to = wanted.0.1;
              full = wanted.1;
            },
            (x.0 e).1,
          ),
      λ a.
          let g : AcceptsGrid (length f) w number = a.0 in
          x.1 (
            both.1 (
              (file_exactly (length f) w).1 g.file,
              (wanted_exactly w number).1 ((g.number_from, g.number_to), g.full),
            ),
            a.1,
          ),
    )

-- and is refused exactly where a rule fails, with the number and place of the first
pub grid_refused : (o : Order) (f : List ℕ) (number : ℕ) (r : Refused)
    → (open_grid o f number ≡ refuses r.number r.place) ↔ FirstFailing (grid_file_rules (length f) (word_at o f) ++ wanted_rules (word_at o f) number) r
unfolding open_grid open_grid_words
grid_refused o f number r =
    refusal_exactly (grid_file_rules (length f) (word_at o f) ++ wanted_rules (word_at o f) number) (grid_layout_of o (length f) (word_at o f) number) r

-- ---- what acceptance gives, in whole numbers

-- the grid at an offset of an accepted file of `len` bytes
pub record GridAt (len : ℕ) (w : ℕ → ℕ) (offset : ℕ) : Type 0 where
  pub after-directory : 12 + w 10 ≤ offset
  pub rows : (1 ≤ w (offset + 1)) × (w (offset + 1) ≤ 65535)
  pub columns : (1 ≤ w (offset + 2)) × (w (offset + 2) ≤ 65535)
  pub size : w offset ≡ w (offset + 1) * w (offset + 2)
  pub inside : 4 * grid_end w offset ≤ len
  pub small : grid_end w offset < 2147483648

module _ (len : ℕ) (w : ℕ → ℕ) (a : AcceptsGridFile len w) where
  -- that of a slot
  pub slot-grid : (k : ℕ) → k < w 10 → FullSlot w k → GridAt len w (w (11 + k))
  slot-grid k l full =
      let s : AcceptsGridSlot w (w 10) (next_free w) k = a.slots k l full in
      let r : GridRoom len (w 10) (next_free w) = accepted_room len w a.head in
      record {
        after-directory = ((signed_at_least (12 + w 10) (w (11 + k))).0 s.offset).0;
        rows = s.rows;
        columns = s.columns;
        size = s.size;
        inside = omega (arith, s.end, r.whole);
        small = omega (arith, s.end, r.small);
      }

  -- that of a number
  pub number-grid : (number : ℕ) → 1 ≤ number → number ≤ w 10 → ¬ (w (10 + number) ≡ empty_slot) → GridAt len w (w (10 + number))
  number-grid number from to =
      subst (λ (i : ℕ). ¬ (w i ≡ empty_slot) → GridAt len w (w i)) (number-slot number from)
      (slot-grid (number - 1) (omega arith))

  -- of the grids of two slots, one ends before the other begins
  pub slots-apart : (i j : ℕ) → i < w 10 → j < w 10 → ¬ (i ≡ j) → FullSlot w i → FullSlot w j
      → (grid_end w (w (11 + i)) ≤ w (11 + j)) ⊎ (grid_end w (w (11 + j)) ≤ w (11 + i))
  slots-apart i j li lj other full-i full-j =
      ⊎_elim (λ e. absurd (other e))
      (⊎_elim (λ lt. (a.slots j lj full-j).apart i lt full-i) (λ gt. ⊎_elim inr inl ((a.slots i li full-i).apart j gt full-j)))
      (compared i j)

-- ---- the byte order

-- no file opens in both byte orders, whatever the grids
pub grid_one_order : (f : List ℕ) (g h : ℕ) (l m : GridLayout) → open_grid Big f g ≡ gives l → open_grid Little f h ≡ gives m → ⊥
grid_one_order f g h l m big little =
    let a : AcceptsGrid (length f) (word_at Big f) g = ((grid_exactly Big f g l).0 big).0 in
    let b : AcceptsGrid (length f) (word_at Little f) h = ((grid_exactly Little f h m).0 little).0 in
    let x : (1 ≤ word_at Big f 10) × (word_at Big f 10 ≤ 1024) = a.file.head.grids in
    let y : (1 ≤ word_at Little f 10) × (word_at Little f 10 ≤ 1024) = b.file.head.grids in
    let long : 44 ≤ length f = a.file.head.long in
    one_order f 10 (word_at Big f 10) (word_at Little f 10) (omega arith) refl refl x.0 (omega (arith, x.1)) (omega (arith, y.1))
