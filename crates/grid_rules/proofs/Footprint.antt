-- What opening a GRID file reads: its length, word 10, the words 11 to 11 + n, and the first three header words of each grid. Two files that agree
-- there open alike.
-- Assumes nothing.
use mathlib.Core.Path.{◌≡◌, refl, sym, ap, ap₂, subst, ◌∙◌}
use mathlib.Core.Bool.{Bool, true, false}
use mathlib.Core.List.{List, [], ◌∷◌, ◌++◌}
use Prim.Native.Nat.{ℕ, zero, suc, ◌+◌, ◌-◌, ◌≤◌, ◌<◌}
use native.Mathlib.Omega.{arith}
use lib.Dec.{eqb}
use lib.ListN.{length}
use borrow.Author.Tests.{eqb-true, eqb-false}
use Rattle.endian_rules.specs.Words.{word_at}
use Rattle.endian_rules.specs.declared.Order.{Order}
use Rattle.lists.specs.Choices.{either}
use Rattle.refusal_rules.specs.Rules.{judge, first, first_fault}
use Rattle.refusal_rules.specs.Tests.{within}
use Rattle.refusal_rules.proofs.Exactness.{within_exactly}
use Rattle.grid_rules.specs.Rules.{next_free, empty_slot, is_empty_slot, grid_end, grid_head_rules, meets, shares, header_rules, size_rules, own_rules, overlap_rule, slot_rules, slots_rules, grid_file_rules, wanted_rules}
use Rattle.grid_rules.specs.Accepts.{FullSlot}
use Rattle.grid_rules.specs.Opening.{grid_layout_of, open_wanted, open_grid_words, open_grid}
use Rattle.grid_rules.proofs.Slots.{number-slot, empty_slot_lem, full-slot}
use Rattle.grid_rules.proofs.Acceptance.{after_verdict, open_split}

-- the words v are the words w in what opening reads of the slot whose offset is word i: the offset, and where it has a grid the grid's size, rows
-- and columns
pub record SameAt (w v : ℕ → ℕ) (i : ℕ) : Type 0 where
  pub offset : v i ≡ w i
  pub size : ¬ (w i ≡ empty_slot) → v (w i) ≡ w (w i)
  pub rows : ¬ (w i ≡ empty_slot) → v (w i + 1) ≡ w (w i + 1)
  pub columns : ¬ (w i ≡ empty_slot) → v (w i + 2) ≡ w (w i + 2)

-- in what it reads of slot k
abbrev pub SameSlot : (ℕ → ℕ) → (ℕ → ℕ) → ℕ → Type 0
SameSlot w v k = SameAt w v (11 + k)

-- and in what it reads of the whole file
pub record SameWords (w v : ℕ → ℕ) : Type 0 where
  pub count : v 10 ≡ w 10
  pub next : v (11 + w 10) ≡ w (11 + w 10)
  pub slots : (k : ℕ) → k < w 10 → SameSlot w v k

-- ---- by slot

module _ (w v : ℕ → ℕ) where
  -- whether a slot has a word of a stretch
  pub meets-same : (low high j : ℕ) → SameSlot w v j → meets v low high j ≡ meets w low high j
  unfolding meets
  meets-same low high j s = step (is_empty_slot w j) refl
    where
      step : (t : Bool) → is_empty_slot w j ≡ t → meets v low high j ≡ meets w low high j
      step true e = rw (s.offset, e)
      step false e = rw (s.offset, e, s.size (eqb-false (w (11 + j)) empty_slot e))

  -- whether one of the first k slots has
  pub shares-same : (low high k : ℕ) → ((j : ℕ) → j < k → SameSlot w v j) → shares v low high k ≡ shares w low high k
  unfolding shares
  shares-same low high zero s = refl
  shares-same low high (suc k) s =
      ap₂ either (shares-same low high k (λ j l. s j (omega arith))) (meets-same low high k (s k (omega arith)))

  -- that a grid shares no word with an earlier one
  pub overlap-same : (k : ℕ) → FullSlot w k → SameSlot w v k → ((j : ℕ) → j < k → SameSlot w v j) → overlap_rule v k ≡ overlap_rule w k
  unfolding overlap_rule
  overlap-same k full s before = rw (s.offset, s.size full, shares-same (w (11 + k)) (grid_end w (w (11 + k))) k before)

  module _ (n next : ℕ) where
    -- a grid's own checks
    pub own_same : (k : ℕ) → FullSlot w k → SameSlot w v k → own_rules v n next k ≡ own_rules w n next k
    unfolding own_rules header_rules size_rules
    own_same k full s = rw (s.offset, s.size full, s.rows full, s.columns full)

    -- the checks of a slot
    pub slot-same : (k : ℕ) → SameSlot w v k → ((j : ℕ) → j < k → SameSlot w v j) → slot_rules v n next k ≡ slot_rules w n next k
    slot-same k s before = step (is_empty_slot w k) refl
      where
        step : (t : Bool) → is_empty_slot w k ≡ t → slot_rules v n next k ≡ slot_rules w n next k
        step true e =
            let none : w (11 + k) ≡ empty_slot = eqb-true (w (11 + k)) empty_slot e in
            empty_slot_lem v n next k (s.offset ∙ none) ∙ sym (empty_slot_lem w n next k none)
        step false e =
            let full : FullSlot w k = eqb-false (w (11 + k)) empty_slot e in
            full-slot v n next k (λ q. full (sym s.offset ∙ q))
            ∙ ap₂ (λ rs r. rs ++ r ∷ []) (own_same k full s) (overlap-same k full s before)
            ∙ sym (full-slot w n next k full)

    -- of the first m slots
    pub slots-same : (m : ℕ) → ((k : ℕ) → k < m → SameSlot w v k) → slots_rules v n next m ≡ slots_rules w n next m
    unfolding slots_rules
    slots-same zero s = refl
    slots-same (suc m) s = ap₂ ◌++◌ (slots-same m (λ k l. s k (omega arith))) (slot-same m (s m (omega arith)) (λ j l. s j (omega arith)))

-- ---- of a whole file

-- the grid of a number, of two files of one n that agree in what opening reads of it: a number that the files have not is refused alike, and so is that of an empty
-- slot
pub wanted-same : (w v : ℕ → ℕ) (o : Order) (len number : ℕ) → v 10 ≡ w 10 → (1 ≤ number → number ≤ w 10 → SameAt w v (10 + number))
    → open_wanted o len v number ≡ open_wanted o len w number
unfolding open_wanted wanted_rules grid_layout_of first_fault judge first
wanted-same w v o len number count same = step (within 1 (w 10) number) (eqb (w (10 + number)) empty_slot) refl refl
  where
    same_at : within 1 (w 10) number ≡ true → SameAt w v (10 + number)
    same_at e = let range : (1 ≤ number) × (number ≤ w 10) = (within_exactly 1 (w 10) number).sound e in same range.0 range.1

    step : (t u : Bool) → within 1 (w 10) number ≡ t → eqb (w (10 + number)) empty_slot ≡ u → open_wanted o len v number ≡ open_wanted o len w number
    step false u e q = rw (count, e)
    step true true e q = rw (count, e, (same_at e).offset, q)
    step true false e q =
        let full : ¬ (w (10 + number) ≡ empty_slot) = eqb-false (w (10 + number)) empty_slot q in
        let x : SameAt w v (10 + number) = same_at e in
        rw (count, x.offset, x.rows full, x.columns full)

module _ (w v : ℕ → ℕ) (s : SameWords w v) where
  -- the checks of a whole file
  pub file-same : (len : ℕ) → grid_file_rules len v ≡ grid_file_rules len w
  unfolding grid_file_rules grid_head_rules
  file-same len = rw (s.count, s.next, slots-same w v (w 10) (next_free w) (w 10) s.slots)

  -- what it reads of a grid by its number
  number-same : (number : ℕ) → 1 ≤ number → number ≤ w 10 → SameAt w v (10 + number)
  number-same number from to = subst (SameAt w v) (number-slot number from) (s.slots (number - 1) (omega (arith, from, to)))

  -- opening, whatever the length and the grid
  pub open_same : (o : Order) (len number : ℕ) → open_grid_words o len v number ≡ open_grid_words o len w number
  open_same o len number =
      open_split o len v number (first_fault (grid_file_rules len w)) (ap first_fault (file-same len))
      ∙ ap (after_verdict (first_fault (grid_file_rules len w))) (wanted-same w v o len number s.count (number-same number))
      ∙ sym (open_split o len w number (first_fault (grid_file_rules len w)) refl)

-- two files of one length that agree on what opening reads of the first open alike
pub grid_footprint : (o : Order) (f g : List ℕ) → length g ≡ length f → SameWords (word_at o f) (word_at o g)
    → (number : ℕ) → open_grid o g number ≡ open_grid o f number
unfolding open_grid
grid_footprint o f g e s number = rw e (open_same (word_at o f) (word_at o g) s o (length f) number)
