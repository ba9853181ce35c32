-- What deleting a grid leaves: the changed file is accepted, its next free word is the end of the highest grid or 12+n, the deleted grid is gone, every other
-- grid opens as before and keeps every word, and no byte changes but those of the slot and of the next free word.
-- Assumes nothing.
use mathlib.Core.Path.{◌≡◌, sym, ap, ◌∙◌}
use mathlib.Core.Bool.{true}
use mathlib.Core.Logic.{◌↔◌}
use mathlib.Core.List.{List}
use Prim.Native.Nat.{ℕ, ◌+◌, ◌*◌, ◌^◌, ◌≤◌, ◌<◌}
use native.Mathlib.Omega.{arith}
use lib.ListN.{length, get_or}
use borrow.Author.Tests.{eq-eqb}
use Rattle.lists.specs.Lists.{Outside}
use Rattle.endian_rules.specs.Words.{word_at}
use Rattle.endian_rules.specs.declared.Order.{Order}
use Rattle.refusal_rules.specs.Rules.{Rule, judge, first, first_fault, Pass}
use Rattle.refusal_rules.specs.Answers.{refuses}
use Rattle.refusal_rules.specs.Tests.{within}
use Rattle.refusal_rules.proofs.Exactness.{le_exactly, within_exactly}
use Rattle.refusal_rules.proofs.Tables.{pass_hold, hold_pass, pass_joined, joined_pass}
use Rattle.grid_rules.specs.Rules.{empty_slot, grid_end, grid_file_rules, wanted_rules}
use Rattle.grid_rules.specs.Accepts.{FullSlot}
use Rattle.grid_rules.specs.Opening.{open_wanted, open_grid}
use Rattle.grid_rules.proofs.Acceptance.{GridAt, number-grid, file_passes, open_split, wanted_exactly}
use Rattle.extent_rules.specs.Stretches.{highest_end, first_word}
use Rattle.extent_rules.specs.Steps.{GridAccepted, SlotsInside}
use Rattle.grid_update_rules.specs.Updates.{set_word, next_free_set, delete_own, delete_rules, without_grid}
use Rattle.grid_update_rules.proofs.Words.{set-length, set_here, set_other, set_byte}
use Rattle.grid_update_rules.proofs.Highest.{HighestIs, Laid, Fewer, laid_slots, laid_highest, laid_fewer, next-length, next_other, next_byte, next_word, next_highest, laid_accepted, accepted_laid, open_alike}

-- ---- when a grid is deleted

-- the file is accepted, the table has room for n + 1 pairs, and the number is that of a slot with a grid
pub record Deletes (o : Order) (f : List ℕ) (number size : ℕ) : Type 0 where
  pub accepted : GridAccepted o f
  pub table : word_at o f 10 + 1 ≤ size
  pub from : 1 ≤ number
  pub to : number ≤ word_at o f 10
  pub full : ¬ (word_at o f (10 + number) ≡ empty_slot)

-- the rules of deleting pass exactly there
pub delete_passes : (o : Order) (f : List ℕ) (number size : ℕ) → (first_fault (delete_rules o f number size) ≡ Pass) ↔ Deletes o f number size
unfolding delete_rules
delete_passes o f number size =
    let w : ℕ → ℕ = word_at o f in
    let file : List Rule = grid_file_rules (length f) w in
    let rest : List Rule = delete_own w number size in
    let table = le_exactly (w 10 + 1) size in
    let wanted = wanted_exactly w number in (
      λ e.
          let p = joined_pass file rest e in
          let h = pass_hold rest p.1 in
          let x = wanted.0 h.1 in
          record { accepted = p.0; table = table.sound h.0; from = x.0.0; to = x.0.1; full = x.1 },
      λ d.
          sym (pass_joined file rest d.accepted)
          ∙ hold_pass rest (table.complete d.table, wanted.1 ((d.from, d.to), d.full)),
    )

-- a file is as long as it was once a word is set, and then the next free word
set-next-length : (o : Order) (f : List ℕ) (k n : ℕ) → length (next_free_set o (set_word o f k n)) ≡ length f
set-next-length o f k n = next-length o (set_word o f k n) ∙ set-length o f k n

-- the changed file is as long as it was
pub deleted_length : (o : Order) (f : List ℕ) (number : ℕ) → length (without_grid o f number) ≡ length f
unfolding without_grid
deleted_length o f number = set-next-length o f _ _

module _ (o : Order) (f : List ℕ) (number size : ℕ) (pass : first_fault (delete_rules o f number size) ≡ Pass) where
  d : Deletes o f number size
  d = (delete_passes o f number size).0 pass

  laid : Laid (length f) (word_at o f)
  laid = accepted_laid o f d.accepted

  -- ---- the file with the slot set to -1

  -- its slot is empty
  slot_empty : word_at o (set_word o f (10 + number) empty_slot) (10 + number) ≡ empty_slot
  slot_empty = set_here o f (10 + number) empty_slot (omega (arith, laid.room, d.to)) (omega arith)

  slot_other : (j : ℕ) → ¬ (j ≡ 10 + number) → word_at o (set_word o f (10 + number) empty_slot) j ≡ word_at o f j
  slot_other = set_other o f (10 + number) empty_slot

  slot_count : word_at o (set_word o f (10 + number) empty_slot) 10 ≡ word_at o f 10
  slot_count = slot_other 10 (λ e. omega (arith, e, d.from))

  slot-full : (k : ℕ) → FullSlot (word_at o (set_word o f (10 + number) empty_slot)) k → ¬ (11 + k ≡ 10 + number)
  slot-full k full e = full (ap (word_at o (set_word o f (10 + number) empty_slot)) e ∙ slot_empty)

  slot_fewer : Fewer (word_at o f) (word_at o (set_word o f (10 + number) empty_slot))
  slot_fewer =
      record {
        count = slot_count;
        full = λ k l full e. full (slot_other (11 + k) (slot-full k full) ∙ e);
        same =
            λ k l full.
            record {
              offset = slot_other (11 + k) (slot-full k full);
              size = λ fw. slot_other (word_at o f (11 + k)) (λ e. omega (arith, e, d.to, (laid.grid k l fw).after-directory));
              rows = λ fw. slot_other (word_at o f (11 + k) + 1) (λ e. omega (arith, e, d.to, (laid.grid k l fw).after-directory));
              columns = λ fw. slot_other (word_at o f (11 + k) + 2) (λ e. omega (arith, e, d.to, (laid.grid k l fw).after-directory));
            };
      }

  -- but for its next free word it is as acceptance asks
  pub slot_laid : Laid (length (set_word o f (10 + number) empty_slot)) (word_at o (set_word o f (10 + number) empty_slot))
  slot_laid =
      rw (set-length o f (10 + number) empty_slot)
      (laid_fewer (length f) (word_at o f) (word_at o (set_word o f (10 + number) empty_slot)) slot_fewer laid)

  -- so its slots can be read
  pub deleted_slots : SlotsInside (length (set_word o f (10 + number) empty_slot)) (word_at o (set_word o f (10 + number) empty_slot))
  deleted_slots = laid_slots (length (set_word o f (10 + number) empty_slot)) (word_at o (set_word o f (10 + number) empty_slot)) slot_laid

  -- and its highest grid ends below 2 ^ 31
  pub deleted-small :
      let w : ℕ → ℕ = word_at o (set_word o f (10 + number) empty_slot) in highest_end w (first_word w) (w 10) < 2 ^ 31
  deleted-small = (laid_highest (length (set_word o f (10 + number) empty_slot)) (word_at o (set_word o f (10 + number) empty_slot)) slot_laid).1

  -- ---- the changed file

  -- it is accepted
  pub deleted_accepted : GridAccepted o (without_grid o f number)
  unfolding without_grid
  deleted_accepted = laid_accepted o (set_word o f (10 + number) empty_slot) slot_laid

  -- every word but the slot and the next free word is as it was
  pub deleted_words : (j : ℕ) → ¬ (j ≡ 10 + number) → ¬ (j ≡ 11 + word_at o f 10) → word_at o (without_grid o f number) j ≡ word_at o f j
  unfolding without_grid
  deleted_words j slot next = next_other o (set_word o f (10 + number) empty_slot) j (λ e. next (omega (arith, e, slot_count))) ∙ slot_other j slot

  -- and so is every byte outside the two
  pub deleted_bytes : (i : ℕ) → Outside i (4 * (10 + number)) 4 → Outside i (4 * (11 + word_at o f 10)) 4
      → get_or (without_grid o f number) i 0 ≡ get_or f i 0
  unfolding without_grid
  deleted_bytes i slot next =
      next_byte o (set_word o f (10 + number) empty_slot) i (rw slot_count next) ∙ set_byte o f (10 + number) empty_slot i slot

  -- n is as it was
  pub deleted_count : word_at o (without_grid o f number) 10 ≡ word_at o f 10
  deleted_count = deleted_words 10 (λ e. omega (arith, e, d.from)) (λ e. omega (arith, e))

  -- the slot is empty: "deleting sets the slot to -1"
  pub deleted_slot : word_at o (without_grid o f number) (10 + number) ≡ empty_slot
  unfolding without_grid
  deleted_slot = next_other o (set_word o f (10 + number) empty_slot) (10 + number) (λ e. omega (arith, e, slot_count, d.to)) ∙ slot_empty

  -- the next free word is the end of the highest grid of the changed file
  pub deleted_highest : word_at o (without_grid o f number) (11 + word_at o f 10)
      ≡ highest_end (word_at o (without_grid o f number)) (12 + word_at o f 10) (word_at o f 10)
  unfolding without_grid
  deleted_highest = rw deleted_count at (next_word o (set_word o f (10 + number) empty_slot) slot_laid)

  -- which is to say, "the end of the highest grid, or 12+n if there is none"
  pub deleted_next : HighestIs (word_at o (without_grid o f number)) (12 + word_at o f 10) (word_at o f 10) (word_at o (without_grid o f number) (11 + word_at o f 10))
  unfolding without_grid
  deleted_next = rw deleted_count at (next_highest o (set_word o f (10 + number) empty_slot) slot_laid)

  -- ---- the grids

  -- from 12 + n on every word is as it was
  pub deleted_behind : (p : ℕ) → 12 + word_at o f 10 ≤ p → word_at o (without_grid o f number) p ≡ word_at o f p
  deleted_behind p from = deleted_words p (λ e. omega (arith, e, from, d.to)) (λ e. omega (arith, e, from))

  -- the grid of a number
  other_grid : (m : ℕ) → 1 ≤ m → m ≤ word_at o f 10 → ¬ (word_at o f (10 + m) ≡ empty_slot) → GridAt (length f) (word_at o f) (word_at o f (10 + m))
  other_grid = number-grid (length f) (word_at o f) ((file_passes (length f) (word_at o f)).0 d.accepted)

  -- so every grid keeps every word, header and data
  pub deleted_kept : (m : ℕ) → 1 ≤ m → m ≤ word_at o f 10 → ¬ (word_at o f (10 + m) ≡ empty_slot)
      → (p : ℕ) → word_at o f (10 + m) ≤ p → p < grid_end (word_at o f) (word_at o f (10 + m)) → word_at o (without_grid o f number) p ≡ word_at o f p
  deleted_kept m from to full p low high = deleted_behind p (omega (arith, low, (other_grid m from to full).after-directory))

  -- every other number opens as before
  pub deleted_others : (m : ℕ) → ¬ (m ≡ number) → open_grid o (without_grid o f number) m ≡ open_grid o f m
  deleted_others m other =
      open_alike o f (without_grid o f number) (deleted_length o f number) d.accepted deleted_accepted deleted_count m
      (λ from to.
      record {
        offset = deleted_words (10 + m) (λ e. other (omega (arith, e))) (λ e. omega (arith, e, to));
        size = λ full. deleted_behind (word_at o f (10 + m)) (other_grid m from to full).after-directory;
        rows = λ full. deleted_behind (word_at o f (10 + m) + 1) (omega (arith, (other_grid m from to full).after-directory));
        columns = λ full. deleted_behind (word_at o f (10 + m) + 2) (omega (arith, (other_grid m from to full).after-directory));
      })

  -- the deleted one is not there
  pub deleted_gone : open_grid o (without_grid o f number) number ≡ refuses 6 0
  unfolding open_grid open_wanted wanted_rules first_fault judge first
  deleted_gone =
      let g : List ℕ = without_grid o f number in
      let range : within 1 (word_at o g 10) number ≡ true =
      (within_exactly 1 (word_at o g 10) number).complete (d.from, omega (arith, d.to, deleted_count)) in
      open_split o (length g) (word_at o g) number Pass deleted_accepted
      ∙ rw (range, eq-eqb (word_at o g (10 + number)) empty_slot deleted_slot)
