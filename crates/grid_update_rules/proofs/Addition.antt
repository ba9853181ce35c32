-- What adding a grid asks and what it leaves: where the grid goes, that the file is accepted again, that every other grid is as it was, and that the new grid
-- reads back as it was given.
-- Assumes nothing.
use mathlib.Core.Path.{◌≡◌, refl, sym, ap, subst, ◌∙◌}
use mathlib.Core.Bool.{true, false, not, false≢true}
use mathlib.Core.Logic.{◌⊎◌, inl, inr, ⊎_elim, ◌↔◌}
use mathlib.Core.List.{List, ◌++◌}
use Prim.Native.Nat.{ℕ, zero, suc, ◌+◌, ◌-◌, ◌*◌, ◌/◌, ◌≤◌, ◌<◌}
use native.Mathlib.Nat.{mul_comm}
use native.Mathlib.Decide.{ℕ_discrete}
use native.Mathlib.Omega.{arith}
use lib.IntN.{ℤ, pos}
use lib.ListN.{length, get_or}
use lib.Seq.{sets, length-sets}
use mir.Syntax.{w32}
use mir.Val.{SFits, to_z}
use mir.Facts.{to_z-of_z}
use borrow.Author.Tests.{lt-ltb, eqb-true}
use Rattle.lists.specs.Lists.{Outside}
use Rattle.lists.specs.Lowest.{lowest}
use Rattle.lists.proofs.Lowest.{lowest_is}
use Rattle.lists.proofs.Rows.{row-inside}
use Rattle.lists.proofs.Stores.{Where, inside, outside, where_is, sets-inside}
use Rattle.endian_rules.specs.Words.{signed_at, word_at}
use Rattle.endian_rules.specs.declared.Order.{Order}
use Rattle.endian_rules.proofs.Places.{word_number}
use Rattle.refusal_rules.specs.Rules.{Rule, first_fault, Hold, Pass}
use Rattle.refusal_rules.specs.Answers.{gives}
use Rattle.refusal_rules.specs.Tests.{Exactly}
use Rattle.refusal_rules.proofs.Exactness.{le_exactly, lt_exactly, eq_exactly, within_exactly}
use Rattle.refusal_rules.proofs.Tables.{pass_hold, hold_pass, hold-append, also}
use Rattle.grid_rules.specs.Rules.{empty_slot, is_empty_slot, grid_end, meets, grid_file_rules}
use Rattle.grid_rules.specs.Accepts.{FullSlot}
use Rattle.grid_rules.specs.Opening.{grid_layout_of, open_grid}
use Rattle.grid_rules.proofs.Slots.{number-slot, Misses, misses_exactly}
use Rattle.grid_rules.proofs.Acceptance.{GridAt, file_passes, grid_exactly}
use Rattle.grid_rules.proofs.Footprint.{SameAt, SameSlot, meets-same}
use Rattle.extent_rules.specs.Stretches.{first_word, highest_end, is_free, stretch_starts}
use Rattle.extent_rules.specs.Steps.{GridAccepted, SlotsInside}
use Rattle.extent_rules.proofs.Free.{fails, own_exactly, none_has_exactly, free_word, starts_exactly}
use Rattle.extent_rules.proofs.Fit.{Fits, lowest_address_lem}
use Rattle.grid_update_rules.specs.Updates.{set_word, grid_words, lowest_empty, address_for, add_own, add_rules, grid_bytes, grid_put, with_grid}
use Rattle.grid_update_rules.proofs.Words.{set-length, set_here, set_other, set_byte, put_here, put_other, put_byte}
use Rattle.grid_update_rules.proofs.Highest.{Laid, HighestIs, grid-same, end-same, laid_slots, laid_highest, next-length, next_other, next_byte, laid_accepted, next_word, next_highest, accepted_laid, open_alike}
use Rattle.grid_update_rules.proofs.GridBytes.{grid-length, size_word, rows_word, columns_word, header_byte, value_word}

-- ---- what the rules ask

-- what the rules before the slot and the room ask, of so many header bytes and values, and of a table of so many pairs
pub record AddAsked (o : Order) (f : List ℕ) (headers rows columns values size : ℕ) : Type 0 where
  pub accepted : GridAccepted o f
  pub table : word_at o f 10 + 1 ≤ size
  pub some-rows : (1 ≤ rows) × (rows ≤ 65535)
  pub some-columns : (1 ≤ columns) × (columns ≤ 65535)
  pub all_values : values ≡ rows * columns
  pub whole-header : headers ≡ 256

-- what all the rules ask: there is an empty slot, and there is room, besides
pub record AddPasses (o : Order) (f : List ℕ) (headers rows columns values size : ℕ) : Type 0 where
  pub asked : AddAsked o f headers rows columns values size
  pub slot : lowest_empty (word_at o f) < word_at o f 10
  pub room : address_for o f (grid_words rows columns) < length f / 4

-- the rules of an addition pass exactly where that holds
pub add_passes : (o : Order) (f : List ℕ) (headers rows columns values size : ℕ)
    → (first_fault (add_rules o f headers rows columns values size) ≡ Pass) ↔ AddPasses o f headers rows columns values size
unfolding add_rules
add_passes o f headers rows columns values size =
    let w : ℕ → ℕ = word_at o f in
    let file : List Rule = grid_file_rules (length f) w in
    let rest : List Rule = add_own o f headers rows columns values size in
    let parts = hold-append file rest in
    let table = le_exactly (w 10 + 1) size in
    let row = within_exactly 1 65535 rows in
    let column = within_exactly 1 65535 columns in
    let value = eq_exactly values (rows * columns) in
    let header = eq_exactly headers 256 in
    let slot = lt_exactly (lowest_empty w) (w 10) in
    let room = lt_exactly (address_for o f (grid_words rows columns)) (length f / 4) in (
      λ e.
          let h = parts.0 (pass_hold (file ++ rest) e) in
          let r : Hold rest = h.1 in
          record {
            asked =
                record {
                  accepted = hold_pass file h.0;
                  table = table.sound r.0;
                  some-rows = row.sound r.1.0;
                  some-columns = column.sound r.1.1.0;
                  all_values = value.sound r.1.1.1.0;
                  whole-header = header.sound r.1.1.1.1.0;
                };
            slot = slot.sound r.1.1.1.1.1.0;
            room = room.sound r.1.1.1.1.1.1.0;
          },
      λ p.
          hold_pass (file ++ rest)
          (parts.1
          (also (pass_hold file p.asked.accepted)
          (also (table.complete p.asked.table)
          (also (row.complete p.asked.some-rows)
          (also (column.complete p.asked.some-columns)
          (also (value.complete p.asked.all_values)
          (also (header.complete p.asked.whole-header)
          (also (slot.complete p.slot)
          (also (room.complete p.room)
          tt))))))))),
    )

-- the slot that is taken is empty
pub slot_empty : (w : ℕ → ℕ) → lowest_empty w < w 10 → w (11 + lowest_empty w) ≡ empty_slot
unfolding lowest_empty
slot_empty w l = eqb-true (w (11 + lowest (is_empty_slot w) 0 (w 10))) empty_slot ((lowest_is (is_empty_slot w) 0 (w 10)).holds (omega (arith, l)))

-- ---- the file with the grid in it

-- a slot that is the same in all that opening reads of it has a word of a stretch in neither file or in both
misses_same : (w v : ℕ → ℕ) (low high j : ℕ) → SameSlot w v j → Misses w low high j ↔ Misses v low high j
misses_same w v low high j s =
    let x = misses_exactly w low high j in
    let y = misses_exactly v low high j in
    let e : meets v low high j ≡ meets w low high j = meets-same w v low high j s in
    (λ m. y.sound (ap not e ∙ x.complete m), λ m. x.sound (ap not (sym e) ∙ y.complete m))

-- of two stretches one ends before the other begins, with their bounds written otherwise
carried : (a b c d : ℕ) {s t u v : ℕ} → s ≡ a → t ≡ b → u ≡ c → v ≡ d → (a ≤ b) ⊎ (c ≤ d) → (s ≤ t) ⊎ (u ≤ v)
carried a b c d p q r e = ⊎_elim (λ x. inl (omega arith)) (λ x. inr (omega arith))

module _ (o : Order) (f header : List ℕ) (rows columns : ℕ) (values : List ℤ) where
  -- the slot that is taken, counted from 0
  abbrev pub new_slot : ℕ
  new_slot = lowest_empty (word_at o f)

  -- the word at which the grid begins
  abbrev pub new_address : ℕ
  new_address = address_for o f (grid_words rows columns)

  -- its bytes
  abbrev pub new_bytes : List ℕ
  new_bytes = grid_bytes o header rows columns values

  -- the file with the grid's bytes and its offset, and with the next free word as it was
  abbrev pub grid_in : List ℕ
  grid_in = set_word o (sets f (4 * new_address) new_bytes) (11 + new_slot) new_address

  -- the file with the grid, and its next free word
  abbrev pub added_file : List ℕ
  added_file = with_grid o f header rows columns values

  module _ (size : ℕ) (ok : first_fault (add_rules o f (length header) rows columns (length values) size) ≡ Pass) where
    passes : AddPasses o f (length header) rows columns (length values) size
    passes = (add_passes o f (length header) rows columns (length values) size).0 ok

    -- the grid has room where it goes
    pub add_place : Fits (word_at o f) (length f / 4) (grid_words rows columns) new_address
    add_place = (lowest_address_lem (word_at o f) (length f / 4) (grid_words rows columns) (lt-ltb new_address (length f / 4) passes.room)).0

    -- and its slot is an empty one of the file
    pub add_slot : (new_slot < word_at o f 10) × (word_at o f (11 + new_slot) ≡ empty_slot)
    add_slot = (passes.slot, slot_empty (word_at o f) passes.slot)

    -- what the file is before
    old : Laid (length f) (word_at o f)
    old = accepted_laid o f passes.asked.accepted

    -- the words of the grid are inside the file
    in_file : 4 * (new_address + grid_words rows columns) ≤ length f
    in_file = omega (arith, add_place.inside)

    bytes_length : length new_bytes ≡ 4 * grid_words rows columns
    bytes_length = grid-length o header rows columns values passes.asked.whole-header passes.asked.all_values

    in_length : length grid_in ≡ length f
    in_length =
        set-length o (sets f (4 * new_address) new_bytes) (11 + new_slot) new_address
        ∙ length-sets f (4 * new_address) new_bytes

    -- its words: the slot
    in_slot : word_at o grid_in (11 + new_slot) ≡ new_address
    in_slot =
        set_here o (sets f (4 * new_address) new_bytes) (11 + new_slot) new_address
        (omega (arith, add_slot.0, add_place.from, in_file, length-sets f (4 * new_address) new_bytes))
        (omega (arith, add_place.by_last))

    -- the grid
    in_grid : (i : ℕ) → i < grid_words rows columns → word_at o grid_in (new_address + i) ≡ word_at o new_bytes i
    in_grid i l =
        set_other o (sets f (4 * new_address) new_bytes) (11 + new_slot) new_address (new_address + i)
        (λ e. omega (arith, e, add_slot.0, add_place.from))
        ∙ put_here o f new_bytes new_address (grid_words rows columns) bytes_length in_file i l

    -- the others
    in_other : (p : ℕ) → ¬ (p ≡ 11 + new_slot) → Outside p new_address (grid_words rows columns) → word_at o grid_in p ≡ word_at o f p
    in_other p other out =
        set_other o (sets f (4 * new_address) new_bytes) (11 + new_slot) new_address p other
        ∙ put_other o f new_bytes new_address (grid_words rows columns) bytes_length p out

    in_count : word_at o grid_in 10 ≡ word_at o f 10
    in_count = in_other 10 (λ e. omega (arith, e)) (inl (omega (arith, add_place.from)))

    -- a word of another grid is none of those that are set
    other_place : (j : ℕ) → j < word_at o f 10 → FullSlot (word_at o f) j → (x : ℕ) → word_at o f (11 + j) ≤ x → x < grid_end (word_at o f) (word_at o f (11 + j))
        → (12 + word_at o f 10 ≤ x) × Outside x new_address (grid_words rows columns)
    other_place j l full x from to = (
      omega (arith, from, (old.grid j l full).after-directory),
      ⊎_elim (λ before. inl (omega (arith, before, to))) (λ after. inr (omega (arith, after, from))) (add_place.apart j l full),
    )

    -- words v that are the file's words but for those
    abbrev pub SetThere : (ℕ → ℕ) → Type 0
    SetThere v =
        (p : ℕ) → ¬ (p ≡ 11 + word_at o f 10) → ¬ (p ≡ 11 + new_slot) → Outside p new_address (grid_words rows columns) → v p ≡ word_at o f p

    -- have every word of another grid as it was
    kept : (v : ℕ → ℕ) → SetThere v
        → (j : ℕ) → j < word_at o f 10 → FullSlot (word_at o f) j → (x : ℕ) → word_at o f (11 + j) ≤ x → x < grid_end (word_at o f) (word_at o f (11 + j)) → v x ≡ word_at o f x
    kept v there j l full x from to =
        let p = other_place j l full x from to in
        there x (λ e. omega (arith, e, p.0)) (λ e. omega (arith, e, p.0, add_slot.0)) p.1

    -- and every other slot, in all that opening reads of it
    same : (v : ℕ → ℕ) → SetThere v → (j : ℕ) → j < word_at o f 10 → ¬ (j ≡ new_slot) → SameSlot (word_at o f) v j
    same v there j l other =
        record {
          offset = there (11 + j) (λ e. omega (arith, e, l)) (λ e. other (omega (arith, e))) (inl (omega (arith, l, add_place.from)));
          size = λ full. kept v there j l full (word_at o f (11 + j)) (omega arith) (omega arith);
          rows = λ full. kept v there j l full (word_at o f (11 + j) + 1) (omega arith) (omega arith);
          columns = λ full. kept v there j l full (word_at o f (11 + j) + 2) (omega arith) (omega arith);
        }

    in_same : (j : ℕ) → j < word_at o f 10 → ¬ (j ≡ new_slot) → SameSlot (word_at o f) (word_at o grid_in) j
    in_same = same (word_at o grid_in) (λ p next slot out. in_other p slot out)

    -- the grid's own first words
    in_size : word_at o grid_in new_address ≡ rows * columns
    in_size =
        let at : new_address ≡ new_address + 0 = omega arith in
        ap (word_at o grid_in) at
        ∙ in_grid 0 (omega arith)
        ∙ size_word o header rows columns values passes.asked.whole-header (omega (arith, add_place.by_last))

    in_rows : word_at o grid_in (new_address + 1) ≡ rows
    in_rows =
        in_grid 1 (omega arith)
        ∙ rows_word o header rows columns values passes.asked.whole-header (omega (arith, passes.asked.some-rows.1))

    in_columns : word_at o grid_in (new_address + 2) ≡ columns
    in_columns =
        in_grid 2 (omega arith)
        ∙ columns_word o header rows columns values passes.asked.whole-header (omega (arith, passes.asked.some-columns.1))

    in_end : grid_end (word_at o grid_in) new_address ≡ new_address + grid_words rows columns
    in_end = omega (arith, in_size)

    -- the grids of the file with the grid in it
    slot_in : (j : ℕ) → j < word_at o f 10 → FullSlot (word_at o grid_in) j → GridAt (length grid_in) (word_at o grid_in) (word_at o grid_in (11 + j))
    slot_in j l full = step (ℕ_discrete j new_slot)
      where
        step : Dec (j ≡ new_slot) → GridAt (length grid_in) (word_at o grid_in) (word_at o grid_in (11 + j))
        step (yes e) =
            rw (e, in_slot)
            (record {
              after-directory = omega (arith, in_count, add_place.from);
              rows = rw in_rows passes.asked.some-rows;
              columns = rw in_columns passes.asked.some-columns;
              size = rw (in_size, in_rows, in_columns) refl;
              inside = omega (arith, in_size, in_length, in_file);
              small = omega (arith, in_size, add_place.by_last);
            })
        step (no other) =
            let s : SameSlot (word_at o f) (word_at o grid_in) j = in_same j l other in
            let was : FullSlot (word_at o f) j = λ q. full (s.offset ∙ q) in
            rw in_length (grid-same (length f) (word_at o f) (word_at o grid_in) (11 + j) in_count s was (old.grid j l was))

    end_in : grid_end (word_at o grid_in) (word_at o grid_in (11 + new_slot)) ≡ new_address + grid_words rows columns
    end_in = ap (grid_end (word_at o grid_in)) in_slot ∙ in_end

    -- of two of them, one ends before the other begins
    apart_in : (j : ℕ) → j < word_at o f 10 → FullSlot (word_at o grid_in) j → (i : ℕ) → i < j → FullSlot (word_at o grid_in) i
        → (grid_end (word_at o grid_in) (word_at o grid_in (11 + i)) ≤ word_at o grid_in (11 + j)) ⊎ (grid_end (word_at o grid_in) (word_at o grid_in (11 + j)) ≤ word_at o grid_in (11 + i))
    apart_in j lj full-j i less full-i = step (ℕ_discrete j new_slot) (ℕ_discrete i new_slot)
      where
        li : i < word_at o f 10
        li = omega (arith, lj, less)

        was : (h : ℕ) → SameSlot (word_at o f) (word_at o grid_in) h → FullSlot (word_at o grid_in) h → FullSlot (word_at o f) h
        was h s full q = full (s.offset ∙ q)

        ends : (h : ℕ) (s : SameSlot (word_at o f) (word_at o grid_in) h) → FullSlot (word_at o grid_in) h
            → grid_end (word_at o grid_in) (word_at o grid_in (11 + h)) ≡ grid_end (word_at o f) (word_at o f (11 + h))
        ends h s full = end-same (word_at o f) (word_at o grid_in) (11 + h) s (was h s full)

        step : Dec (j ≡ new_slot) → Dec (i ≡ new_slot)
            → (grid_end (word_at o grid_in) (word_at o grid_in (11 + i)) ≤ word_at o grid_in (11 + j)) ⊎ (grid_end (word_at o grid_in) (word_at o grid_in (11 + j)) ≤ word_at o grid_in (11 + i))
        step (yes p) (yes q) = let z : ⊥ = omega (arith, p, q, less) in absurd z
        step (yes p) (no other) =
            let s : SameSlot (word_at o f) (word_at o grid_in) i = in_same i li other in
            rw p
            (carried (grid_end (word_at o f) (word_at o f (11 + i))) new_address (new_address + grid_words rows columns) (word_at o f (11 + i))
            (ends i s full-i) in_slot end_in s.offset (add_place.apart i li (was i s full-i)))
        step (no other) (yes q) =
            let s : SameSlot (word_at o f) (word_at o grid_in) j = in_same j lj other in
            rw q
            (carried (new_address + grid_words rows columns) (word_at o f (11 + j)) (grid_end (word_at o f) (word_at o f (11 + j))) new_address
            end_in s.offset (ends j s full-j) in_slot (⊎_elim inr inl (add_place.apart j lj (was j s full-j))))
        step (no other-j) (no other-i) =
            let s : SameSlot (word_at o f) (word_at o grid_in) j = in_same j lj other-j in
            let r : SameSlot (word_at o f) (word_at o grid_in) i = in_same i li other-i in
            carried (grid_end (word_at o f) (word_at o f (11 + i))) (word_at o f (11 + j)) (grid_end (word_at o f) (word_at o f (11 + j))) (word_at o f (11 + i))
            (ends i r full-i) s.offset (ends j s full-j) r.offset (old.apart j lj (was j s full-j) i less (was i r full-i))

    -- it is as acceptance asks, but for the next free word
    pub added_laid : Laid (length grid_in) (word_at o grid_in)
    added_laid =
        record {
          long = rw in_length old.long;
          grids = rw in_count old.grids;
          room = rw (in_count, in_length) old.room;
          grid = λ j l. slot_in j (rw in_count at l);
          apart = λ j l. apart_in j (rw in_count at l);
        }

    -- its slots can be read
    pub added-slots : SlotsInside (length grid_in) (word_at o grid_in)
    added-slots = laid_slots (length grid_in) (word_at o grid_in) added_laid

    -- and the end of its highest grid is a signed word
    pub added-small : highest_end (word_at o grid_in) (first_word (word_at o grid_in)) (word_at o grid_in 10) ≤ 2147483647
    added-small = omega (arith, (laid_highest (length grid_in) (word_at o grid_in) added_laid).1)

    -- ---- the changed file

    -- it is as long as it was
    pub added-length : length added_file ≡ length f
    unfolding with_grid grid_put
    added-length = next-length o grid_in ∙ in_length

    -- it is accepted
    pub added_accepted : GridAccepted o added_file
    unfolding with_grid grid_put
    added_accepted = laid_accepted o grid_in added_laid

    -- its words: all but the next free word, the slot and those of the grid are as they were
    pub added_other : SetThere (word_at o added_file)
    unfolding with_grid grid_put
    added_other p next slot out = next_other o grid_in p (λ e. next (omega (arith, e, in_count))) ∙ in_other p slot out

    -- so is n
    pub added_count : word_at o added_file 10 ≡ word_at o f 10
    added_count = added_other 10 (λ e. omega (arith, e)) (λ e. omega (arith, e)) (inl (omega (arith, add_place.from)))

    -- the next free word is the end of the highest grid of the changed file
    pub added_highest : word_at o added_file (11 + word_at o f 10) ≡ highest_end (word_at o added_file) (12 + word_at o f 10) (word_at o f 10)
    unfolding with_grid grid_put
    added_highest = rw added_count at (next_word o grid_in added_laid)

    -- which is to say, "the end of the highest grid, or 12+n if there is none"
    pub added-next : HighestIs (word_at o added_file) (12 + word_at o f 10) (word_at o f 10) (word_at o added_file (11 + word_at o f 10))
    unfolding with_grid grid_put
    added-next = rw added_count at (next_highest o grid_in added_laid)

    -- the slot has the address
    pub added-slot : word_at o added_file (11 + new_slot) ≡ new_address
    unfolding with_grid grid_put
    added-slot = next_other o grid_in (11 + new_slot) (λ e. omega (arith, e, in_count, add_slot.0)) ∙ in_slot

    -- and the words from there on are those of the grid
    pub added-grid : (i : ℕ) → i < grid_words rows columns
        → word_at o added_file (new_address + i) ≡ word_at o new_bytes i
    unfolding with_grid grid_put
    added-grid i l = next_other o grid_in (new_address + i) (λ e. omega (arith, e, in_count, add_place.from)) ∙ in_grid i l

    -- its bytes outside those words are as they were
    pub added_bytes : (i : ℕ) → Outside i (4 * (11 + word_at o f 10)) 4 → Outside i (4 * (11 + new_slot)) 4 → Outside i (4 * new_address) (4 * grid_words rows columns)
        → get_or added_file i 0 ≡ get_or f i 0
    unfolding with_grid grid_put
    added_bytes i next slot out =
        next_byte o grid_in i (rw in_count next)
        ∙ set_byte o (sets f (4 * new_address) new_bytes) (11 + new_slot) new_address i slot
        ∙ put_byte o f new_bytes new_address (grid_words rows columns) bytes_length i out

    -- ---- the other grids

    -- every word of another grid is as it was
    pub added_kept : (j : ℕ) → j < word_at o f 10 → FullSlot (word_at o f) j
        → (x : ℕ) → word_at o f (11 + j) ≤ x → x < grid_end (word_at o f) (word_at o f (11 + j)) → word_at o added_file x ≡ word_at o f x
    added_kept = kept (word_at o added_file) added_other

    -- every other slot is as it was, in all that opening reads of it
    pub added-same : (j : ℕ) → j < word_at o f 10 → ¬ (j ≡ new_slot) → SameSlot (word_at o f) (word_at o added_file) j
    added-same = same (word_at o added_file) added_other

    -- and every other number opens as it did
    pub added-others : (m : ℕ) → ¬ (m ≡ new_slot + 1) → open_grid o added_file m ≡ open_grid o f m
    added-others m other =
        open_alike o f added_file added-length passes.asked.accepted added_accepted added_count m
        (λ from to.
        subst (SameAt (word_at o f) (word_at o added_file)) (number-slot m from)
        (added-same (m - 1) (omega (arith, from, to)) (λ e. other (omega (arith, e, from)))))

    -- ---- the new grid

    -- header words 1 to 3 are the number of points, the rows and the columns
    pub added-header : (word_at o added_file new_address ≡ rows * columns)
        × (word_at o added_file (new_address + 1) ≡ rows)
        × (word_at o added_file (new_address + 2) ≡ columns)
    unfolding with_grid grid_put
    added-header = (
      next_other o grid_in new_address (λ e. omega (arith, e, in_count, add_place.from)) ∙ in_size,
      next_other o grid_in (new_address + 1) (λ e. omega (arith, e, in_count, add_place.from)) ∙ in_rows,
      next_other o grid_in (new_address + 2) (λ e. omega (arith, e, in_count, add_place.from)) ∙ in_columns,
    )

    -- the number that is answered opens it, with the address, rows and columns
    pub added_opens : open_grid o added_file (new_slot + 1)
        ≡ gives (record { order = o; length = length f; number = new_slot + 1; offset = new_address; rows = rows; columns = columns })
    unfolding grid_layout_of
    added_opens =
        let v : ℕ → ℕ = word_at o added_file in
        let at : 10 + (new_slot + 1) ≡ 11 + new_slot = omega arith in
        let here : v (10 + (new_slot + 1)) ≡ new_address = ap v at ∙ added-slot in
        (grid_exactly o added_file (new_slot + 1)
        (record { order = o; length = length f; number = new_slot + 1; offset = new_address; rows = rows; columns = columns })).1 (
          record {
            file = (file_passes (length added_file) v).0 added_accepted;
            number_from = omega arith;
            number_to = omega (arith, added_count, add_slot.0);
            full = λ e. omega (arith, sym here ∙ e, add_place.by_last);
          },
          rw (added-length, here, added-header.1, added-header.2) refl,
        )

    -- header bytes 12 to 255 are those of the given header
    pub added-header_byte : (i : ℕ) → 12 ≤ i → i < 256 → get_or added_file (4 * new_address + i) 0 ≡ get_or header i 0
    unfolding with_grid grid_put
    added-header_byte i from to =
        next_byte o grid_in (4 * new_address + i) (inr (omega (arith, in_count, add_place.from)))
        ∙ set_byte o (sets f (4 * new_address) new_bytes) (11 + new_slot) new_address (4 * new_address + i)
        (inr (omega (arith, add_slot.0, add_place.from)))
        ∙ sets-inside new_bytes f (4 * new_address) i 0 (omega (arith, bytes_length, in_file)) (omega (arith, bytes_length, to))
        ∙ header_byte o header rows columns values passes.asked.whole-header i from to

    -- the data are the values in their order
    pub added-value : (i : ℕ) → i < rows * columns → SFits w32 (get_or values i (pos 0))
        → signed_at o added_file (4 * (new_address + (64 + i))) ≡ get_or values i (pos 0)
    added-value i l fits =
        ap (to_z w32)
        (sym (word_number o added_file (new_address + (64 + i)))
        ∙ added-grid (64 + i) (omega (arith, l))
        ∙ value_word o header rows columns values passes.asked.whole-header i (omega (arith, l, passes.asked.all_values)) fits)
        ∙ to_z-of_z fits

    -- so that the point of row r and column c is the value of that place "by columns"
    pub added_reads : (r c : ℕ) → 1 ≤ r → r ≤ rows → 1 ≤ c → c ≤ columns → SFits w32 (get_or values ((c - 1) * rows + (r - 1)) (pos 0))
        → signed_at o added_file (4 * (new_address + 64 + (c - 1) * rows + (r - 1))) ≡ get_or values ((c - 1) * rows + (r - 1)) (pos 0)
    added_reads r c row_from row_to column_from column_to fits =
        let at : new_address + 64 + (c - 1) * rows + (r - 1) ≡ new_address + (64 + ((c - 1) * rows + (r - 1))) = omega arith in
        let among : (c - 1) * rows + (r - 1) < columns * rows =
        row-inside rows (c - 1) columns (r - 1) (omega (arith, column_from, column_to)) (omega (arith, row_from, row_to)) in
        ap (λ (x : ℕ). signed_at o added_file (4 * x)) at
        ∙ added-value ((c - 1) * rows + (r - 1)) (omega (arith, among, mul_comm columns rows)) fits

    -- ---- the free words

    added-offset : (word_at o added_file (11 + new_slot) ≡ new_address)
        × (grid_end (word_at o added_file) (word_at o added_file (11 + new_slot))
        ≡ new_address + grid_words rows columns)
    added-offset = (
      added-slot,
      ap (grid_end (word_at o added_file)) added-slot ∙ omega (arith, added-header.0),
    )

    -- a word is free exactly where it was free and is none of the grid's
    pub added-free : (p : ℕ)
        → (is_free (word_at o added_file) p ≡ true) ↔ ((is_free (word_at o f) p ≡ true) × Outside p new_address (grid_words rows columns))
    added-free p = (
      λ e. (was.complete (λ j l. before (now.sound e) j l (ℕ_discrete j new_slot)), out (now.sound e)),
      λ h. now.complete (λ j l. after (was.sound h.0) h.1 j (rw added_count at l) (ℕ_discrete j new_slot)),
    )
      where
        was : Exactly (is_free (word_at o f) p) ((j : ℕ) → j < word_at o f 10 → Misses (word_at o f) p (p + 1) j)
        was = none_has_exactly (word_at o f) p (p + 1)

        now : Exactly (is_free (word_at o added_file) p)
            ((j : ℕ) → j < word_at o added_file 10 → Misses (word_at o added_file) p (p + 1) j)
        now = none_has_exactly (word_at o added_file) p (p + 1)

        before : ((j : ℕ) → j < word_at o added_file 10 → Misses (word_at o added_file) p (p + 1) j)
            → (j : ℕ) → j < word_at o f 10 → Dec (j ≡ new_slot) → Misses (word_at o f) p (p + 1) j
        before h j l (yes e) = λ full. absurd (full (ap (λ (i : ℕ). word_at o f (11 + i)) e ∙ add_slot.1))
        before h j l (no other) =
            (misses_same (word_at o f) (word_at o added_file) p (p + 1) j (added-same j l other)).1 (h j (rw added_count l))

        out : ((j : ℕ) → j < word_at o added_file 10 → Misses (word_at o added_file) p (p + 1) j)
            → Outside p new_address (grid_words rows columns)
        out h =
            ⊎_elim (λ x. inr (omega (arith, x, added-offset.1))) (λ x. inl (omega (arith, x, added-offset.0)))
            (h new_slot (rw added_count add_slot.0) (λ e. omega (arith, sym added-offset.0 ∙ e, add_place.by_last)))

        after : ((j : ℕ) → j < word_at o f 10 → Misses (word_at o f) p (p + 1) j) → Outside p new_address (grid_words rows columns)
            → (j : ℕ) → j < word_at o f 10 → Dec (j ≡ new_slot) → Misses (word_at o added_file) p (p + 1) j
        after h apart j l (yes e) =
            rw e
            (λ full. ⊎_elim (λ x. inr (omega (arith, x, added-offset.0))) (λ x. inl (omega (arith, x, added-offset.1))) apart)
        after h apart j l (no other) =
            (misses_same (word_at o f) (word_at o added_file) p (p + 1) j (added-same j l other)).0 (h j l)

    -- the words that the grid takes were free
    pub taken_free : (p : ℕ) → new_address ≤ p → p < new_address + grid_words rows columns → is_free (word_at o f) p ≡ true
    taken_free =
        free_word (word_at o f) new_address (new_address + grid_words rows columns)
        ((none_has_exactly (word_at o f) new_address (new_address + grid_words rows columns)).complete add_place.apart)

    -- a free stretch that starts elsewhere than at the grid's address still starts there
    pub added_starts : (p : ℕ) → ¬ (p ≡ new_address) → stretch_starts (word_at o f) p ≡ true → stretch_starts (word_at o added_file) p ≡ true
    added_starts p other e =
        let x : (is_free (word_at o f) p ≡ true) × ((p ≡ first_word (word_at o f)) ⊎ (is_free (word_at o f) (p - 1) ≡ false)) =
        (starts_exactly (word_at o f) p).sound e in
        (starts_exactly (word_at o added_file) p).complete (
          (added-free p).1 (x.0, apart x.1 (where_is p new_address (grid_words rows columns))),
          ⊎_elim (λ q. inl (omega (arith, q, added_count))) (λ q. inr (taken q)) x.1,
        )
      where
        apart : (p ≡ first_word (word_at o f)) ⊎ (is_free (word_at o f) (p - 1) ≡ false) → Where p new_address (grid_words rows columns)
            → Outside p new_address (grid_words rows columns)
        apart h (outside out) = out
        apart (inl q) (inside i e l) = absurd (other (omega (arith, q, e, add_place.from)))
        apart (inr q) (inside zero e l) = absurd (other (omega (arith, e)))
        apart (inr q) (inside (suc i) e l) = absurd (false≢true (sym q ∙ taken_free (p - 1) (omega (arith, e)) (omega (arith, e, l))))

        taken : is_free (word_at o f) (p - 1) ≡ false → is_free (word_at o added_file) (p - 1) ≡ false
        taken q = fails (own_exactly (is_free (word_at o added_file) (p - 1))) (λ e. false≢true (sym q ∙ ((added-free (p - 1)).0 e).0))

    -- and one does start at the grid's address, since that is the lowest
    pub address_starts : stretch_starts (word_at o f) new_address ≡ true
    address_starts =
        (starts_exactly (word_at o f) new_address).complete (taken_free new_address (omega arith) (omega arith), before (ℕ_discrete new_address (first_word (word_at o f))))
      where
        apart : is_free (word_at o f) (new_address - 1) ≡ true → (j : ℕ) → j < word_at o f 10
            → Misses (word_at o f) (new_address - 1) (new_address - 1 + grid_words rows columns) j
        apart e j l full =
            ⊎_elim inl
            (λ x. ⊎_elim (λ y. let z : ⊥ = omega (arith, x, y) in absurd z) (λ y. inr (omega (arith, y))) (add_place.apart j l full))
            ((none_has_exactly (word_at o f) (new_address - 1) (new_address - 1 + 1)).sound e j l full)

        before : Dec (new_address ≡ first_word (word_at o f)) → (new_address ≡ first_word (word_at o f)) ⊎ (is_free (word_at o f) (new_address - 1) ≡ false)
        before (yes e) = inl e
        before (no other) =
            inr
            (fails (own_exactly (is_free (word_at o f) (new_address - 1)))
            (λ e.
            (lowest_address_lem (word_at o f) (length f / 4) (grid_words rows columns) (lt-ltb new_address (length f / 4) passes.room)).1 (new_address - 1)
            (omega (arith, add_place.from))
            (record {
              from = omega (arith, other, add_place.from);
              inside = omega (arith, add_place.inside);
              by_last = omega (arith, add_place.by_last);
              apart = apart e;
            })))
