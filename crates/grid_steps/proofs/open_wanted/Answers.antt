-- `grid_steps::open_wanted` meets its contract. The file is accepted, so that the directory and the header of each grid are inside it.
-- Assumes nothing.
use mathlib.Core.Path.{◌≡◌, sym}
use mathlib.Core.Bool.{not}
use Prim.Native.Nat.{ℕ, ◌+◌, ◌*◌, ◌≤◌}
use native.Mathlib.Omega.{arith}
use lib.Dec.{eqb}
use Rattle.refusal_rules.specs.Rules.{rule, judge, first_fault, Pass}
use Rattle.refusal_rules.specs.Tests.{within}
use Rattle.refusal_rules.proofs.Exactness.{within_exactly, eq_exactly, not_exactly}
use Rattle.refusal_rules.proofs.Tables.{judge_pass}
use Rattle.grid_rules.specs.Rules.{empty_slot, grid_file_rules, next_free}
use Rattle.grid_rules.specs.Accepts.{GridRoom}
use Rattle.grid_rules.proofs.Acceptance.{GridAt, file_passes, number-grid}
use Rattle.grid_rules.proofs.Slots.{accepted_room}
use Rattle.grid_steps.proofs.open_wanted.Goals as goal

pub read_word-n-requires : goal.read_word-n-requires
read_word-n-requires c = ((file_passes _ _).0 c.requires).head.long

-- an accepted file of `len` bytes and words w, which has a grid of the number
module _ (len : ℕ) (w : ℕ → ℕ) (number : ℕ) (accepted : first_fault (grid_file_rules len w) ≡ Pass)
    (asked : Pass ≡ judge (rule (within 1 (w 10) number) 7 0)) where
  range : (1 ≤ number) × (number ≤ w 10)
  range = (within_exactly 1 (w 10) number).sound (judge_pass _ (sym asked))

  -- the directory is inside the file, with the next free word
  directory_inside : 4 * (12 + number) ≤ len
  directory_inside =
      let room : GridRoom len (w 10) (next_free w) = accepted_room len w ((file_passes len w).0 accepted).head in
      omega (arith, room.after, room.whole, range.1)

  -- and so is the header of the grid, unless the slot is empty
  header_inside : Pass ≡ judge (rule (not (eqb (w (10 + number)) empty_slot)) 6 0) → 4 * (w (10 + number) + 64) ≤ len
  header_inside full =
      let slot : ¬ (w (10 + number) ≡ empty_slot) = (not_exactly (eq_exactly _ _)).sound (judge_pass _ (sym full)) in
      let grid : GridAt len w (w (10 + number)) = number-grid len w ((file_passes len w).0 accepted) number range.0 range.1 slot in
      omega (arith, grid.inside)

pub read_word-offset-requires : goal.read_word-offset-requires
read_word-offset-requires c =
    omega (arith, directory_inside _ _ _ c.requires (rw (c.within.ensures, c.read_word-n.ensures) at c.in_ok-check.ensures))

pub read_word-rows-requires : goal.read_word-rows-requires
read_word-rows-requires c =
    let header =
    header_inside _ _ _ c.requires (rw (c.within.ensures, c.read_word-n.ensures) at c.in_ok-check.ensures)
    (rw c.read_word-offset.ensures at c.in_ok-check-2.ensures) in
    omega (arith, header, c.read_word-offset.ensures)

pub read_word-columns-requires : goal.read_word-columns-requires
read_word-columns-requires c =
    let header =
    header_inside _ _ _ c.requires (rw (c.within.ensures, c.read_word-n.ensures) at c.in_ok-check.ensures)
    (rw c.read_word-offset.ensures at c.in_ok-check-2.ensures) in
    omega (arith, header, c.read_word-offset.ensures)
