-- `grid_steps::meets_slot` meets its contract. The size of a grid is read where the slot is not empty: its checks have passed, so that the header
-- is inside the file.
-- Assumes nothing.
use mathlib.Core.Path.{◌∙◌}
use native.Mathlib.Omega.{arith}
use Rattle.endian_rules.specs.Words.{word_at}
use Rattle.grid_rules.specs.Accepts.{AcceptsGridSlot}
use Rattle.grid_rules.proofs.Slots.{slot_exactly}
use Rattle.grid_steps.proofs.Directory.meets_slot.Goals as goal

pub read_word-size-requires : goal.read_word-size-requires
read_word-size-requires c =
    let s = c in
    let w = word_at s.args.self.order s.args.self.file.now in
    let a : AcceptsGridSlot w s.args.self.grids s.args.self.next s.args.j =
    (slot_exactly w s.args.self.grids s.args.self.next s.args.j).0 s.requires.1 (λ e. c.if-word.false (c.read_word-word.ensures ∙ e)) in
    omega (arith, a.header, s.args.self.room.whole, c.read_word-word.ensures)
