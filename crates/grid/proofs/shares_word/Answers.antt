-- `grid::shares_word` meets its contract: no slot before the one that the loop is at has a word of the stretch.
-- Assumes nothing.
use mathlib.Core.Path.{sym, ◌∙◌}
use native.Mathlib.Omega.{arith}
use Rattle.grid_rules.proofs.Slots.{each_passes, shares_at}
use Rattle.grid.proofs.shares_word.Goals as goal

pub meets_slot-requires : goal.meets_slot-requires
meets_slot-requires c =
    let passed = (each_passes _ _ _ _).0 c.requires.1 c.loop-j.j c.loop-j-test.true in
    (omega (arith, c.loop-j-test.true, c.requires.0), passed)

pub returns-then-meets_slot : goal.returns-then-meets_slot
returns-then-meets_slot c =
    sym (shares_at _ _ _ c.loop-j.j c.args.k c.loop-j-test.true (sym c.meets_slot.ensures ∙ c.if-meets_slot.true))
