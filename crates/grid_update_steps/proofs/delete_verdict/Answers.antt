-- `grid_update_steps::delete_verdict` meets its contract: of an accepted file the slot of each number up to n is inside the file.
-- Assumes nothing.
use mathlib.Core.Path.{sym, ◌∙◌}
use native.Mathlib.Omega.{arith}
use Rattle.refusal_rules.proofs.Exactness.{within_exactly}
use Rattle.refusal_rules.proofs.Tables.{judge_pass}
use Rattle.extent_rules.proofs.Slots.{accepted_slots}
use Rattle.grid_update_steps.proofs.delete_verdict.Goals as goal

pub read_word-offset-requires : goal.read_word-offset-requires
read_word-offset-requires c =
    let a = c.args in
    let there = judge_pass _ (sym c.in_ok-check-2.ensures) in
    omega (
      arith,
      (accepted_slots a.order a.file.now (sym c.in_ok-file_verdict.ensures)).room,
      ((within_exactly 1 c.read_word-n.result a.number).sound (sym c.within.ensures ∙ there)).1,
      c.read_word-n.ensures,
    )
