-- `grid::slots_verdict` meets its contract: all slots before the one that the loop is at have passed.
-- Assumes nothing.
use mathlib.Core.Path.{sym, ◌∙◌}
use native.Mathlib.Numerals.{add-one}
use Rattle.std.proofs.lemmas.Result.{err_from_is_err_and}
use Rattle.refusal_rules.proofs.Tables.{pass_both}
use Rattle.grid_rules.proofs.Slots.{slots_more, fault_at}
use Rattle.grid.proofs.slots_verdict.Goals as goal

pub returns-in_err-slot_verdict : goal.returns-in_err-slot_verdict
returns-in_err-slot_verdict c =
    let p = err_from_is_err_and c.from_residual.result c.from_residual.ensures.1 in
    rw (p.1, p.2) (sym (fault_at _ _ _ c.loop-k.k c.args.directory.grids _ c.loop-k-test.true c.loop-k.invariant (sym c.in_err-slot_verdict.ensures)))

pub loop-k-preserved : goal.loop-k-preserved
loop-k-preserved c =
    rw add-one (slots_more _ _ _ c.loop-k.k ∙ pass_both _ _ c.loop-k.invariant (sym c.in_ok-slot_verdict.ensures))
