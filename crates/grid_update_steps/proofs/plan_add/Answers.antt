-- `grid_update_steps::plan_add` meets its contract: where the rules pass, the slot is one of at most 1,024, and there is a free stretch.
-- Assumes nothing.
use mathlib.Core.Path.{sym, ap}
use native.Mathlib.Omega.{arith}
use Rattle.extent_rules.specs.Steps.{survey}
use Rattle.extent_rules.specs.declared.Survey.{Survey}
use Rattle.grid_update_rules.proofs.Plans.{plan_accepted, slot_small, pass_some, plan_pass}
use Rattle.grid_update_steps.proofs.plan_add.Goals as goal

pub invariant_of-accepted : goal.invariant_of-accepted
invariant_of-accepted c =
    let a = c.args in
    record { accepted = plan_accepted a.order a.file.now a.headers a.rows a.columns a.values a.size (sym c.in_ok-add_verdict.ensures) }

pub overflow_cast-result : goal.overflow_cast-result
overflow_cast-result c =
    let a = c.args in
    omega (arith, slot_small a.order a.file.now a.headers a.rows a.columns a.values a.size (sym c.in_ok-add_verdict.ensures), c.lowest_empty-slot.ensures)

pub overflow_add-result : goal.overflow_add-result
overflow_add-result c =
    let a = c.args in
    omega (arith, slot_small a.order a.file.now a.headers a.rows a.columns a.values a.size (sym c.in_ok-add_verdict.ensures), c.lowest_empty-slot.ensures)

pub overflow_sub-result : goal.overflow_sub-result
unfolding survey
overflow_sub-result c =
    let a = c.args in
    omega (
      arith,
      pass_some a.order a.file.now a.headers a.rows a.columns a.values a.size (sym c.in_ok-add_verdict.ensures),
      ap (λ (s : Survey). s.count) c.survey_free-stretches.ensures,
    )

pub returns : goal.returns
returns c =
    let a = c.args in
    plan_pass a.order a.file.now a.headers a.rows a.columns a.values a.size (sym c.in_ok-add_verdict.ensures) _
    c.lowest_empty-slot.ensures _ c.survey_free-stretches.ensures
