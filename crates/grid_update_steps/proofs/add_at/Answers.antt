-- `grid_update_steps::add_at` meets its contract: a plan that is refused leaves the file.
-- Assumes nothing.
use mathlib.Core.Path.{sym, ap, ◌∙◌}
use Rattle.std.proofs.lemmas.Result.{err_from_is_err_and}
use Rattle.refusal_rules.specs.Answers.{says}
use Rattle.grid_update_rules.proofs.Plans.{refused_step}
use Rattle.grid_update_steps.proofs.add_at.Goals as goal

pub returns-in_err-plan : goal.returns-in_err-plan
returns-in_err-plan c =
    let a = c.args in
    let p = err_from_is_err_and c.from_residual.result c.from_residual.ensures.1 in
    rw (p.1, p.2) (refused_step a.order a.file.now a.header.now a.rows a.columns a.values.now a.size _ (ap says (sym c.in_err-plan.was) ∙ c.requires.planned))
