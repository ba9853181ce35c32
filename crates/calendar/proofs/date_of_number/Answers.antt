-- `calendar::date_of_number` meets its contract: the day of a word that passed is at least 1.
-- Assumes nothing.
use mathlib.Core.Path.{sym, ap, ◌∙◌}
use Rattle.refusal_rules.specs.Answers.{verdict_of}
use Rattle.refusal_rules.proofs.Tables.{judge_pass}
use Rattle.refusal_rules.proofs.Exactness.{within_exactly}
use Rattle.calendar.proofs.date_of_number.Goals as goal

pub date_in-requires : goal.date_in-requires
date_in-requires c =
    let holds = judge_pass _ (sym c.check-2.ensures ∙ ap verdict_of c.in_ok-check-2.was) in
    ((within_exactly _ _ _).sound (sym c.within.ensures ∙ holds)).0
