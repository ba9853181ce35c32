-- `md_records::copy_record` meets its contract: a fresh MD layout is one of an accepted file, and a refusal is passed on.
-- Assumes nothing.
use mathlib.Core.Path.{sym, ap, ◌∙◌}
use Rattle.layout_rules.proofs.OneKind.{md_known}
use Rattle.md_records.proofs.copy_record.Goals as goal
use Rattle.refusal_rules.specs.Answers.{says}

pub invariant_of-copy : goal.invariant_of-copy
invariant_of-copy c = record { opened = md_known _ _ _ (sym c.md_of.ensures ∙ ap says c.in_ok-layout.was) }
