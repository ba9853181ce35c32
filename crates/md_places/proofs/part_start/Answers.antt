-- `md_places::part_start` meets its contract: the rules that passed give the bounds.
-- Assumes nothing.
use mathlib.Core.Path.{sym, ap, ◌∙◌}
use Rattle.refusal_rules.specs.Answers.{verdict_of}
use Rattle.refusal_rules.proofs.Tables.{pass_hold}
use Rattle.md_rules.proofs.Tables.{parts_hold}
use Rattle.md_places.proofs.part_start.Goals as goal

pub part_word-requires : goal.part_word-requires
part_word-requires c = (parts_hold _ _ _).0 (pass_hold _ (sym c.part_verdict.ensures ∙ ap verdict_of c.in_ok-part_verdict.was))
