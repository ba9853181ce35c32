-- `md_keys::find_key` meets its contract: a fresh MD layout is one of an accepted file, and a refusal is passed on.
-- Assumes nothing.
use mathlib.Core.Path.{sym, ap, ◌∙◌}
use Rattle.layout_rules.proofs.OneKind.{md_known}
use Rattle.md_keys.proofs.find_key.Goals as goal
use Rattle.refusal_rules.specs.Answers.{says}

pub find_in-requires : goal.find_in-requires
find_in-requires c = md_known _ _ _ (sym c.md_of.ensures ∙ ap says c.in_ok-l.was)
