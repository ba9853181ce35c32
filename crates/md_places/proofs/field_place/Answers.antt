-- `md_places::field_place` meets its contract: the rules that passed give the bounds.
-- Assumes nothing.
use mathlib.Core.Path.{◌≡◌, sym, ap, ◌∙◌}
use native.Mathlib.Omega.{arith}
use Rattle.refusal_rules.specs.Answers.{verdict_of}
use Rattle.refusal_rules.proofs.Tables.{pass_hold}
use Rattle.md_rules.specs.Fields.{field_word}
use Rattle.md_rules.proofs.Sizes.{field_most}
use Rattle.md_rules.proofs.Tables.{fields_hold}
use Rattle.md_places.proofs.field_place.Goals as goal

pub field_word-requires : goal.field_word-requires
field_word-requires c = (fields_hold _ _ _ _).0 (pass_hold _ (sym c.field_verdict.ensures ∙ ap verdict_of c.in_ok-field_verdict.was))

pub overflow_mul-result : goal.overflow_mul-result
overflow_mul-result c =
    let s = c in
    let h = (fields_hold _ _ _ _).0 (pass_hold _ (sym c.field_verdict.ensures ∙ ap verdict_of c.in_ok-field_verdict.was)) in
    let word : c.field_word.result ≡ field_word s.args.layout s.args.row s.args.column s.args.position = c.field_word.ensures in
    omega (arith, word, field_most h.0 h.1 (omega (arith, s.well_formed.0)) (omega (arith, s.well_formed.0)) (omega (arith, s.ranges.position)))
