-- `texts::append_number` meets its contract: the kit's digits are those of the definition.
-- Assumes nothing.
use mathlib.Core.Path.{sym, ap, ◌∙◌}
use native.Mathlib.Omega.{arith}
use Rattle.listing_rules.specs.Page.{labelled}
use Rattle.listing_rules.specs.Steps.{append_bytes}
use Rattle.listing_rules.proofs.Appending.{append_more}
use Rattle.texts.proofs.Digits.{fewest_decimal}
use Rattle.texts.proofs.append_number.Goals as goal

pub returns : goal.returns
unfolding labelled
returns c =
    let s = c in
    let d = c.decimal-count in
    rw (c.append_bytes-2.ensures, c.append_bytes.ensures)
    (ap (append_bytes (append_bytes s.args.text s.args.word.now)) (d.ensures.digits ∙ fewest_decimal d.result s.args.n (omega arith) d.ensures.len) ∙ sym (append_more _ _ _))
