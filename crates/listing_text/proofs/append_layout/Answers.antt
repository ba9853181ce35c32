-- `listing_text::append_layout` meets its contract: the line of the order, the five numbers and the end of the line, one after another.
-- Assumes nothing.
use Rattle.listing_rules.specs.Page.{layout_lines}
use Rattle.listing_rules.proofs.Appending.{append_seven}
use Rattle.listing_text.proofs.append_layout.Goals as goal

pub returns : goal.returns
unfolding layout_lines
returns c =
    let number = c in
    let second = number in
    let first = second in
    let order = first in
    rw (c.append_bytes.ensures, number.append_number.ensures, second.append_two-samples.ensures, first.append_two-size.ensures, order.append_order-area.ensures)
    (append_seven _ _ _ _ _ _ _ _)
