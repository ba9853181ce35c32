-- `listing_text::append_block` meets its contract: the name, the two numbers and the end of the line, one after another.
-- Assumes nothing.
use Rattle.listing_rules.specs.Page.{block_line}
use Rattle.listing_rules.proofs.Appending.{append_four}
use Rattle.listing_text.proofs.append_block.Goals as goal

pub returns : goal.returns
unfolding block_line
returns c =
    rw (c.append_bytes.ensures, c.append_two-extent.ensures, c.append_name-name.ensures)
    (append_four _ _ _ _ _)
