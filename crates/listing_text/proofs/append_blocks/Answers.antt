-- `listing_text::append_blocks` meets its contract.
-- Assumes nothing.
use Rattle.std.proofs.Common.{take, arith, ◌∙◌}
use Rattle.listing_rules.proofs.Appending.{append_block, append_no_block}
use Rattle.listing_text.proofs.append_blocks.Goals as goal

pub loop-entry-preserved : goal.loop-entry-preserved
loop-entry-preserved c =
    let b = c.args.blocks in
    rw c.append_block-t.ensures
    (append_block c.loop-entry.t (take b.count b.entries) c.loop-entry.entry-index _ (omega arith) ∙ c.loop-entry.invariant)

pub returns : goal.returns
returns c =
    let b = c.args.blocks in
    append_no_block c.loop-entry.t (take b.count b.entries) c.loop-entry.entry-index (omega arith) ∙ c.loop-entry.invariant
