-- `listing_text::append_blocks`: the text with the lines of the blocks from an index on is the text with all of them.
-- Assumes nothing.
use Rattle.std.proofs.Common.{◌≡◌, drop}
use Rattle.listing_rules.specs.Page.{block_lines}
use Rattle.listing_rules.specs.Steps.{append_bytes}
use Rattle.listing_text.proofs.append_blocks.Given as goal

abbrev pub invariant-loop-entry : goal.invariant-loop-entry
invariant-loop-entry l = append_bytes l.t (block_lines (drop l.entry-index l.entry-items)) ≡ append_bytes l.initial.t (block_lines l.entry-items)
