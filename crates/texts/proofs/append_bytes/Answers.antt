-- `texts::append_bytes` meets its contract.
-- Assumes nothing.
use Rattle.std.proofs.Common.{arith, ◌∙◌}
use Rattle.listing_rules.proofs.Appending.{append-next, append-none}
use Rattle.texts.proofs.append_bytes.Goals as goal

pub loop-byte-preserved : goal.loop-byte-preserved
loop-byte-preserved c =
    rw c.append_byte-t.ensures (append-next c.loop-byte.t c.args.more.now c.loop-byte.byte-index 0 (omega arith) ∙ c.loop-byte.invariant)

pub returns : goal.returns
returns c = append-none c.loop-byte.t c.args.more.now c.loop-byte.byte-index (omega arith) ∙ c.loop-byte.invariant
