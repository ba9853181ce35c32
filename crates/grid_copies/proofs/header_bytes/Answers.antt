-- `grid_copies::header_bytes` meets its contract: a span that is given is inside the file.
-- Assumes nothing.
use Rattle.grid_part_rules.proofs.Grids.{header_span-inside}
use Rattle.grid_copies.proofs.header_bytes.Goals as goal

pub hand_back-requires : goal.hand_back-requires
hand_back-requires c = rw c.header_span.ensures (header_span-inside _ _)
