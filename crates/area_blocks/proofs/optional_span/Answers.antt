-- `area_blocks::optional_span` meets its contract: any block that is not absent ends behind its start.
-- Assumes nothing.
use native.Mathlib.Omega.{arith}
use Rattle.area_rules.specs.Blocks.{block_starts}
use Rattle.area_rules.proofs.Blocks.{next-after}
use Rattle.area_blocks.proofs.optional_span.Goals as goal

pub overflow_sub-result : goal.overflow_sub-result
overflow_sub-result c =
    let l = c.args.l in
    omega (arith, c.end_of.ensures, next-after c.args.x l.length (block_starts l) (c.requires c.if-x-eq0.false))
