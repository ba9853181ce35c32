-- `area_directory::Counted::line_length` meets its contract: the counts that passed give the bounds.
-- Assumes nothing.
use native.Mathlib.Omega.{arith}
use Rattle.area_rules.specs.Rules.{word_in}
use Rattle.area_rules.proofs.Counts.{width_bounds, AreaCounted, counted}
use Rattle.area_directory.proofs.Counted.line_length.Goals as goal

pub line_bytes-requires : goal.line_bytes-requires
unfolding word_in
line_bytes-requires c =
    let k : AreaCounted _ = counted _ c.args.self.now.counted in
    omega (arith, width_bounds _ k.w11)
