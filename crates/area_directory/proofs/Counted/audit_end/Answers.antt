-- `area_directory::Counted::audit_end` meets its contract: the rules that passed give the bounds.
-- Assumes nothing.
use native.Mathlib.Omega.{arith}
use Rattle.area_rules.specs.Rules.{word_in}
use Rattle.area_rules.proofs.Counts.{AreaCounted, counted, line_most}
use Rattle.area_directory.proofs.Counted.audit_end.Goals as goal

pub end_of_audit-requires : goal.end_of_audit-requires
unfolding word_in
end_of_audit-requires c =
    let passed = c.args.self.now.counted in
    let k : AreaCounted _ = counted _ passed in
    omega (arith, k, c.line_length.ensures, line_most _ passed c.requires)
