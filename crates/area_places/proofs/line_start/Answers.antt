-- `area_places::line_start` meets its contract: the layout that is within bounds is the one that has the line.
-- Assumes nothing.
use mathlib.Core.Path.{sym, ap}
use native.Mathlib.Omega.{arith}
use borrow.Author.Tests.{ltb-true}
use Rattle.refusal_rules.proofs.Tables.{judge_pass}
use Rattle.area_rules.specs.declared.AreaLayout.{AreaLayout}
use Rattle.area_places.proofs.line_start.Goals as goal

pub line_start-requires : goal.line_start-requires
line_start-requires c =
    let line = ltb-true _ _ (judge_pass _ (sym c.in_ok-check.ensures)) in
    omega (arith, line, ap (λ (l : AreaLayout). l.lines) c.in_ok-bounded.ensures.same)
