-- `grid_steps::own_verdict` meets its contract: the header is read where the checks of its place have passed.
-- Assumes nothing.
use mathlib.Core.Path.{sym}
use native.Mathlib.Omega.{arith}
use borrow.Author.Tests.{leb-true}
use Rattle.refusal_rules.proofs.Tables.{judge_pass}
use Rattle.grid_steps.proofs.Directory.own_verdict.Goals as goal

pub size_verdict-requires : goal.size_verdict-requires
size_verdict-requires c =
    let header = leb-true _ _ (judge_pass _ (sym c.in_ok-check-2.ensures)) in
    (c.args.self.room.whole, (c.args.self.room.small, (omega (arith, c.args.self.room.few, c.requires), header)))
