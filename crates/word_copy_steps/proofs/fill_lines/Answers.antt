-- `word_copy_steps::fill_lines` meets its contract: after k turns the first places hold the first k lines. Each has a first word, which is inside the file.
-- Assumes nothing.
use Prim.Native.Nat.{◌+◌, ◌*◌, ◌≤◌}
use native.Mathlib.Omega.{arith}
use lib.ListN.{length}
use Rattle.lists.proofs.Rows.{row-before}
use Rattle.copy_rules.proofs.Runs.{no_line_filled, line_filled}
use Rattle.word_copy_steps.proofs.fill_lines.Goals as goal

pub loop-k-init : goal.loop-k-init
loop-k-init c = no_line_filled _ _ _

pub overflow_mul-at : goal.overflow_mul-at
overflow_mul-at c = omega (arith, c.requires.1.1 c.loop-k.k 0 c.loop-k-test.true c.requires.1.0)

pub overflow_add-at : goal.overflow_add-at
overflow_add-at c = omega (arith, c.requires.1.1 c.loop-k.k 0 c.loop-k-test.true c.requires.1.0)

pub loop-k-preserved : goal.loop-k-preserved
loop-k-preserved c =
    let l = c.args.lines in
    let room-left : c.loop-k.k * l.words + l.words ≤ length c.args.out.now =
    omega (arith, row-before l.words c.loop-k.k l.count c.loop-k-test.true, c.requires.0) in
    line_filled c.loop-k.invariant room-left c.fill_words.ensures
