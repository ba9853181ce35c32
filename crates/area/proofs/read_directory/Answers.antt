-- `area::read_directory` meets its contract: one more word is the next of the list.
-- Assumes nothing.
use native.Mathlib.Omega.{arith}
use Rattle.endian_rules.specs.Words.{word_at}
use Rattle.lists.proofs.Filled.{filled_more}
use Rattle.area.proofs.read_directory.Goals as goal

pub loop-i-preserved : goal.loop-i-preserved
loop-i-preserved c =
    let l = c.loop-i in
    let a = c.args in
    rw (l.invariant, c.read_word.ensures) (filled_more (word_at a.order a.file.now) l.i _ 0 (omega arith))
