-- `grid::shares_word` meets its contract: no slot before the one that the loop is at has a word of the stretch.
-- Assumes nothing.
use mathlib.Core.Path.{◌≡◌}
use mathlib.Core.Bool.{false}
use Rattle.endian_rules.specs.Words.{word_at}
use Rattle.grid_rules.specs.Rules.{shares}
use Rattle.grid.proofs.shares_word.Given as goal

abbrev pub invariant-loop-j : goal.invariant-loop-j
invariant-loop-j l = shares (word_at l.directory.order l.directory.file.now) l.low l.high l.j ≡ false
