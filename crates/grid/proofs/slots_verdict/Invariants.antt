-- `grid::slots_verdict` meets its contract: all slots before the one that the loop is at have passed.
-- Assumes nothing.
use mathlib.Core.Path.{◌≡◌}
use Rattle.endian_rules.specs.Words.{word_at}
use Rattle.refusal_rules.specs.Rules.{first_fault, Pass}
use Rattle.grid_rules.specs.Rules.{slots_rules}
use Rattle.grid.proofs.slots_verdict.Given as goal

abbrev pub invariant-loop-k : goal.invariant-loop-k
invariant-loop-k l = first_fault (slots_rules (word_at l.directory.order l.directory.file.now) l.directory.grids l.directory.next l.k) ≡ Pass
