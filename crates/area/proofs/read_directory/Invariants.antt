-- The loop of `area::read_directory`: the first i words are those of the file, and the others are as they were.
-- Assumes nothing.
use mathlib.Core.Path.{◌≡◌}
use mathlib.Core.List.{◌++◌}
use lib.ListN.{drop}
use Rattle.endian_rules.specs.Words.{word_at}
use Rattle.lists.specs.Lists.{list_of}
use Rattle.area.proofs.read_directory.Given as goal

abbrev pub invariant-loop-i : goal.invariant-loop-i
invariant-loop-i l = l.word-items ≡ list_of (word_at l.order l.file) l.i ++ drop l.i l.initial.word-items
