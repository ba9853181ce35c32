-- The worked GRID file of document 01, by computation.
-- Assumes nothing.
use mathlib.Core.Path.{refl}
use Rattle.endian_rules.specs.Numbers.{value, digits, decode, encode, number_at}
use Rattle.endian_rules.specs.Words.{word_at, at_least}
use Rattle.endian_rules.specs.Files.{given, bytes_of}
use Rattle.refusal_rules.specs.Rules.{judge, first, first_fault}
use Rattle.refusal_rules.specs.Tests.{within}
use Rattle.grid_rules.specs.Rules.{grid_head_rules, meets, shares, header_rules, size_rules, own_rules, overlap_rule, slot_rules, slots_rules, grid_file_rules, wanted_rules}
use Rattle.grid_rules.specs.Opening.{grid_layout_of, open_grid_words, open_grid}
use Rattle.grid_rules.specs.Worked.{words_g, file_g, G, overlapping_g, layout_g, WorkedGrid}

pub worked_grid : WorkedGrid
unfolding open_grid open_grid_words grid_file_rules grid_head_rules slots_rules slot_rules own_rules header_rules size_rules overlap_rule meets shares wanted_rules grid_layout_of
    first_fault first judge within at_least word_at number_at decode value encode digits bytes_of given words_g file_g G overlapping_g layout_g
worked_grid = record { size = refl; g_opens = refl; overlap = refl; not_overlapping = refl }
