-- Telling the free stretches, deleting and adding, computed on the worked file G of document 01: 84 words, n = 2, grid 1 at word 14 with 6 points, and no grid 2.
-- Assumes nothing.
use mathlib.Core.Path.{◌≡◌, refl}
use mathlib.Core.List.{List, [], ◌∷◌}
use Prim.Native.Nat.{ℕ}
use lib.IntN.{pos}
use lib.ListN.{replicate}
use Rattle.lists.specs.Lists.{lines_of}
use Rattle.lists.specs.Lowest.{lowest}
use Rattle.endian_rules.specs.Numbers.{value, digits, decode, encode, number_at}
use Rattle.endian_rules.specs.Words.{word_at, at_least}
use Rattle.endian_rules.specs.Files.{given, bytes_of}
use Rattle.endian_rules.specs.declared.Order.TheVariants.{Big}
use Rattle.refusal_rules.specs.Rules.{judge, first, first_fault}
use Rattle.refusal_rules.specs.Answers.{gives, refuses}
use Rattle.refusal_rules.specs.Tests.{within}
use Rattle.grid_rules.specs.Rules.{grid_head_rules, meets, shares, header_rules, size_rules, own_rules, overlap_rule, slot_rules, slots_rules, grid_file_rules, wanted_rules}
use Rattle.grid_rules.specs.Worked.{words_g, file_g, G}
use Rattle.extent_rules.specs.Stretches.{extent, slot_extent, highest_end, no_grid_has, stretch_starts, run_from, stretch_at, free_stretches}
use Rattle.extent_rules.specs.Rooms.{fits_at, lowest_address}
use Rattle.extent_rules.specs.declared.Extent.{Extent}
use Rattle.grid_update_rules.specs.Updates.{set_word, stretches_of, next_free_set, stretch_rules, tell_stretches, delete_rules, without_grid, delete_grid, lowest_empty, add_rules, grid_bytes, grid_put, with_grid, add_grid}

-- a table of three pairs, which is n + 1
unfoldable pub table : List Extent
table = replicate 3 (extent 7 7)

-- G without its grid: the slot is -1, and the next free word is 14, which is 12 + n. The grid's words are as they were.
unfoldable pub emptied : List ℕ
emptied =
    bytes_of Big
    (given 84
    ((10, 2)
    ∷ (11, 4294967295)
    ∷ (12, 4294967295)
    ∷ (13, 14)
    ∷ (14, 6)
    ∷ (15, 2)
    ∷ (16, 3)
    ∷ []))

-- what the calls answer on G, and on what deleting its grid leaves
pub record WorkedChanges : Type 0 where
  -- the grid of G takes every word from 12 + n on
  pub no_stretch : stretches_of Big G ≡ []
  pub none_told : tell_stretches Big G table ≡ (gives 0, table)
  -- without it all 70 words from 14 on are one stretch, which stands in the first place of the table; the other places stay
  pub deleted : delete_grid Big G 1 table ≡ (gives 1, (emptied, extent 14 70 ∷ extent 7 7 ∷ extent 7 7 ∷ []))
  pub told : tell_stretches Big emptied table ≡ (gives 1, extent 14 70 ∷ extent 7 7 ∷ extent 7 7 ∷ [])
  -- two pairs are too few for telling them
  pub not_told : tell_stretches Big emptied (extent 7 7 ∷ extent 7 7 ∷ []) ≡ (refuses 10 0, extent 7 7 ∷ extent 7 7 ∷ [])
  -- grid 2 is absent, G has no grid 3, and two pairs are too few: file and table are as they were
  pub absent : delete_grid Big G 2 table ≡ (refuses 6 0, (G, table))
  pub no_such : delete_grid Big G 3 table ≡ (refuses 7 0, (G, table))
  pub short : delete_grid Big G 1 (extent 7 7 ∷ extent 7 7 ∷ []) ≡ (refuses 10 0, (G, extent 7 7 ∷ extent 7 7 ∷ []))
  -- a grid of 2 rows and 3 columns, all zero, is put where grid 1 was, and the file is G again
  pub put_back : add_grid Big emptied (replicate 256 0) 2 3 (replicate 6 (pos 0)) table
      ≡ (gives (record { number = 1; address = 14; stretches = 0 }), (G, table))
  -- one of a single point leaves five words, from 79 on
  pub added : (add_grid Big emptied (replicate 256 0) 1 1 (pos 5 ∷ []) table).0
      ≡ gives (record { number = 1; address = 14; stretches = 1 })
  pub left : (add_grid Big emptied (replicate 256 0) 1 1 (pos 5 ∷ []) table).1.1 ≡ extent 79 5 ∷ extent 7 7 ∷ extent 7 7 ∷ []
  -- G itself has an empty slot, and no room
  pub no_room : add_grid Big G (replicate 256 0) 1 1 (pos 5 ∷ []) table ≡ (refuses 14 0, (G, table))

pub worked_changes : WorkedChanges
unfolding tell_stretches stretch_rules delete_grid delete_rules without_grid add_grid add_rules with_grid grid_put grid_bytes lowest_empty set_word next_free_set table emptied
    lowest_address fits_at free_stretches stretch_at run_from stretch_starts no_grid_has highest_end slot_extent lowest lines_of
    grid_file_rules grid_head_rules slots_rules slot_rules own_rules header_rules size_rules overlap_rule meets shares wanted_rules
    first_fault first judge within at_least word_at number_at decode value encode digits bytes_of given words_g file_g G
worked_changes =
    record {
      no_stretch = refl;
      none_told = refl;
      deleted = refl;
      told = refl;
      not_told = refl;
      absent = refl;
      no_such = refl;
      short = refl;
      put_back = refl;
      added = refl;
      left = refl;
      no_room = refl;
    }
