-- The worked AREA files, by computation.
-- Assumes nothing.
use mathlib.Core.Path.{refl}
use Rattle.refusal_rules.specs.Rules.{judge, first, first_fault}
use Rattle.refusal_rules.specs.Tests.{within}
use Rattle.lists.specs.Lists.{list_of}
use Rattle.endian_rules.specs.Numbers.{value, digits, decode, encode, number_at}
use Rattle.endian_rules.specs.Words.{word_at, at_least}
use Rattle.endian_rules.specs.Files.{given, bytes_of}
use Rattle.area_rules.specs.Rules.{directory_of, word_in, area_count_rules, area_shape_rules, area_place_rules, area_described_rules, area_word_rules, area_rules}
use Rattle.area_rules.specs.Opening.{area_layout_of, open_area_told, open_area}
use Rattle.area_rules.specs.Worked.{file_p, P, file_b, B, layout_p, layout_b, file_imager, imager, layout_imager, WorkedArea}

pub worked_area : WorkedArea
unfolding open_area open_area_told area_rules area_word_rules area_described_rules area_count_rules area_shape_rules area_place_rules directory_of word_in area_layout_of first_fault first judge within at_least list_of word_at number_at decode encode value digits given bytes_of file_p P file_b B layout_p layout_b file_imager imager layout_imager
worked_area =
    record {
      sizes = (refl, (refl, refl));
      p_opens = refl;
      b_opens = refl;
      imager_opens = refl;
      imager_prefix = (refl, refl);
      imager_sum = refl;
      imager_below = refl;
      b_interleaved = refl;
    }
