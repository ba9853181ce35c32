-- The worked listings, by computation from the bytes of the files.
-- Assumes nothing.
use mathlib.Core.Path.{refl}
use Rattle.lists.specs.Lists.{keep, list_of}
use Rattle.endian_rules.specs.Files.{given, bytes_of}
use Rattle.endian_rules.specs.Numbers.{value, digits, decode, encode, number_at}
use Rattle.endian_rules.specs.Words.{word_at, at_least}
use Rattle.refusal_rules.specs.Rules.{judge, first, first_fault}
use Rattle.refusal_rules.specs.Tests.{within}
use Rattle.area_rules.specs.Blocks.{next_start}
use Rattle.area_rules.specs.Opening.{area_layout_of, open_area_told, open_area}
use Rattle.area_rules.specs.Rules.{directory_of, word_in, area_count_rules, area_shape_rules, area_place_rules, area_described_rules, area_word_rules, area_rules}
use Rattle.area_rules.specs.Worked.{file_p, P, file_b, B}
use Rattle.listing_rules.specs.Decimal.{decimal_within}
use Rattle.listing_rules.specs.Listing.{put_by_start, by_start, listed}
use Rattle.listing_rules.specs.Page.{labelled, layout_lines, block_line, block_lines, refusal_line, listing_text}
use Rattle.listing_rules.specs.Worked.{little_file, WorkedListings}
use Rattle.listing_rules.proofs.Page.{listing_too_long}

pub worked_listings : WorkedListings
unfolding open_area open_area_told area_rules area_word_rules area_described_rules area_count_rules area_shape_rules area_place_rules directory_of word_in area_layout_of first_fault first judge within at_least list_of word_at number_at decode encode value digits given bytes_of file_p P file_b B little_file next_start keep put_by_start by_start listed decimal_within labelled layout_lines block_line block_lines refusal_line listing_text
worked_listings =
    record {
      b_listing = refl;
      little_listing = refl;
      p_cut_listing = refl;
      too_long_listing = listing_too_long;
    }
