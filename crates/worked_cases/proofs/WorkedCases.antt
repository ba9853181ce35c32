-- The worked cases of document 01, by computation: openings and their refusals from the bytes; places and extents from the layout, which is fresh.
-- Assumes nothing.
use mathlib.Core.Path.{refl, ap, ◌∙◌}
use Rattle.lists.specs.Lists.{list_of}
use Rattle.endian_rules.specs.Files.{given, bytes_of}
use Rattle.endian_rules.specs.Numbers.{value, digits, decode, encode, number_at}
use Rattle.endian_rules.specs.Words.{word_at, at_least}
use Rattle.refusal_rules.specs.Answers.{and_then}
use Rattle.refusal_rules.specs.Rules.{judge, first, first_fault}
use Rattle.refusal_rules.specs.Tests.{within}
use Rattle.area_rules.specs.Opening as area
use Rattle.area_rules.specs.Blocks.{next_start}
use Rattle.area_rules.specs.Worked.{file_p, P, file_b, B, layout_p, layout_b, file_imager, imager, layout_imager}
use Rattle.area_rules.proofs.Worked.{worked_area}
use Rattle.area_rules.specs.declared.Block.TheVariants.{Nav}
use Rattle.area_rules.specs.declared.Region.TheVariants.{Documentation, Calibration, Padding}
use Rattle.area_rules.specs.Rules as area-rules
use Rattle.grid_rules.specs.Worked.{words_g, file_g, G, layout_g}
use Rattle.grid_rules.proofs.Worked.{worked_grid}
use Rattle.grid_rules.specs.Rules as grid-rules
use Rattle.grid_rules.specs.Opening as grid
use Rattle.md_rules.specs.Fields.{fields_of, field_word}
use Rattle.md_rules.specs.Opening as md
use Rattle.md_rules.specs.Rules as md-rules
use Rattle.md_rules.specs.Worked.{file_m, M, layout_m}
use Rattle.md_rules.proofs.Worked.{worked_md}
use Rattle.layout_rules.proofs.Freshness.{found_fresh}
use Rattle.layout_rules.proofs.OneKind.{fresh_area, fresh_grid, fresh_md}
use Rattle.area_rules.specs.Bounds.{area_bounded}
use Rattle.area_rules.specs.Places.{sample_rules, sample_place}
use Rattle.grid_rules.specs.Bounds.{grid_bounded}
use Rattle.grid_rules.specs.Places.{point_rules, point_place}
use Rattle.md_rules.specs.Bounds.{md_bounded}
use Rattle.md_rules.specs.Places.{part_rules, field_rules, field_place}
use Rattle.value_rules.specs.Places.{place_of}
use Rattle.area_part_rules.specs.Blocks.{block_rules, block_of}
use Rattle.area_part_rules.specs.Regions.{region_rules, region_of}
use Rattle.worked_cases.specs.WorkedCases.{WorkedCases}

pub worked_cases : WorkedCases
unfolding area.open_area area.open_area_told area-rules.area_rules area-rules.area_word_rules area-rules.area_described_rules area-rules.area_count_rules area-rules.area_shape_rules
    area-rules.area_place_rules area-rules.directory_of area-rules.word_in grid.open_grid grid.open_grid_words grid-rules.grid_file_rules grid-rules.grid_head_rules grid-rules.slots_rules
    grid-rules.slot_rules grid-rules.own_rules grid-rules.header_rules grid-rules.size_rules grid-rules.overlap_rule grid-rules.meets grid-rules.shares
    grid-rules.wanted_rules md.open_md md.open_md_words md-rules.md_rules md-rules.md_count_rules md-rules.md_sum_rules md-rules.md_fixed_rules md-rules.md_end_rules first_fault first
    judge within at_least list_of word_at number_at decode encode value digits given bytes_of next_start area_bounded grid_bounded md_bounded sample_rules
    sample_place point_rules point_place part_rules field_rules field_place fields_of field_word place_of block_rules block_of region_rules region_of file_p P file_b B layout_p layout_b file_imager imager layout_imager words_g file_g G layout_g file_m
    layout_m
worked_cases =
    let fresh-P = (fresh_area P layout_p).1 worked_area.p_opens in
    let fresh-B = (fresh_area B layout_b).1 worked_area.b_opens in
    let fresh-imager = (fresh_area imager layout_imager).1 worked_area.imager_opens in
    let fresh-G = (fresh_grid G layout_g).1 worked_grid.g_opens in
    let fresh-M = (fresh_md M layout_m).1 worked_md.m_opens in
    record {
      p_opens = worked_area.p_opens;
      b_opens = worked_area.b_opens;
      g_opens = worked_grid.g_opens;
      m_opens = worked_md.m_opens;
      p_sample = found_fresh _ _ _ fresh-P ∙ refl;
      p_cut = refl;
      b_sample = found_fresh _ _ _ fresh-B ∙ refl;
      b_nav = ap (λ x. and_then x (λ a. block_of a Nav)) (found_fresh _ _ _ fresh-B) ∙ refl;
      b_nav_in_data = refl;
      b_prefix = refl;
      imager_opens = worked_area.imager_opens;
      imager_documentation = ap (λ x. and_then x (λ a. region_of a 1 Documentation)) (found_fresh _ _ _ fresh-imager) ∙ refl;
      imager_calibration = ap (λ x. and_then x (λ a. region_of a 1 Calibration)) (found_fresh _ _ _ fresh-imager) ∙ refl;
      imager_padding = ap (λ x. and_then x (λ a. region_of a 1 Padding)) (found_fresh _ _ _ fresh-imager) ∙ refl;
      imager_sample = found_fresh _ _ _ fresh-imager ∙ refl;
      imager_sum = worked_area.imager_sum;
      g_point = found_fresh _ _ _ fresh-G ∙ refl;
      g_past_the_end = refl;
      g_overlap = worked_grid.overlap;
      g_empty = refl;
      m_data = found_fresh _ _ _ fresh-M ∙ refl;
      m_row = found_fresh _ _ _ fresh-M ∙ refl;
      m_word_28 = refl;
    }
