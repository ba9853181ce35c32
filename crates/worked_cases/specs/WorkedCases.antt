-- The cases that document 01, "Worked files", marks to be proved, all of them, each with its text, and some more. They are stated of what the contracts of the public
-- calls cite: opening (open_area, open_grid, open_md), the place of a named value (place_in), the extent of a block (block_span) and of a prefix region (region_span).
-- Assumes nothing.
use Rattle.std.specs.Prelude.{◌≡◌, take}
use Rattle.endian_rules.specs.declared.Order.TheVariants.{Big}
use Rattle.refusal_rules.specs.Answers.{gives, refuses, place, word_place}
use Rattle.area_rules.specs.Opening.{open_area}
use Rattle.area_rules.specs.Worked.{P, file_b, B, layout_p, layout_b, file_imager, imager, layout_imager}
use Rattle.area_rules.specs.declared.Block.TheVariants.{Nav}
use Rattle.area_rules.specs.declared.Region.TheVariants.{Documentation, Calibration, Padding}
use Rattle.grid_rules.specs.Worked.{file_g, G, overlapping_g, layout_g}
use Rattle.grid_rules.specs.Opening.{open_grid}
use Rattle.md_rules.specs.Opening.{open_md}
use Rattle.md_rules.specs.Worked.{file_m, M, layout_m}
use Rattle.layout_rules.specs.declared.Layout.TheVariants.{Area, Grid, Md}
use Rattle.area_rules.specs.declared.SlotOrBand.TheVariants.{Slot}
use Rattle.value_rules.specs.declared.ValueName.TheVariants.{Sample, Point, Field}
use Rattle.value_rules.specs.Reading.{place_in}
use Rattle.span_rules.specs.Spans.{span}
use Rattle.area_part_rules.specs.Blocks.{block_span}
use Rattle.area_part_rules.specs.Regions.{region_span}

pub record WorkedCases : Type 0 where
  -- the layouts are those that opening gives
  pub p_opens : open_area P ≡ gives layout_p
  pub b_opens : open_area B ≡ gives layout_b
  pub g_opens : open_grid Big G 1 ≡ gives layout_g
  pub m_opens : open_md Big M ≡ gives layout_m
  -- "P line 1, element 2, slot 0: byte 262."
  pub p_sample : place_in P (Area layout_p) (Sample 1 2 (Slot 0)) ≡ gives (place 262 1)
  -- "P cut to 263 bytes: 5 at 34."
  pub p_cut : open_area (take 263 P) ≡ refuses 5 34
  -- "B line 1, element 2, slot 1: byte 438."
  pub b_sample : place_in B (Area layout_b) (Sample 1 2 (Slot 1)) ≡ gives (place 438 2)
  -- "B's NAV: 256, length 128."
  pub b_nav : block_span B (Area layout_b) Nav ≡ gives (span 256 128)
  -- "B with W35=384: 5 at 35."
  pub b_nav_in_data : open_area (file_b 384 16) ≡ refuses 5 35
  -- "B with W15=12: 4 at 15."
  pub b_prefix : open_area (file_b 256 12) ≡ refuses 4 15
  -- "For 226 with a validity code alone, W15 is 232 and the padding 2" (document 02, request 4; document 01 does not mark these). In line 1, which starts at
  -- byte 492, documentation is behind the four bytes of the validity code, the padding behind documentation, and the first sample behind the padding.
  pub imager_opens : open_area imager ≡ gives layout_imager
  pub imager_documentation : region_span imager (Area layout_imager) 1 Documentation ≡ gives (span 496 226)
  pub imager_calibration : region_span imager (Area layout_imager) 1 Calibration ≡ refuses 6 0
  pub imager_padding : region_span imager (Area layout_imager) 1 Padding ≡ gives (span 722 2)
  pub imager_sample : place_in imager (Area layout_imager) (Sample 1 0 (Slot 0)) ≡ gives (place 724 1)
  -- W15 as the sum itself is refused
  pub imager_sum : open_area (file_imager 230) ≡ refuses 4 15
  -- "G point (2,3): word 83."
  pub g_point : place_in G (Grid layout_g) (Point 2 3) ≡ gives (word_place 83)
  -- "G's slot 2 set to 83: 5 at 12." A header at word 83 would end past the next free word: the test of overlap is not reached.
  pub g_past_the_end : open_grid Big (file_g 83) 1 ≡ refuses 5 12
  -- G with a second grid that lies inside the first, and breaks no other rule: 5 at 12. Document 01 does not mark this one.
  pub g_overlap : open_grid Big (overlapping_g 19) 1 ≡ refuses 5 12
  -- "G, grid 2: refusal 6."
  pub g_empty : open_grid Big G 2 ≡ refuses 6 0
  -- "M field 3 of (2,3): word 4120."
  pub m_data : place_in M (Md layout_m) (Field 2 3 3) ≡ gives (word_place 4120)
  -- "M field 2 of (2,0): word 4099."
  pub m_row : place_in M (Md layout_m) (Field 2 0 2) ≡ gives (word_place 4099)
  -- "M with word 28 = 4099: 4 at 28."
  pub m_word_28 : open_md Big (file_m 4099) ≡ refuses 4 28
