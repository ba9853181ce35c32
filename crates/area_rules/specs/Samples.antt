-- Where the samples of an AREA file are: document 01, "AREA"; and what is known of the layout of an accepted file. "Sample" and "slot" are
-- document 01's terms: the value of one band of an element, and the place of that band within the element.
-- Assumes nothing.
use Rattle.std.specs.Prelude.{◌≡◌, ◌⊎◌, List, ℕ, ◌+◌, ◌*◌, ◌%◌, ◌≤◌, ◌<◌, length}
use Rattle.area_rules.specs.Lines.{prefix_length, padding_length, line_length, area_data_end, audit_end}
use Rattle.area_rules.specs.Accepts.{IsWidth}
use Rattle.area_rules.specs.Rules.{area_order}
use Rattle.area_rules.specs.declared.AreaLayout.{AreaLayout}

-- the line length of a layout
abbrev pub line_length_in : AreaLayout → ℕ
line_length_in a = line_length a.prefix a.bands a.elements a.width

-- the byte after DATA, by a layout
abbrev pub data_end_in : AreaLayout → ℕ
data_end_in a = area_data_end a.data_start a.lines (line_length_in a)

-- the byte after AUDIT, by a layout
abbrev pub audit_end_in : AreaLayout → ℕ
audit_end_in a = audit_end a.data_start a.lines (line_length_in a) a.cards

-- the byte at which line l begins, with its prefix
abbrev pub line_start : AreaLayout → ℕ → ℕ
line_start a l = a.data_start + l * line_length_in a

-- "The sample of line l, element e, slot s (all from 0) is at W34 + l·(line length) + W15 + (e·W14 + s)·W11"
abbrev pub sample_address : AreaLayout → ℕ → ℕ → ℕ → ℕ
sample_address a l e s = line_start a l + a.prefix + (e * a.bands + s) * a.width

-- a file of the layout has a sample of line l, element e, slot s
pub record IsSample (a : AreaLayout) (l e s : ℕ) : Type 0 where
  pub line : l < a.lines
  pub element : e < a.elements
  pub slot : s < a.bands

-- x is where NAV, CAL or AUX may start: after the directory, before the end of the file, and outside DATA and AUDIT
pub record IsBlockStart (a : AreaLayout) (x : ℕ) : Type 0 where
  pub from : 256 ≤ x
  pub signed : x < 2147483648
  pub to : x < a.length
  pub outside : (x < a.data_start) ⊎ (audit_end_in a ≤ x)

-- What is known of the layout of an accepted AREA file: both bounds of every field, that DATA and AUDIT are inside the file, and where the other blocks
-- may start. Every later address rests on this, and not on the rules.
pub record AreaFits (a : AreaLayout) : Type 0 where
  pub lines_from : 1 ≤ a.lines
  pub lines_to : a.lines ≤ 65535
  pub elements_from : 1 ≤ a.elements
  pub elements_to : a.elements ≤ 65535
  pub width : IsWidth a.width
  pub bands_from : 1 ≤ a.bands
  pub bands_to : a.bands ≤ 64
  pub documentation_to : a.documentation ≤ 65535
  pub calibration_to : a.calibration ≤ 65535
  pub band_list_to : a.band_list ≤ 65535
  pub cards_to : a.cards ≤ 65535
  pub prefix : a.prefix ≡ prefix_length a.no_validity_code a.documentation a.calibration a.band_list
  pub padding : a.padding ≡ padding_length a.no_validity_code a.documentation a.calibration a.band_list
  -- a line is a multiple of four
  pub line_four : line_length_in a % 4 ≡ 0
  -- W20 counts only where there are more than 32 bands
  pub second_map : a.bands ≤ 32 → a.map2 ≡ 0
  pub data_start_from : 256 ≤ a.data_start
  pub data_start_signed : a.data_start < 2147483648
  pub room : audit_end_in a ≤ a.length
  -- a block that is not absent (0) starts where it may, and no two start at one place
  pub nav : ¬ (a.nav ≡ 0) → IsBlockStart a a.nav
  pub cal : ¬ (a.cal ≡ 0) → IsBlockStart a a.cal
  pub aux : ¬ (a.aux ≡ 0) → IsBlockStart a a.aux
  pub cal_nav : ¬ (a.cal ≡ 0) → ¬ (a.cal ≡ a.nav)
  pub aux_nav : ¬ (a.aux ≡ 0) → ¬ (a.aux ≡ a.nav)
  pub aux_cal : ¬ (a.aux ≡ 0) → ¬ (a.aux ≡ a.cal)

-- the layout a is one of the file f: its byte order and length are the file's, and what is known of an accepted file's layout holds of it
pub record AreaOf (f : List ℕ) (a : AreaLayout) : Type 0 where
  pub order : a.order ≡ area_order f
  pub size : a.length ≡ length f
  pub fits : AreaFits a
