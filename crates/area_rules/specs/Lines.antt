-- Lines of an AREA file, as sums of the directory's numbers: document 01, "AREA", and for the lengths of a line prefix document 02, request 4.
-- Assumes nothing.
use Rattle.std.specs.Prelude.{Bool, List, [], ◌∷◌, ℕ, ◌+◌, ◌-◌, ◌*◌, ◌/◌}
use Rattle.lists.specs.Choices.{pick}
use Rattle.lists.specs.Segments.{total}

-- the bytes of the validity code: "4 bytes if W36 is not 0, else none"; `noCode` is whether W36 is 0
abbrev pub validity_length : Bool → ℕ
validity_length noCode = pick noCode 0 4

-- the lengths of the regions that the directory gives: "Regions of a line prefix, in order: validity code .., documentation W49, calibration W50, band list
-- W51"; the padding lies behind them
abbrev pub given_regions : Bool → ℕ → ℕ → ℕ → List ℕ
given_regions noCode w49 w50 w51 = validity_length noCode ∷ w49 ∷ w50 ∷ w51 ∷ []

-- a length "rounded up to a multiple of four" (document 02, request 4)
abbrev pub rounded_up : ℕ → ℕ
rounded_up n = (n + 3) / 4 * 4

-- the prefix length: "W15 must be the sum rounded up to a multiple of four" (document 02, request 4)
abbrev pub prefix_length : Bool → ℕ → ℕ → ℕ → ℕ
prefix_length noCode w49 w50 w51 = rounded_up (total (given_regions noCode w49 w50 w51))

-- the padding length: "what is left over is padding behind the band list" (document 02, request 4)
abbrev pub padding_length : Bool → ℕ → ℕ → ℕ → ℕ
padding_length noCode w49 w50 w51 = prefix_length noCode w49 w50 w51 - total (given_regions noCode w49 w50 w51)

-- "Line length = W15 + W14·W10·W11"
abbrev pub line_length : ℕ → ℕ → ℕ → ℕ → ℕ
line_length w15 w14 w10 w11 = w15 + w14 * w10 * w11

-- the byte after DATA: "DATA starts at byte W34 and has W9 lines", of so many bytes each
abbrev pub area_data_end : ℕ → ℕ → ℕ → ℕ
area_data_end w34 w9 line = w34 + w9 * line

-- the byte after AUDIT: "AUDIT is 80·W64 bytes straight after DATA"
abbrev pub audit_end : ℕ → ℕ → ℕ → ℕ → ℕ
audit_end w34 w9 line w64 = area_data_end w34 w9 line + 80 * w64
