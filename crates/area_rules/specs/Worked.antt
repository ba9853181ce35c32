-- The worked files P and B of document 01, a file for the imager prefix of document 02, request 4, and their layouts. "What isn't given is 0, or what its rule
-- asks." The cases that document 01 marks stand together in worked_cases.
-- Assumes nothing.
use Rattle.std.specs.Prelude.{◌≡◌, List, [], ◌∷◌, ◌++◌, true, false, ℕ, ◌-◌, length, replicate}
use Rattle.endian_rules.specs.Files.{given, bytes_of}
use Rattle.endian_rules.specs.declared.Order.TheVariants.{Big}
use Rattle.refusal_rules.specs.Answers.{gives, refuses}
use Rattle.area_rules.specs.Lines.{prefix_length, padding_length}
use Rattle.area_rules.specs.Opening.{open_area}
use Rattle.area_rules.specs.Samples.{sample_address}
use Rattle.area_rules.specs.declared.AreaLayout.{AreaLayout}

-- word k, counted from 1, is n: how the worked files give their words
abbrev pub W : ℕ → ℕ → ℕ × ℕ
W k n = (k - 1, n)

-- P, with so many bytes after its directory: big, W2 = 4, W9 = 2, W10 = 4, W11 = 1, W14 = 1, W34 = 256
unfoldable pub file_p : ℕ → List ℕ
file_p rest = bytes_of Big (given 64 (W 2 4 ∷ W 9 2 ∷ W 10 4 ∷ W 11 1 ∷ W 14 1 ∷ W 34 256 ∷ [])) ++ replicate rest 0

-- P has 264 bytes
unfoldable pub P : List ℕ
P = file_p 8

-- B, but for W35 and W15: 520 bytes, big, W2 = 4, W9 = 2, W10 = 3, W11 = 2, W14 = 2, W36 = 1, W49 = 8, W51 = 4, W34 = 384, W64 = 1
unfoldable pub file_b : ℕ → ℕ → List ℕ
file_b w35 w15 =
    bytes_of Big
    (given 64
    (W 2 4
    ∷ W 9 2
    ∷ W 10 3
    ∷ W 11 2
    ∷ W 14 2
    ∷ W 15 w15
    ∷ W 34 384
    ∷ W 35 w35
    ∷ W 36 1
    ∷ W 49 8
    ∷ W 51 4
    ∷ W 64 1
    ∷ []))
    ++ replicate 264 0

-- B has W35 = 256 and W15 = 16
unfoldable pub B : List ℕ
B = file_b 256 16

-- the layout of P
unfoldable pub layout_p : AreaLayout
layout_p =
    record {
      order = Big;
      length = 264;
      lines = 2;
      elements = 4;
      width = 1;
      bands = 1;
      prefix = 0;
      map = 0;
      map2 = 0;
      data_start = 256;
      nav = 0;
      documentation = 0;
      calibration = 0;
      band_list = 0;
      padding = 0;
      aux = 0;
      cal = 0;
      cards = 0;
      no_validity_code = true;
    }

-- the layout of B
unfoldable pub layout_b : AreaLayout
layout_b =
    record {
      order = Big;
      length = 520;
      lines = 2;
      elements = 3;
      width = 2;
      bands = 2;
      prefix = 16;
      map = 0;
      map2 = 0;
      data_start = 384;
      nav = 256;
      documentation = 8;
      calibration = 0;
      band_list = 4;
      padding = 0;
      aux = 0;
      cal = 0;
      cards = 1;
      no_validity_code = false;
    }

-- A file with the prefix of document 02, request 4, but for W15: 728 bytes, big, W2 = 4, W9 = 2, W10 = 4, W11 = 1, W14 = 1, W34 = 256, W36 = 1, W49 = 226.
-- Each of its two lines has "226 with a validity code alone", and four samples.
unfoldable pub file_imager : ℕ → List ℕ
file_imager w15 =
    bytes_of Big
    (given 64
    (W 2 4
    ∷ W 9 2
    ∷ W 10 4
    ∷ W 11 1
    ∷ W 14 1
    ∷ W 15 w15
    ∷ W 34 256
    ∷ W 36 1
    ∷ W 49 226
    ∷ []))
    ++ replicate 472 0

-- "W15 is 232 and the padding 2"
unfoldable pub imager : List ℕ
imager = file_imager 232

-- the layout of the imager file
unfoldable pub layout_imager : AreaLayout
layout_imager =
    record {
      order = Big;
      length = 728;
      lines = 2;
      elements = 4;
      width = 1;
      bands = 1;
      prefix = 232;
      map = 0;
      map2 = 0;
      data_start = 256;
      nav = 0;
      documentation = 226;
      calibration = 0;
      band_list = 0;
      padding = 2;
      aux = 0;
      cal = 0;
      cards = 0;
      no_validity_code = false;
    }

-- they have the sizes that document 01 gives, or that are said above, and these layouts
pub record WorkedArea : Type 0 where
  pub sizes : (length P ≡ 264) × ((length B ≡ 520) × (length imager ≡ 728))
  pub p_opens : open_area P ≡ gives layout_p
  pub b_opens : open_area B ≡ gives layout_b
  pub imager_opens : open_area imager ≡ gives layout_imager
  -- "For 226 with a validity code alone, W15 is 232 and the padding 2."
  pub imager_prefix : (prefix_length false 226 0 0 ≡ 232) × (padding_length false 226 0 0 ≡ 2)
  -- so W15 is neither the sum nor the multiple of four below it, which is also 226 rounded up without the validity code
  pub imager_sum : open_area (file_imager 230) ≡ refuses 4 15
  pub imager_below : open_area (file_imager 228) ≡ refuses 4 15
  -- bands are interleaved: element 1 of slot 0 comes behind both slots of element 0
  pub b_interleaved : sample_address layout_b 0 1 0 ≡ 404
