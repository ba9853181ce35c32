-- The listings that document 01, "Worked files", shows, and that of a file in which no number is listed twice.
-- Assumes nothing.
use Rattle.std.specs.Prelude.{◌≡◌, List, [], ◌∷◌, ◌++◌, ℕ, ◌<◌, length, take, replicate}
use Rattle.endian_rules.specs.Files.{given, bytes_of}
use Rattle.endian_rules.specs.declared.Order.TheVariants.{Little}
use Rattle.area_rules.specs.Worked.{W, P, B}
use Rattle.listing_rules.specs.Page.{listing_text}
use Rattle.listing_rules.specs.Quoted.{quoted}

-- A file of 1,000 bytes in little order that has all six blocks: W2 = 4, W9 = 3, W10 = 5, W11 = 2, W14 = 6, W15 = 40, W19 = 63, W34 = 288, W35 = 680, W36 = 1,
-- W49 = 8, W50 = 12, W51 = 16, W60 = 752, W63 = 264, W64 = 1.
unfoldable pub little_file : List ℕ
little_file =
    bytes_of Little
    (given 64
    (W 2 4
    ∷ W 9 3
    ∷ W 10 5
    ∷ W 11 2
    ∷ W 14 6
    ∷ W 15 40
    ∷ W 19 63
    ∷ W 34 288
    ∷ W 35 680
    ∷ W 36 1
    ∷ W 49 8
    ∷ W 50 12
    ∷ W 51 16
    ∷ W 60 752
    ∷ W 63 264
    ∷ W 64 1
    ∷ []))
    ++ replicate 744 0

-- the listings of the worked files B and P, of the file in little order, and of every file that is too long
pub record WorkedListings : Type 0 where
  -- "For B, whole:"
  pub b_listing : listing_text B
      ≡ quoted "AREA big\nlines 2 elements 3 bands 2 bytes 2 prefix 16\nDIR 0 256\nNAV 256 128\nDATA 384 56\nAUDIT 440 80\n"
  -- "Little order prints `AREA little`": the numbers are 17 different ones, and the blocks stand by start, which is not the order in which they are named
  pub little_listing : listing_text little_file
      ≡ quoted "AREA little\nlines 3 elements 5 bands 6 bytes 2 prefix 40\nDIR 0 256\nCAL 264 24\nDATA 288 300\nAUDIT 588 80\nNAV 680 72\nAUX 752 248\n"
  -- "A refusal prints one line, as `REFUSED 5 at 34`": P cut to 263 bytes
  pub p_cut_listing : listing_text (take 263 P) ≡ quoted "REFUSED 5 at 34\n"
  -- "longer input prints `TOO LONG`"
  pub too_long_listing : (f : List ℕ) → 65536 < length f → listing_text f ≡ quoted "TOO LONG\n"
