-- The worked file G of document 01: 336 bytes, big order, n = 2, offsets 14 and -1, next free word 84, grid 1 of 2 rows, 3 columns, size 6.
-- The cases that document 01 marks stand together in worked_cases.
-- Assumes nothing.
use Rattle.std.specs.Prelude.{◌≡◌, List, [], ◌∷◌, ◌++◌, ℕ, length}
use Rattle.endian_rules.specs.Files.{given, bytes_of}
use Rattle.endian_rules.specs.declared.Order.TheVariants.{Big}
use Rattle.refusal_rules.specs.Answers.{gives, refuses}
use Rattle.grid_rules.specs.Opening.{open_grid}
use Rattle.grid_rules.specs.declared.GridLayout.{GridLayout}

-- the words of G that are not 0, each by its number, but for the offset of grid 2
unfoldable pub words_g : ℕ → List (ℕ × ℕ)
words_g offset2 =
    (10, 2)
    ∷ (11, 14)
    ∷ (12, offset2)
    ∷ (13, 84)
    ∷ (14, 6)
    ∷ (15, 2)
    ∷ (16, 3)
    ∷ []

-- G, but for the offset of grid 2
unfoldable pub file_g : ℕ → List ℕ
file_g offset2 = bytes_of Big (given 84 (words_g offset2))

-- the worked file G
unfoldable pub G : List ℕ
G = file_g 4294967295

-- G with the header of a grid of one point at word 19, which is inside grid 1, and with an offset of grid 2
unfoldable pub overlapping_g : ℕ → List ℕ
overlapping_g offset2 = bytes_of Big (given 84 (words_g offset2 ++ (19, 1) ∷ (20, 1) ∷ (21, 1) ∷ []))

-- the layout of grid 1 of G
unfoldable pub layout_g : GridLayout
layout_g = record { order = Big; length = 336; number = 1; offset = 14; rows = 2; columns = 3 }

-- G has the size that document 01 gives, and opening grid 1 gives its layout
pub record WorkedGrid : Type 0 where
  pub size : length G ≡ 336
  pub g_opens : open_grid Big G 1 ≡ gives layout_g
  -- a grid at word 19 would share words with grid 1, and is refused for that alone: without it the file opens
  pub overlap : open_grid Big (overlapping_g 19) 1 ≡ refuses 5 12
  pub not_overlapping : open_grid Big (overlapping_g 4294967295) 1 ≡ gives layout_g
