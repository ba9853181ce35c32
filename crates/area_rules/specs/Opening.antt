-- What opening an AREA file answers: document 01, "What comes back", with the padding length of document 02, request 4.
-- Assumes nothing.
use Rattle.std.specs.Prelude.{Bool, List, [], ◌∷◌, ◌++◌, ℕ, eqb, length}
use Rattle.endian_rules.specs.Words.{order_number}
use Rattle.endian_rules.specs.declared.Order.{Order}
use Rattle.lists.specs.Choices.{pick}
use Rattle.refusal_rules.specs.Rules.{first_fault}
use Rattle.refusal_rules.specs.Answers.{Answer, answered}
use Rattle.refusal_rules.specs.Tests.{same_numbers}
use Rattle.area_rules.specs.Rules.{directory_of, word_in, area_order, padding_length_of, area_word_rules, area_rules}
use Rattle.area_rules.specs.Bands.{second_map}
use Rattle.area_rules.specs.declared.AreaLayout.{AreaLayout}

-- the layout that the words of a file of `told` bytes give: "W9, W10, W11, W14, W15, W19, W20 (0 unless W14 is above 32), W34, W35, W49, W50, W51,
-- W60, W63, W64, and whether W36 is 0", and "the layout gains the padding length" (document 02, request 4)
unfoldable pub area_layout_of : Order → ℕ → (ℕ → ℕ) → AreaLayout
area_layout_of o told W =
    record {
      order = o;
      length = told;
      lines = W 9;
      elements = W 10;
      width = W 11;
      bands = W 14;
      prefix = W 15;
      map = W 19;
      map2 = second_map (W 14) (W 20);
      data_start = W 34;
      nav = W 35;
      documentation = W 49;
      calibration = W 50;
      band_list = W 51;
      padding = padding_length_of W;
      aux = W 60;
      cal = W 63;
      cards = W 64;
      no_validity_code = eqb (W 36) 0;
    }

-- opening a file of `told` bytes by the words of its directory, where W2 reads 4 in the byte order o
unfoldable pub open_area_words : Order → ℕ → (ℕ → ℕ) → Answer AreaLayout
open_area_words o told W = answered (first_fault (area_word_rules told W)) (area_layout_of o told W)

-- opening a file of `told` bytes by the bytes d that it begins with
unfoldable pub open_area_told : ℕ → List ℕ → Answer AreaLayout
open_area_told told d = answered (first_fault (area_rules told d)) (area_layout_of (area_order d) told (word_in (directory_of (area_order d) d)))

-- opening an AREA file that is at hand whole
unfoldable pub open_area : List ℕ → Answer AreaLayout
open_area f = open_area_told (length f) f

-- a number for a test, by which two tests are compared
abbrev pub flag_number : Bool → ℕ
flag_number t = pick t 1 0

-- the fields of an AREA layout about its line prefixes, as numbers
abbrev pub prefix_numbers : AreaLayout → List ℕ
prefix_numbers a =
    a.prefix
    ∷ flag_number a.no_validity_code
    ∷ a.documentation
    ∷ a.calibration
    ∷ a.band_list
    ∷ a.padding
    ∷ []

-- the band map of an AREA layout, the starts of its blocks and its comment cards, as numbers
abbrev pub block_numbers : AreaLayout → List ℕ
block_numbers a =
    a.map
    ∷ a.map2
    ∷ a.data_start
    ∷ a.nav
    ∷ a.aux
    ∷ a.cal
    ∷ a.cards
    ∷ []

-- all fields of an AREA layout as numbers
abbrev pub area_numbers : AreaLayout → List ℕ
area_numbers a =
    order_number a.order
    ∷ a.length
    ∷ a.lines
    ∷ a.elements
    ∷ a.width
    ∷ a.bands
    ∷ (prefix_numbers a ++ block_numbers a)

-- whether two AREA layouts are the same in every field
unfoldable pub same_area : AreaLayout → AreaLayout → Bool
same_area a b = same_numbers (area_numbers a) (area_numbers b)
