-- Files that document 01 alone accepts. It knows no padding: "validity code .., documentation W49, calibration W50, band list W51, each a multiple of four. Prefix
-- length W15 is their sum." Document 02, request 4, takes another rule of the prefix in place of that one, and says of these files: "Samples in files accepted
-- before stay at their addresses". Each of them is accepted, to the layout that document 01 gives, with a padding of 0, and every sample, region and block is at
-- document 01's address. They are the accepted files whose W49, W50 and W51 are multiples of four.
-- Assumes nothing.
use mathlib.Core.Path.{◌≡◌, refl, sym, subst, ◌∙◌}
use mathlib.Core.Bool.{not}
use mathlib.Core.Logic.{◌↔◌}
use mathlib.Core.List.{List, [], ◌∷◌, ◌++◌}
use Prim.Native.Nat.{ℕ, ◌+◌, ◌*◌, ◌%◌}
use native.Mathlib.Omega.{arith}
use lib.Dec.{leb, eqb}
use lib.ListN.{length}
use Rattle.endian_rules.specs.Numbers.{value, digits, decode, encode, number_at}
use Rattle.endian_rules.specs.Words.{word_at, at_least}
use Rattle.endian_rules.specs.Files.{given, bytes_of}
use Rattle.endian_rules.specs.declared.Order.{Order}
use Rattle.endian_rules.specs.declared.Order.TheVariants.{Big, Little}
use Rattle.lists.specs.Choices.{either}
use Rattle.lists.specs.Lists.{list_of}
use Rattle.refusal_rules.specs.Rules.{Rule, rule, judge, first, first_fault, Hold}
use Rattle.refusal_rules.specs.Tests.{within}
use Rattle.refusal_rules.specs.Answers.{Answer, gives, refuses, answered}
use Rattle.refusal_rules.proofs.Answers.{value_exactly}
use Rattle.refusal_rules.proofs.Exactness.{eq_exactly}
use Rattle.refusal_rules.proofs.Tables.{hold-append}
use Rattle.area_rules.specs.Bands.{second_map}
use Rattle.area_rules.specs.Lines.{validity_length}
use Rattle.area_rules.specs.Rules.{directory_of, word_in, reads_four, area_order, multiple_of_four, prefix_length_of, padding_length_of, line_length_of, area_count_rules, area_shape_rules, area_place_rules, area_described_rules, area_word_rules, area_rules}
use Rattle.area_rules.specs.Opening.{area_layout_of, open_area_told, open_area}
use Rattle.area_rules.specs.Samples.{line_start, sample_address}
use Rattle.area_rules.specs.Blocks.{block_start, block_end, next_start, region_length, region_start}
use Rattle.area_rules.specs.Worked.{file_imager, imager}
use Rattle.area_rules.specs.declared.AreaLayout.{AreaLayout}
use Rattle.area_rules.specs.declared.Block.{Block}
use Rattle.area_rules.specs.declared.Block.TheVariants.{Dir, Nav, Cal, Aux, Data, Audit}
use Rattle.area_rules.specs.declared.Region.TheVariants.{Validity, Documentation, Calibration, BandList}
use Rattle.area_rules.proofs.Prefixes.{rounded_itself, code_four}

-- ---- the rules of document 01 alone

-- the bytes of a validity code that the words give
abbrev code_length : (ℕ → ℕ) → ℕ
code_length W = validity_length (eqb (W 36) 0)

-- "W49, W50, W51 as multiples of four; W15; line length (place 10); W61 zero if W60 is zero"
unfoldable pub unpadded_shape_rules : (ℕ → ℕ) → List Rule
unpadded_shape_rules W =
    rule (multiple_of_four (W 49)) 4 49
    ∷ rule (multiple_of_four (W 50)) 4 50
    ∷ rule (multiple_of_four (W 51)) 4 51
    ∷ rule (eqb (W 15) (code_length W + W 49 + W 50 + W 51)) 4 15
    ∷ rule (multiple_of_four (line_length_of W)) 4 10
    ∷ rule (either (not (eqb (W 60) 0)) (eqb (W 61) 0)) 4 61
    ∷ []

-- all checks of document 01 alone; those of length, W2, counts and places are the ones of `area_rules`
unfoldable pub unpadded_rules : ℕ → List ℕ → List Rule
unpadded_rules told d =
    rule (leb 256 told) 1 0
    ∷ rule (leb 256 (length d)) 1 0
    ∷ rule (either (reads_four Big d) (reads_four Little d)) 2 2
    ∷ (let W : ℕ → ℕ = word_in (directory_of (area_order d) d) in (area_count_rules W ++ unpadded_shape_rules W) ++ area_place_rules told W)

-- the layout of document 01 alone, as one with a padding of 0
unfoldable pub unpadded_layout_of : Order → ℕ → (ℕ → ℕ) → AreaLayout
unpadded_layout_of o told W =
    record {
      order = o;
      length = told;
      lines = W 9;
      elements = W 10;
      width = W 11;
      bands = W 14;
      prefix = W 15;
      map = W 19;
      map2 = second_map (W 14) (W 20);
      data_start = W 34;
      nav = W 35;
      documentation = W 49;
      calibration = W 50;
      band_list = W 51;
      padding = 0;
      aux = W 60;
      cal = W 63;
      cards = W 64;
      no_validity_code = eqb (W 36) 0;
    }

-- opening a file by document 01 alone
unfoldable pub open_unpadded : List ℕ → Answer AreaLayout
open_unpadded f = answered (first_fault (unpadded_rules (length f) f)) (unpadded_layout_of (area_order f) (length f) (word_in (directory_of (area_order f) f)))

-- ---- what document 01 alone accepts

-- W49, W50 and W51 are multiples of four
pub record Fourfold (w49 w50 w51 : ℕ) : Type 0 where
  pub documentation : w49 % 4 ≡ 0
  pub calibration : w50 % 4 ≡ 0
  pub band_list : w51 % 4 ≡ 0

module _ (W : ℕ → ℕ) where
  -- where W49, W50 and W51 are multiples of four, the prefix length is the sum itself
  fourfold_prefix : Fourfold (W 49) (W 50) (W 51) → prefix_length_of W ≡ code_length W + W 49 + W 50 + W 51
  fourfold_prefix f =
      sym (rounded_itself _ (omega (arith, f.documentation, f.calibration, f.band_list, code_four (eqb (W 36) 0)))) ∙ omega arith

  -- where they are multiples of four, the padding is 0
  fourfold_padding : Fourfold (W 49) (W 50) (W 51) → padding_length_of W ≡ 0
  fourfold_padding f = omega (arith, fourfold_prefix f)

  -- where they are multiples of four, the layout of document 01 alone is the one of `area_layout_of`
  fourfold_layout : (o : Order) (told : ℕ) → Fourfold (W 49) (W 50) (W 51) → unpadded_layout_of o told W ≡ area_layout_of o told W
  unfolding unpadded_layout_of area_layout_of
  fourfold_layout o told f = rw (fourfold_padding f)

  -- document 01's rules of the words that follow from others hold exactly where W49, W50 and W51 are multiples of four and those of request 4 hold
  shapes_exactly : Hold (unpadded_shape_rules W) ↔ (Fourfold (W 49) (W 50) (W 51) × Hold (area_shape_rules W))
  unfolding unpadded_shape_rules area_shape_rules
  shapes_exactly =
      let w15 = eq_exactly (W 15) (prefix_length_of W) in
      let sum = eq_exactly (W 15) (code_length W + W 49 + W 50 + W 51) in (
        λ h.
            let f : Fourfold (W 49) (W 50) (W 51) = record {
              documentation = (eq_exactly (W 49 % 4) 0).sound h.0;
              calibration = (eq_exactly (W 50 % 4) 0).sound h.1.0;
              band_list = (eq_exactly (W 51 % 4) 0).sound h.1.1.0;
            } in
            (f, (w15.complete (sum.sound h.1.1.1.0 ∙ sym (fourfold_prefix f)), h.1.1.1.1)),
        λ p.
            let f = p.0 in (
              (eq_exactly (W 49 % 4) 0).complete f.documentation,
              (
                (eq_exactly (W 50 % 4) 0).complete f.calibration,
                ((eq_exactly (W 51 % 4) 0).complete f.band_list, (sum.complete (w15.sound p.1.0 ∙ fourfold_prefix f), p.1.1)),
              ),
            ),
      )

-- the words of a file, in its byte order
abbrev pub words_of : List ℕ → ℕ → ℕ
words_of f = word_in (directory_of (area_order f) f)

-- all rules of document 01 alone hold exactly where W49, W50 and W51 are multiples of four and all rules of `area_rules` hold
rules_exactly : (told : ℕ) (d : List ℕ) → Hold (unpadded_rules told d) ↔ (Fourfold (words_of d 49) (words_of d 50) (words_of d 51) × Hold (area_rules told d))
unfolding unpadded_rules area_rules area_word_rules area_described_rules
rules_exactly told d =
    let W : ℕ → ℕ = words_of d in
    let all = hold-append (area_count_rules W ++ area_shape_rules W) (area_place_rules told W) in
    let described = hold-append (area_count_rules W) (area_shape_rules W) in
    let all01 = hold-append (area_count_rules W ++ unpadded_shape_rules W) (area_place_rules told W) in
    let described01 = hold-append (area_count_rules W) (unpadded_shape_rules W) in (
      λ h.
          let (rest, places) = all01.0 h.1.1.1 in
          let (counts, shapes) = described01.0 rest in
          let (f, padded) = (shapes_exactly W).0 shapes in
          (f, (h.0, (h.1.0, (h.1.1.0, all.1 (described.1 (counts, padded), places))))),
      λ p.
          let (f, h) = p in
          let (rest, places) = all.0 h.1.1.1 in
          let (counts, shapes) = described.0 rest in
          (h.0, (h.1.0, (h.1.1.0, all01.1 (described01.1 (counts, (shapes_exactly W).1 (f, shapes)), places)))),
    )

-- document 01 alone accepts exactly the accepted files whose W49, W50 and W51 are multiples of four, to the same layout
pub unpadded_exactly : (f : List ℕ) (l : AreaLayout)
    → (open_unpadded f ≡ gives l) ↔ ((open_area f ≡ gives l) × Fourfold l.documentation l.calibration l.band_list)
unfolding open_unpadded open_area open_area_told area_layout_of
unpadded_exactly f l =
    let W : ℕ → ℕ = words_of f in
    let o : Order = area_order f in
    let x = value_exactly (unpadded_rules (length f) f) (unpadded_layout_of o (length f) W) l in
    let y = value_exactly (area_rules (length f) f) (area_layout_of o (length f) W) l in (
      λ e.
          let (hold, same) = x.0 e in
          let (four, now) = (rules_exactly (length f) f).0 hold in
          let same' : l ≡ area_layout_of o (length f) W = same ∙ fourfold_layout W o (length f) four in
          (y.1 (now, same'), subst (λ (m : AreaLayout). Fourfold m.documentation m.calibration m.band_list) (sym same') four),
      λ p.
          let (hold, same) = y.0 p.0 in
          let four : Fourfold (W 49) (W 50) (W 51) = subst (λ (m : AreaLayout). Fourfold m.documentation m.calibration m.band_list) same p.1 in
          x.1 ((rules_exactly (length f) f).1 (four, hold), same ∙ sym (fourfold_layout W o (length f) four)),
    )

-- ---- where document 01 alone has samples, regions and blocks

-- the byte at which a block starts, by document 01
abbrev pub unpadded_block_start : (ℕ → ℕ) → Block → ℕ
unpadded_block_start W Dir = 0
unpadded_block_start W Nav = W 35
unpadded_block_start W Cal = W 63
unpadded_block_start W Aux = W 60
unpadded_block_start W Data = W 34
unpadded_block_start W Audit = W 34 + W 9 * (W 15 + W 14 * W 10 * W 11)

-- the byte after a block of a file of `told` bytes, by document 01
abbrev pub unpadded_block_end : ℕ → (ℕ → ℕ) → Block → ℕ
unpadded_block_end told W Dir = 256
unpadded_block_end told W Nav = next_start (W 35) told (W 35 ∷ W 63 ∷ W 60 ∷ W 34 ∷ [])
unpadded_block_end told W Cal = next_start (W 63) told (W 35 ∷ W 63 ∷ W 60 ∷ W 34 ∷ [])
unpadded_block_end told W Aux = next_start (W 60) told (W 35 ∷ W 63 ∷ W 60 ∷ W 34 ∷ [])
unpadded_block_end told W Data = W 34 + W 9 * (W 15 + W 14 * W 10 * W 11)
unpadded_block_end told W Audit = W 34 + W 9 * (W 15 + W 14 * W 10 * W 11) + 80 * W 64

-- every part of a file of `told` bytes with words W and layout l is where document 01 has it, and there is no padding
pub record UnpaddedPlaces (told : ℕ) (W : ℕ → ℕ) (l : AreaLayout) : Type 0 where
  pub padding : l.padding ≡ 0
  pub samples : (i e s : ℕ) → sample_address l i e s ≡ W 34 + i * (W 15 + W 14 * W 10 * W 11) + W 15 + (e * W 14 + s) * W 11
  pub validity : (i : ℕ) → (region_start l i Validity ≡ line_start l i) × (region_length l Validity ≡ validity_length (eqb (W 36) 0))
  pub documentation : (i : ℕ)
      → (region_start l i Documentation ≡ line_start l i + validity_length (eqb (W 36) 0)) × (region_length l Documentation ≡ W 49)
  pub calibration : (i : ℕ)
      → (region_start l i Calibration ≡ line_start l i + validity_length (eqb (W 36) 0) + W 49) × (region_length l Calibration ≡ W 50)
  pub band_list : (i : ℕ)
      → (region_start l i BandList ≡ line_start l i + validity_length (eqb (W 36) 0) + W 49 + W 50) × (region_length l BandList ≡ W 51)
  pub lines : (i : ℕ) → line_start l i ≡ W 34 + i * (W 15 + W 14 * W 10 * W 11)
  pub blocks : (b : Block) → (block_start l b ≡ unpadded_block_start W b) × (block_end l b ≡ unpadded_block_end told W b)

module _ (o : Order) (told : ℕ) (W : ℕ → ℕ) where
  blocks_there : (b : Block)
      → (block_start (unpadded_layout_of o told W) b ≡ unpadded_block_start W b) × (block_end (unpadded_layout_of o told W) b ≡ unpadded_block_end told W b)
  unfolding unpadded_layout_of
  blocks_there Dir = (refl, refl)
  blocks_there Nav = (refl, refl)
  blocks_there Cal = (refl, refl)
  blocks_there Aux = (refl, refl)
  blocks_there Data = (refl, refl)
  blocks_there Audit = (refl, refl)

  -- the parts of the layout that document 01 alone gives are there
  layout_places : UnpaddedPlaces told W (unpadded_layout_of o told W)
  unfolding unpadded_layout_of
  layout_places =
      record {
        padding = refl;
        samples = λ i e s. refl;
        validity = λ i. (omega arith, refl);
        documentation = λ i. (omega arith, refl);
        calibration = λ i. (omega arith, refl);
        band_list = λ i. (omega arith, refl);
        lines = λ i. refl;
        blocks = blocks_there;
      }

-- and so are those of a file that document 01 alone accepts
pub unpadded_places : (f : List ℕ) (l : AreaLayout) → open_unpadded f ≡ gives l → UnpaddedPlaces (length f) (words_of f) l
unfolding open_unpadded
unpadded_places f l e =
    subst (UnpaddedPlaces (length f) (words_of f)) (sym ((value_exactly (unpadded_rules (length f) f) _ l).0 e).1)
    (layout_places (area_order f) (length f) (words_of f))

-- ---- a file that document 01 alone refuses

-- "a documentation length of 226 .., which document 01 refuses at word 49" (document 02, request 4)
pub imager_unpadded : open_unpadded imager ≡ refuses 4 49
unfolding open_unpadded unpadded_rules unpadded_shape_rules area_count_rules area_place_rules directory_of word_in first_fault first judge within at_least list_of word_at number_at decode encode value digits given bytes_of file_imager imager
imager_unpadded = refl
