-- The worked file M of document 01: big order, R = 2, C = 3, a = 2, b = 1, d = 3, 16,484 bytes, word 30 = 4121. "What isn't given is 0, or what
-- its rule asks." The cases that document 01 marks stand together in worked_cases.
-- Assumes nothing.
use Rattle.std.specs.Prelude.{◌≡◌, List, [], ◌∷◌, ◌++◌, ℕ, ◌+◌, length, replicate}
use Rattle.endian_rules.specs.Files.{given, bytes_of}
use Rattle.endian_rules.specs.declared.Order.TheVariants.{Big}
use Rattle.refusal_rules.specs.Answers.{gives}
use Rattle.md_rules.specs.Opening.{open_md}
use Rattle.md_rules.specs.Fields.{field_word}
use Rattle.md_rules.specs.declared.MdLayout.{MdLayout}

-- M, but for word 28
unfoldable pub file_m : ℕ → List ℕ
file_m word28 =
    bytes_of Big
    (given 64
    ((3, 2)
    ∷ (4, 3)
    ∷ (5, 6)
    ∷ (6, 2)
    ∷ (7, 1)
    ∷ (8, 3)
    ∷ (9, 3)
    ∷ (10, 4)
    ∷ (27, 4096)
    ∷ (28, word28)
    ∷ (29, 4103)
    ∷ (30, 4121)
    ∷ (31, 64)
    ∷ (32, 464)
    ∷ (33, 864)
    ∷ (34, 1264)
    ∷ []))
    ++ replicate 16228 0

-- the worked file M
unfoldable pub M : List ℕ
M = file_m 4100

-- the layout of M
unfoldable pub layout_m : MdLayout
layout_m =
    record {
      order = Big;
      length = 16484;
      rows = 2;
      columns = 3;
      keys = 6;
      row_keys = 2;
      column_keys = 1;
      data_keys = 3;
      column_start = 4100;
      data_start = 4103;
    }

-- M has the size that document 01 gives, and opening it gives its layout
pub record WorkedMd : Type 0 where
  pub size : length M ≡ 16484
  pub m_opens : open_md Big M ≡ gives layout_m
  -- key 1 of the records (2,1) and (2,3) is field 1 of row header 2, one word whatever the column
  pub m_key : field_word layout_m 2 0 1 ≡ 4098
  -- the data of (1,2) come next after those of (1,1): rows are outermost
  pub m_next-column : field_word layout_m 1 2 1 ≡ field_word layout_m 1 1 3 + 1
