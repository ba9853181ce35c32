-- When an MD file is accepted, and what an accepted file gives.
-- Assumes nothing.
use Rattle.std.specs.Prelude.{◌≡◌, List, ℕ, ◌+◌, ◌*◌, ◌/◌, ◌≤◌, ◌<◌, length}
use Rattle.endian_rules.specs.Words.{AtLeast}
use Rattle.endian_rules.specs.declared.Order.{Order}
use Rattle.md_rules.specs.Rules.{md_data_end}
use Rattle.md_rules.specs.declared.MdLayout.{MdLayout}

-- An MD file of `len` bytes whose raw words are w is accepted, one field a rule. A count, or a word with a rule, is below 2 ^ 31, and so it is
-- the signed word; word 30 has no upper limit of its own, and is compared as a signed word.
pub record AcceptsMd (len : ℕ) (w : ℕ → ℕ) : Type 0 where
  pub long : 16384 ≤ len
  pub rows : (1 ≤ w 3) × (w 3 ≤ 65535)
  pub columns : (1 ≤ w 4) × (w 4 ≤ 1600000)
  pub keys : (1 ≤ w 5) × (w 5 ≤ 400)
  pub row_keys : (0 ≤ w 6) × (w 6 ≤ 400)
  pub column_keys : (0 ≤ w 7) × (w 7 ≤ 400)
  pub data_keys : (1 ≤ w 8) × (w 8 ≤ 400)
  pub sum : w 5 ≡ w 6 + w 7 + w 8
  pub word_9 : w 9 ≡ w 6 + 1
  pub word_10 : w 10 ≡ w 6 + w 7 + 1
  pub word_27 : w 27 ≡ 4096
  pub word_28 : w 28 ≡ 4096 + w 3 * w 6
  pub word_29 : w 29 ≡ w 28 + w 4 * w 7
  pub word_31 : w 31 ≡ 64
  pub word_32 : w 32 ≡ 464
  pub word_33 : w 33 ≡ 864
  pub word_34 : w 34 ≡ 1264
  pub word_30 : AtLeast (md_data_end w) (w 30)
  pub inside : w 30 ≤ len / 4

-- What is known of the layout of an accepted MD file: both bounds of every field, where the parts begin, and that they are inside the file. Every
-- later address rests on this, and not on the rules.
pub record MdFits (l : MdLayout) : Type 0 where
  pub rows_from : 1 ≤ l.rows
  pub rows_to : l.rows ≤ 65535
  pub columns_from : 1 ≤ l.columns
  pub columns_to : l.columns ≤ 1600000
  pub keys_from : 1 ≤ l.keys
  pub keys_to : l.keys ≤ 400
  pub row_keys_to : l.row_keys ≤ 400
  pub column_keys_to : l.column_keys ≤ 400
  pub data_keys_from : 1 ≤ l.data_keys
  pub data_keys_to : l.data_keys ≤ 400
  pub sum : l.keys ≡ l.row_keys + l.column_keys + l.data_keys
  pub column_start : l.column_start ≡ 4096 + l.rows * l.row_keys
  pub data_start : l.data_start ≡ l.column_start + l.columns * l.column_keys
  -- the data end inside the file, and below 2 ^ 31
  pub room : 4 * (l.data_start + l.rows * l.columns * l.data_keys) ≤ l.length
  pub small : l.data_start + l.rows * l.columns * l.data_keys < 2147483648

-- the layout l is one of the file f in the byte order o, and what is known of an accepted file's layout holds of it
pub record MdOf (o : Order) (f : List ℕ) (l : MdLayout) : Type 0 where
  pub order : l.order ≡ o
  pub size : l.length ≡ length f
  pub fits : MdFits l
