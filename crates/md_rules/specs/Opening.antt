-- What opening an MD file answers: document 01, "What comes back".
-- Assumes nothing.
use Rattle.std.specs.Prelude.{Bool, List, [], ◌∷◌, ℕ, length}
use Rattle.endian_rules.specs.Words.{word_at, order_number}
use Rattle.endian_rules.specs.declared.Order.{Order}
use Rattle.refusal_rules.specs.Rules.{first_fault}
use Rattle.refusal_rules.specs.Answers.{Answer, answered}
use Rattle.refusal_rules.specs.Tests.{same_numbers}
use Rattle.md_rules.specs.Rules.{md_rules}
use Rattle.md_rules.specs.declared.MdLayout.{MdLayout}

-- the layout that the words of a file of `len` bytes give: "R, C, K, a, b, d, words 28 and 29"
unfoldable pub md_layout_of : Order → ℕ → (ℕ → ℕ) → MdLayout
md_layout_of o len w =
    record {
      order = o;
      length = len;
      rows = w 3;
      columns = w 4;
      keys = w 5;
      row_keys = w 6;
      column_keys = w 7;
      data_keys = w 8;
      column_start = w 28;
      data_start = w 29;
    }

-- opening a file of `len` bytes, by its raw words
unfoldable pub open_md_words : Order → ℕ → (ℕ → ℕ) → Answer MdLayout
open_md_words o len w = answered (first_fault (md_rules len w)) (md_layout_of o len w)

-- opening an MD file in a byte order
unfoldable pub open_md : Order → List ℕ → Answer MdLayout
open_md o f = open_md_words o (length f) (word_at o f)

-- the fields of an MD layout as numbers
abbrev pub md_numbers : MdLayout → List ℕ
md_numbers l =
    order_number l.order
    ∷ l.length
    ∷ l.rows
    ∷ l.columns
    ∷ l.keys
    ∷ l.row_keys
    ∷ l.column_keys
    ∷ l.data_keys
    ∷ l.column_start
    ∷ l.data_start
    ∷ []

-- whether two MD layouts are the same in every field
unfoldable pub same_md : MdLayout → MdLayout → Bool
same_md a b = same_numbers (md_numbers a) (md_numbers b)
