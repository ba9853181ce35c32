-- Where the fields of an MD file are: document 01, "MD". A field is named by MD coordinates (r, c) and its position f from 1. "MD coordinates",
-- "row header", "column header" and "user record" are the manual's terms; that rows are outermost in the data is ruled in document 01.
-- Assumes nothing.
use Rattle.std.specs.Prelude.{ℕ, ◌+◌, ◌-◌, ◌*◌, ◌≤◌, eqb}
use Rattle.lists.specs.Choices.{pick}
use Rattle.md_rules.specs.declared.MdLayout.{MdLayout}

-- the word of field f of the user record: "(0,0) is the user record of 400 words at 64"
abbrev pub user_word : ℕ → ℕ
user_word f = 64 + (f - 1)

-- the word of field f of row header r: "(r,0) is row header r"
abbrev pub row_word : MdLayout → ℕ → ℕ → ℕ
row_word l r f = 4096 + (r - 1) * l.row_keys + (f - 1)

-- the word of field f of column header c: "(0,c) column header c"
abbrev pub column_word : MdLayout → ℕ → ℕ → ℕ
column_word l c f = l.column_start + (c - 1) * l.column_keys + (f - 1)

-- the word of field f of the data of (r, c): "(r,c) is data at word 29 + ((r-1)·C + (c-1))·d + f-1"
abbrev pub data_word : MdLayout → ℕ → ℕ → ℕ → ℕ
data_word l r c f = l.data_start + ((r - 1) * l.columns + (c - 1)) * l.data_keys + (f - 1)

-- how many fields the part has that coordinates name: the user record, a row header, a column header, or data
unfoldable pub fields_of : MdLayout → ℕ → ℕ → ℕ
fields_of l r c = pick (eqb r 0) (pick (eqb c 0) 400 l.column_keys) (pick (eqb c 0) l.row_keys l.data_keys)

-- the word of field f of the part that coordinates name
unfoldable pub field_word : MdLayout → ℕ → ℕ → ℕ → ℕ
field_word l r c f = pick (eqb r 0) (pick (eqb c 0) (user_word f) (column_word l c f)) (pick (eqb c 0) (row_word l r f) (data_word l r c f))

-- a file of the layout has a field f of the part that coordinates name
pub record IsField (l : MdLayout) (r c f : ℕ) : Type 0 where
  pub row : r ≤ l.rows
  pub column : c ≤ l.columns
  pub from : 1 ≤ f
  pub to : f ≤ fields_of l r c
