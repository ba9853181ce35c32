-- A complete record of an MD file: document 01, "MD" and "What comes back". The call refuses 9, then 7 for the kind, then 7 for the coordinates, then 10.
-- Assumes nothing.
use Rattle.std.specs.Prelude.{List, [], ◌∷◌, ◌++◌, ℕ, ◌+◌, ◌*◌, ◌≤◌, ℤ}
use Rattle.lists.specs.Lists.{list_of}
use Rattle.endian_rules.specs.Words.{signed_at}
use Rattle.refusal_rules.specs.Answers.{Answer, answered, and_then}
use Rattle.refusal_rules.specs.Rules.{Rule, rule, first_fault}
use Rattle.refusal_rules.specs.Tests.{within}
use Rattle.md_rules.specs.Fields.{fields_of, field_word}
use Rattle.md_rules.specs.declared.MdLayout.{MdLayout}
use Rattle.layout_rules.specs.Found.{md_of}
use Rattle.layout_rules.specs.declared.Layout.{Layout}
use Rattle.copy_rules.specs.Runs.{copied}

-- the fields of the part that coordinates name, in their order
unfoldable pub part_fields : List ℕ → MdLayout → ℕ → ℕ → List ℤ
part_fields f m r c = list_of (λ k. signed_at m.order f (4 * field_word m r c (k + 1))) (fields_of m r c)

-- the fields of a record: "A complete record of (r,c), r and c at least 1, is its row header, column header and data, K words."
unfoldable pub record_fields : List ℕ → MdLayout → ℕ → ℕ → List ℤ
record_fields f m r c = part_fields f m r 0 ++ (part_fields f m 0 c ++ part_fields f m r c)

-- a file of the layout has a record of (r, c)
pub record IsRecord (m : MdLayout) (r c : ℕ) : Type 0 where
  pub row_from : 1 ≤ r
  pub row_to : r ≤ m.rows
  pub column_from : 1 ≤ c
  pub column_to : c ≤ m.columns

-- the rules of a record of (r, c): 7 where there is no such record
unfoldable pub record_rules : MdLayout → ℕ → ℕ → List Rule
record_rules m r c = rule (within 1 m.rows r) 7 0 ∷ rule (within 1 m.columns c) 7 0 ∷ []

-- the record of an accepted file, or the refusal
unfoldable pub record_in : List ℕ → MdLayout → ℕ → ℕ → Answer (List ℤ)
record_in f m r c = answered (first_fault (record_rules m r c)) (record_fields f m r c)

-- the record of any file with a layout, or the refusal
abbrev pub record_of : List ℕ → Layout → ℕ → ℕ → Answer (List ℤ)
record_of f l r c = and_then (md_of f l) (λ m. record_in f m r c)

-- what copying a record into a lent output answers and leaves: after the refusals of the record, 10 where the output is too short
abbrev pub copy_record : List ℕ → Layout → ℕ → ℕ → List ℤ → Answer ℕ × List ℤ
copy_record f l r c out = copied (record_of f l r c) out
