-- Where the parts and fields of an MD file lie, by a layout alone: the addresses of document 01, "MD", and 7 where there is no such part or field. That the
-- layout is the one of the file (9), and its kind (7), are judged before.
-- Assumes nothing.
use Rattle.std.specs.Prelude.{List, [], ◌∷◌, ◌++◌, ℕ, leb}
use Rattle.refusal_rules.specs.Answers.{Answer, answered, word_place}
use Rattle.refusal_rules.specs.Rules.{Rule, rule, first_fault}
use Rattle.refusal_rules.specs.Tests.{within}
use Rattle.refusal_rules.specs.declared.Place.{Place}
use Rattle.md_rules.specs.Fields.{fields_of, field_word}
use Rattle.md_rules.specs.declared.MdLayout.{MdLayout}
use Rattle.md_rules.specs.Bounds.{md_bounded}

-- the rules of the part that coordinates name, of which 0 names the headers and the user record: 7 where there is no such row or column
unfoldable pub part_rules : MdLayout → ℕ → ℕ → List Rule
part_rules l r c =
    rule (md_bounded l) 7 0
    ∷ rule (leb r l.rows) 7 0
    ∷ rule (leb c l.columns) 7 0
    ∷ []

-- the word at which the part that coordinates name begins
abbrev pub part_word : MdLayout → ℕ → ℕ → ℕ
part_word l r c = field_word l r c 1

-- the word at which the part that coordinates name begins, or the refusal
unfoldable pub part_start_of : MdLayout → ℕ → ℕ → Answer ℕ
part_start_of l r c = answered (first_fault (part_rules l r c)) (part_word l r c)

-- the rules of field f of the part that coordinates name: 7 where there is no such row, column or field
unfoldable pub field_rules : MdLayout → ℕ → ℕ → ℕ → List Rule
field_rules l r c f = part_rules l r c ++ rule (within 1 (fields_of l r c) f) 7 0 ∷ []

-- the place of field f of the part that coordinates name, or the refusal
unfoldable pub field_place : MdLayout → ℕ → ℕ → ℕ → Answer Place
field_place l r c f = answered (first_fault (field_rules l r c f)) (word_place (field_word l r c f))
