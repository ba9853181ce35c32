-- The names of the keys of an MD file: document 01, "MD". "A key name, four lent bytes, finds its first position, 1 to K, among the names; any other length is
-- 7." The names are words 464 to 863, of which the first K count; bytes are compared as they are.
-- Assumes nothing.
use Rattle.std.specs.Prelude.{Bool, List, [], ◌∷◌, ℕ, suc, ◌+◌, ◌-◌, ◌*◌, eqb, length}
use Rattle.lists.specs.Choices.{pick}
use Rattle.lists.specs.Lists.{part, list_of, keep}
use Rattle.refusal_rules.specs.Answers.{Answer, gives, refuses, and_then}
use Rattle.refusal_rules.specs.Tests.{same_numbers}
use Rattle.md_rules.specs.declared.MdLayout.{MdLayout}
use Rattle.layout_rules.specs.Found.{md_of}
use Rattle.layout_rules.specs.declared.Layout.{Layout}

-- the name of the key at a position, counted from 1: four bytes in file order
abbrev pub key_name : List ℕ → ℕ → List ℕ
key_name f k = part (4 * (464 + (k - 1))) 4 f

-- whether the key at a position has the name `name`
abbrev pub is_named : List ℕ → List ℕ → ℕ → Bool
is_named f name k = same_numbers (key_name f k) name

-- the positions 1 to n
abbrev pub positions : ℕ → List ℕ
positions n = list_of suc n

-- the first of a list of positions, or refusal 7 where there is none
abbrev pub first_position : List ℕ → Answer ℕ
first_position [] = refuses 7 0
first_position (k ∷ ks) = gives k

-- the first of the K positions of an accepted file whose key has a name, or refusal 7: no key has it, or it has another length than four
unfoldable pub key_in : List ℕ → MdLayout → List ℕ → Answer ℕ
key_in f m name = pick (eqb (length name) 4) (first_position (keep (is_named f name) (positions m.keys))) (refuses 7 0)

-- the first position of the key of any file with a layout that has a name, or the refusal
abbrev pub key_of : List ℕ → Layout → List ℕ → Answer ℕ
key_of f l name = and_then (md_of f l) (λ m. key_in f m name)
