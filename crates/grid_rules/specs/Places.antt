-- Where the points of a grid lie, by a layout alone: the addresses of document 01, "GRID", and 7 where there is no such point. That the layout is the one of
-- the file (9), and its kind (7), are judged before.
-- Assumes nothing.
use Rattle.std.specs.Prelude.{List, [], ◌∷◌, ℕ}
use Rattle.refusal_rules.specs.Answers.{Answer, answered, word_place}
use Rattle.refusal_rules.specs.Rules.{Rule, rule, first_fault}
use Rattle.refusal_rules.specs.Tests.{within}
use Rattle.refusal_rules.specs.declared.Place.{Place}
use Rattle.grid_rules.specs.Points.{point_word}
use Rattle.grid_rules.specs.declared.GridLayout.{GridLayout}
use Rattle.grid_rules.specs.Bounds.{grid_bounded}

-- the rules of the point of row r and column c: 7 where there is no such row or column
unfoldable pub point_rules : GridLayout → ℕ → ℕ → List Rule
point_rules l r c =
    rule (grid_bounded l) 7 0
    ∷ rule (within 1 l.rows r) 7 0
    ∷ rule (within 1 l.columns c) 7 0
    ∷ []

-- the place of the point of row r and column c, or the refusal
unfoldable pub point_place : GridLayout → ℕ → ℕ → Answer Place
point_place l r c = answered (first_fault (point_rules l r c)) (word_place (point_word l r c))
