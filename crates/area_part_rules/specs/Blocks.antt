-- The blocks of an AREA file, each by its start and length in bytes or its refusal: document 01, "AREA" and "What comes back". Each call refuses 9, then 7 for the
-- kind, then 6 for an absent block.
-- Assumes nothing.
use Rattle.std.specs.Prelude.{not, List, [], ◌∷◌, ℕ, ◌-◌, eqb}
use Rattle.refusal_rules.specs.Answers.{Answer, answered, and_then}
use Rattle.refusal_rules.specs.Rules.{Rule, rule, first_fault}
use Rattle.area_rules.specs.Blocks.{next_start, block_starts, block_start, block_length, block_present}
use Rattle.area_rules.specs.declared.AreaLayout.{AreaLayout}
use Rattle.area_rules.specs.declared.Block.{Block}
use Rattle.layout_rules.specs.Found.{area_of}
use Rattle.layout_rules.specs.declared.Layout.{Layout}
use Rattle.span_rules.specs.Spans.{span}
use Rattle.span_rules.specs.declared.Span.{Span}

-- the span of NAV, CAL or AUX, which starts at x and is absent where x is 0, or refusal 6
unfoldable pub optional_block_of : AreaLayout → ℕ → Answer Span
optional_block_of a x = answered (first_fault (rule (not (eqb x 0)) 6 0 ∷ [])) (span x (next_start x a.length (block_starts a) - x))

-- the rules of a block: 6 where it is absent
unfoldable pub block_rules : AreaLayout → Block → List Rule
block_rules a b = rule (block_present a b) 6 0 ∷ []

-- the span of a block by a layout, or the refusal
unfoldable pub block_of : AreaLayout → Block → Answer Span
block_of a b = answered (first_fault (block_rules a b)) (span (block_start a b) (block_length a b))

-- the span of a block of a file, or the refusal
abbrev pub block_span : List ℕ → Layout → Block → Answer Span
block_span f l b = and_then (area_of f l) (λ a. block_of a b)
