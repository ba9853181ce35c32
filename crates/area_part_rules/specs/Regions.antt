-- The regions of a line's prefix in an AREA file, each by its start and length in bytes or its refusal: document 01, "AREA" and "What comes back". Each call refuses 9,
-- then 7 for the kind, then 7 for the line, then 6 for a region of length 0.
-- Assumes nothing.
use Rattle.std.specs.Prelude.{not, List, [], ◌∷◌, ℕ, ltb, eqb}
use Rattle.refusal_rules.specs.Answers.{Answer, answered, and_then}
use Rattle.refusal_rules.specs.Rules.{Rule, rule, first_fault}
use Rattle.area_rules.specs.Blocks.{region_start, region_length}
use Rattle.area_rules.specs.declared.AreaLayout.{AreaLayout}
use Rattle.area_rules.specs.declared.Region.{Region}
use Rattle.layout_rules.specs.Found.{area_of}
use Rattle.layout_rules.specs.declared.Layout.{Layout}
use Rattle.span_rules.specs.Spans.{span}
use Rattle.span_rules.specs.declared.Span.{Span}

-- the rules of a region of the prefix of line l: 7 where there is no such line, then 6 where the region has length 0
unfoldable pub region_rules : AreaLayout → ℕ → Region → List Rule
region_rules a l r = rule (ltb l a.lines) 7 0 ∷ rule (not (eqb (region_length a r) 0)) 6 0 ∷ []

-- the span of a region of the prefix of line l by a layout, or the refusal
unfoldable pub region_of : AreaLayout → ℕ → Region → Answer Span
region_of a l r = answered (first_fault (region_rules a l r)) (span (region_start a l r) (region_length a r))

-- the span of a region of the prefix of line i of a file with a layout l, or the refusal
abbrev pub region_span : List ℕ → Layout → ℕ → Region → Answer Span
region_span f l i r = and_then (area_of f l) (λ a. region_of a i r)
