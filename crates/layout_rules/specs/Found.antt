-- What every call that gets file and layout does first: it refuses 9 where the layout is stale, then 7 where it is of another kind than the
-- call's. Every later call's definition is stated through this.
-- Assumes nothing.
use Rattle.std.specs.Prelude.{List, ℕ}
use Rattle.lists.specs.Choices.{pick}
use Rattle.refusal_rules.specs.Answers.{Answer, gives, refuses}
use Rattle.area_rules.specs.declared.AreaLayout.{AreaLayout}
use Rattle.grid_rules.specs.declared.GridLayout.{GridLayout}
use Rattle.md_rules.specs.declared.MdLayout.{MdLayout}
use Rattle.layout_rules.specs.Layouts.{is_fresh}
use Rattle.layout_rules.specs.declared.Layout.{Layout}
use Rattle.layout_rules.specs.declared.Layout.TheVariants.{Area, Grid, Md}

-- the layout as an AREA layout, or refusal 7
abbrev pub as_area : Layout → Answer AreaLayout
as_area (Area l) = gives l
as_area (Grid l) = refuses 7 0
as_area (Md l) = refuses 7 0

-- the layout as a GRID layout, or refusal 7
abbrev pub as_grid : Layout → Answer GridLayout
as_grid (Area l) = refuses 7 0
as_grid (Grid l) = gives l
as_grid (Md l) = refuses 7 0

-- the layout as an MD layout, or refusal 7
abbrev pub as_md : Layout → Answer MdLayout
as_md (Area l) = refuses 7 0
as_md (Grid l) = refuses 7 0
as_md (Md l) = gives l

-- what a call says of a file and a layout: 9 where the layout is stale, else what `own` says of the layout
unfoldable pub found : {Value : Type 0} → (Layout → Answer Value) → List ℕ → Layout → Answer Value
found own f l = pick (is_fresh f l) (own l) (refuses 9 0)

-- what a call of AREA files begins with: the layout as an AREA layout, or 9 where it is stale, then 7 where it is of another kind
abbrev pub area_of : List ℕ → Layout → Answer AreaLayout
area_of f l = found as_area f l

-- what a call of GRID files begins with: the layout as a GRID layout, or 9 where it is stale, then 7 where it is of another kind
abbrev pub grid_of : List ℕ → Layout → Answer GridLayout
grid_of f l = found as_grid f l

-- what a call of MD files begins with: the layout as an MD layout, or 9 where it is stale, then 7 where it is of another kind
abbrev pub md_of : List ℕ → Layout → Answer MdLayout
md_of f l = found as_md f l
