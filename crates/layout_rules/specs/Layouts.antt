-- A layout of any kind, opening by kind, and whether a layout is stale: document 01, "What comes back".
-- Assumes nothing.
use Rattle.std.specs.Prelude.{◌≡◌, Bool, false, List, ℕ}
use Rattle.endian_rules.specs.declared.Order.{Order}
use Rattle.refusal_rules.specs.Answers.{Answer, gives, refuses, mapped}
use Rattle.area_rules.specs.Opening.{open_area, same_area}
use Rattle.grid_rules.specs.Opening.{open_grid, same_grid}
use Rattle.md_rules.specs.Opening.{open_md, same_md}
use Rattle.layout_rules.specs.declared.Layout.{Layout}
use Rattle.layout_rules.specs.declared.Layout.TheVariants.{Area, Grid, Md}

-- the three kinds of file
pub data Kind : Type 0 where
  area : Kind
  grid : Kind
  md : Kind

-- Opening by kind, byte order and grid number. AREA finds its order by itself, and only GRID has grid numbers.
unfoldable pub open_as : Kind → Order → ℕ → List ℕ → Answer Layout
open_as area o number f = mapped Area (open_area f)
open_as grid o number f = mapped Grid (open_grid o f number)
open_as md o number f = mapped Md (open_md o f)

-- the kind of a layout
abbrev pub kind_of : Layout → Kind
kind_of (Area l) = area
kind_of (Grid l) = grid
kind_of (Md l) = md

-- the byte order of a layout
abbrev pub layout_order : Layout → Order
layout_order (Area l) = l.order
layout_order (Grid l) = l.order
layout_order (Md l) = l.order

-- the grid number of a layout, 0 where its kind has none
abbrev pub grid_number_of : Layout → ℕ
grid_number_of (Area l) = 0
grid_number_of (Grid l) = l.number
grid_number_of (Md l) = 0

-- opening these bytes with the layout's kind, order and grid number
abbrev pub reopened : List ℕ → Layout → Answer Layout
reopened f l = open_as (kind_of l) (layout_order l) (grid_number_of l) f

-- A layout is fresh where opening these bytes with the layout's kind, order and grid number gives that very layout. "Stale" is document 01's term for one that
-- is not.
abbrev pub Fresh : List ℕ → Layout → Type 0
Fresh f l = reopened f l ≡ gives l

-- whether two layouts of any kind are the same: of one kind, and in every field
abbrev pub same_layout : Layout → Layout → Bool
same_layout (Area a) (Area b) = same_area a b
same_layout (Area a) (Grid b) = false
same_layout (Area a) (Md b) = false
same_layout (Grid a) (Area b) = false
same_layout (Grid a) (Grid b) = same_grid a b
same_layout (Grid a) (Md b) = false
same_layout (Md a) (Area b) = false
same_layout (Md a) (Grid b) = false
same_layout (Md a) (Md b) = same_md a b

-- whether an answer of opening is the layout l
abbrev pub gives_that : Layout → Answer Layout → Bool
gives_that l (gives m) = same_layout m l
gives_that l (refuses n p) = false

-- whether a layout is fresh
unfoldable pub is_fresh : List ℕ → Layout → Bool
is_fresh f l = gives_that l (reopened f l)
