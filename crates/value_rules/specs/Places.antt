-- Where a named value lies, by a layout of any kind. The refusals are in the order of document 01, "What comes back": 7 for the kind, then those of the kind.
-- That the layout is the one of the file (9) is judged before.
-- Assumes nothing.
use Rattle.refusal_rules.specs.Answers.{Answer, and_then}
use Rattle.refusal_rules.specs.declared.Place.{Place}
use Rattle.area_rules.specs.Places.{sample_place}
use Rattle.grid_rules.specs.Places.{point_place}
use Rattle.md_rules.specs.Places.{field_place}
use Rattle.layout_rules.specs.Found.{as_area, as_grid, as_md}
use Rattle.layout_rules.specs.declared.Layout.{Layout}
use Rattle.value_rules.specs.declared.ValueName.{ValueName}
use Rattle.value_rules.specs.declared.ValueName.TheVariants.{Sample, Point, Field}

-- the place of a named value by a layout, or the refusal
unfoldable pub place_of : Layout → ValueName → Answer Place
place_of l (Sample i e b) = and_then (as_area l) (λ a. sample_place a i e b)
place_of l (Point r c) = and_then (as_grid l) (λ g. point_place g r c)
place_of l (Field r c f) = and_then (as_md l) (λ m. field_place m r c f)
