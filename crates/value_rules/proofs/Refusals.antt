-- A layout alone never gives a refusal above 7: 8 is left to stores, 9 to layouts that are stale. A layout above the bounds of opening is stale in every file.
-- Assumes nothing.
use mathlib.Core.Path.{◌≡◌, sym, ◌∙◌}
use mathlib.Core.Bool.{Bool, true, false, false≢true}
use mathlib.Core.List.{List}
use Prim.Native.Nat.{ℕ, ◌<◌}
use Rattle.refusal_rules.specs.Answers.{refuses}
use Rattle.refusal_rules.proofs.Answers.{seven_only}
use Rattle.area_rules.specs.Bounds.{area_bounded}
use Rattle.area_rules.proofs.Bounds.{area_bounded_lem}
use Rattle.area_rules.proofs.Facts.{area_of_lem}
use Rattle.area_rules.proofs.Places.{sample_never}
use Rattle.grid_rules.specs.Bounds.{grid_bounded}
use Rattle.grid_rules.proofs.Bounds.{grid_bounded_lem}
use Rattle.grid_rules.proofs.Facts.{grid_of_lem}
use Rattle.grid_rules.proofs.Places.{point_never}
use Rattle.md_rules.specs.Bounds.{md_bounded}
use Rattle.md_rules.proofs.Bounds.{md_bounded_lem}
use Rattle.md_rules.proofs.Facts.{md_of_lem}
use Rattle.md_rules.proofs.Places.{field_never}
use Rattle.layout_rules.specs.Layouts.{Fresh}
use Rattle.layout_rules.specs.declared.Layout.{Layout}
use Rattle.layout_rules.specs.declared.Layout.TheVariants.{Area, Grid, Md}
use Rattle.layout_rules.proofs.Freshness.{found-stale}
use Rattle.layout_rules.proofs.OneKind.{fresh_area, fresh_grid, fresh_md}
use Rattle.value_rules.specs.Places.{place_of}
use Rattle.value_rules.specs.Reading.{place_in}
use Rattle.value_rules.specs.declared.ValueName.{ValueName}
use Rattle.value_rules.specs.declared.ValueName.TheVariants.{Sample, Point, Field}

-- any name, at any place
pub place_never : (n p : ℕ) → 7 < n → (l : Layout) (x : ValueName) → ¬ (place_of l x ≡ refuses n p)
unfolding place_of
place_never n p h (Area l) (Sample i e c) = sample_never n p h l i e c
place_never n p h (Area l) (Point r c) = seven_only h
place_never n p h (Area l) (Field r c k) = seven_only h
place_never n p h (Grid l) (Sample i e c) = seven_only h
place_never n p h (Grid l) (Point r c) = point_never n p h l r c
place_never n p h (Grid l) (Field r c k) = seven_only h
place_never n p h (Md l) (Sample i e c) = seven_only h
place_never n p h (Md l) (Point r c) = seven_only h
place_never n p h (Md l) (Field r c k) = field_never n p h l r c k

-- ---- layouts above the bounds of opening

-- whether the counts of a layout are at most what opening accepts
abbrev pub bounded : Layout → Bool
bounded (Area a) = area_bounded a
bounded (Grid g) = grid_bounded g
bounded (Md m) = md_bounded m

-- those of a layout that opening gives are
pub fresh_bounded : (f : List ℕ) (l : Layout) → Fresh f l → bounded l ≡ true
fresh_bounded f (Area a) e = area_bounded_lem a (area_of_lem f a ((fresh_area f a).0 e)).fits
fresh_bounded f (Grid g) e = grid_bounded_lem g (grid_of_lem g.order f g.number g ((fresh_grid f g).0 e)).fits
fresh_bounded f (Md m) e = md_bounded_lem m (md_of_lem m.order f m ((fresh_md f m).0 e)).fits

-- so one above them, which only a caller can have made up, is refused with 9 in every file
pub unbounded_stale : (f : List ℕ) (l : Layout) (x : ValueName) → bounded l ≡ false → place_in f l x ≡ refuses 9 0
unbounded_stale f l x above = found-stale (λ m. place_of m x) f l (λ fresh. false≢true (sym above ∙ fresh_bounded f l fresh))
