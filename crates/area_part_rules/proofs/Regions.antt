-- The spans of prefix regions. One that is given is inside the file, and has bytes; it is given exactly where there is such a line and the region has bytes.
-- Assumes nothing.
use mathlib.Core.Path.{◌≡◌, refl, sym, subst}
use mathlib.Core.Logic.{◌↔◌}
use mathlib.Core.List.{List, [], ◌∷◌}
use Prim.Native.Nat.{ℕ, ◌+◌, ◌≤◌, ◌<◌}
use native.Mathlib.Omega.{arith}
use Rattle.refusal_rules.specs.Answers.{gives, refuses}
use Rattle.refusal_rules.specs.Rules.{tabled, Hold}
use Rattle.refusal_rules.proofs.Answers.{value_exactly, never_refused}
use Rattle.refusal_rules.proofs.Exactness.{lt_exactly, eq_exactly, not_exactly}
use Rattle.refusal_rules.proofs.Tables.{also}
use Rattle.area_rules.specs.Opening.{open_area}
use Rattle.area_rules.specs.Samples.{AreaFits}
use Rattle.area_rules.specs.Blocks.{region_start, region_length}
use Rattle.area_rules.specs.declared.AreaLayout.{AreaLayout}
use Rattle.area_rules.specs.declared.Region.{Region}
use Rattle.area_rules.proofs.Regions.{region_inside}
use Rattle.layout_rules.specs.Layouts.{Fresh}
use Rattle.layout_rules.specs.declared.Layout.{Layout}
use Rattle.layout_rules.specs.declared.Layout.TheVariants.{Area}
use Rattle.layout_rules.proofs.OneKind.{area_then, area_nine}
use Rattle.span_rules.specs.Spans.{span, Inside}
use Rattle.span_rules.specs.declared.Span.{Span}
use Rattle.area_part_rules.proofs.Blocks.{found-inside}
use Rattle.area_part_rules.specs.Regions.{region_rules, region_of, region_span}

-- 7 for the line comes before 6 for the length
pub region_order : (l : AreaLayout) (i : ℕ) (r : Region) → tabled (region_rules l i r) ≡ (7, 0) ∷ (6, 0) ∷ []
unfolding tabled region_rules
region_order l i r = refl

module _ (l : AreaLayout) (i : ℕ) (r : Region) where
  -- the rules of a region hold exactly where there is such a line and the region has bytes
  pub region_hold : Hold (region_rules l i r) ↔ ((i < l.lines) × (¬ (region_length l r ≡ 0)))
  unfolding region_rules
  region_hold =
      let line = lt_exactly i l.lines in
      let some = not_exactly (eq_exactly (region_length l r) 0) in
      (λ h. (line.sound h.0, some.sound h.1.0), λ h. also (line.complete h.0) (also (some.complete h.1) tt))

  -- by a layout alone a region has a span exactly there, and then its own
  region_here : (s : Span)
      → (region_of l i r ≡ gives s) ↔ (((i < l.lines) × (¬ (region_length l r ≡ 0))) × (s ≡ span (region_start l i r) (region_length l r)))
  unfolding region_of
  region_here s =
      let x = value_exactly (region_rules l i r) (span (region_start l i r) (region_length l r)) s in
      (λ e. (region_hold.0 (x.0 e).0, (x.0 e).1), λ h. x.1 (region_hold.1 h.0, h.1))

  -- it has bytes, and is inside the file
  pub region_bounds : AreaFits l → (s : Span) → region_of l i r ≡ gives s → (1 ≤ s.length) × (s.start + s.length ≤ l.length)
  region_bounds fits s e =
      let ((line, some), same) = (region_here s).0 e in
      subst (λ (x : Span). (1 ≤ x.length) × (x.start + x.length ≤ l.length)) (sym same) (omega (arith, some), region_inside l fits i line r)

-- the span is that of a region of the prefix of line i of a file: the layout is an AREA layout that opening the file gives, there is such a line, the region has
-- bytes, and the span is from its start on as long as it is
pub record IsRegionSpan (f : List ℕ) (l : Layout) (i : ℕ) (r : Region) (s : Span) : Type 0 where
  pub area : AreaLayout
  pub layout : l ≡ Area area
  pub opens : open_area f ≡ gives area
  pub line : i < area.lines
  pub some : ¬ (region_length area r ≡ 0)
  pub same : s ≡ span (region_start area i r) (region_length area r)

-- a span of a region is given exactly where it is that
pub region_exactly : (f : List ℕ) (l : Layout) (i : ℕ) (r : Region) (s : Span) → (region_span f l i r ≡ gives s) ↔ IsRegionSpan f l i r s
region_exactly f l i r s =
    let y = area_then f l (λ a. region_of a i r) s in (
      λ e.
          let (a, (layout, opens), given) = y.0 e in
          let ((line, some), same) = (region_here a i r s).0 given in
          record { area = a; layout = layout; opens = opens; line = line; some = some; same = same },
      λ x. y.1 (x.area, (x.layout, x.opens), (region_here x.area i r s).1 ((x.line, x.some), x.same)),
    )

-- one that is handed back is inside the file
pub region_in_file : (f : List ℕ) (l : Layout) (i : ℕ) (r : Region) → Inside f (region_span f l i r)
region_in_file f l i r = found-inside f l (λ a. region_of a i r) (λ a fits s e. (region_bounds a i r fits s e).1)

-- it is refused with 9 exactly where the layout is stale
pub region_stale : (f : List ℕ) (l : Layout) (i : ℕ) (r : Region) → (region_span f l i r ≡ refuses 9 0) ↔ (¬ Fresh f l)
unfolding region_of region_rules
region_stale f l i r =
    area_nine f l (λ a. region_of a i r) (λ a. never_refused (region_rules a i r) _ 9 0 (λ e. omega (arith, e), (λ e. omega (arith, e), tt)))
