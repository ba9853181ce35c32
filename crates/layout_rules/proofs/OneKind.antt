-- What a call of one kind finds by file and layout: that kind's layout, which opening the file gives; or 9 where the layout is stale, or 7 where
-- it is of another kind.
-- Assumes nothing.
use mathlib.Core.Path.{◌≡◌, refl, sym, ap, subst, ◌∙◌}
use mathlib.Core.Logic.{◌↔◌}
use mathlib.Core.List.{List}
use Prim.Native.Nat.{ℕ, ◌<◌}
use native.Mathlib.Omega.{arith}
use Rattle.refusal_rules.specs.Answers.{Answer, gives, refuses, and_then}
use Rattle.refusal_rules.proofs.Answers.{gives-refuses, gives-same, mapped-gives, then_gives, then_never, then_refused, seven_only, nine}
use Rattle.area_rules.specs.Opening.{open_area}
use Rattle.area_rules.specs.Samples.{AreaOf}
use Rattle.area_rules.proofs.Facts.{area_of_lem}
use Rattle.area_rules.specs.declared.AreaLayout.{AreaLayout}
use Rattle.grid_rules.specs.Points.{GridOf}
use Rattle.grid_rules.proofs.Facts.{grid_of_lem}
use Rattle.grid_rules.specs.Opening.{open_grid}
use Rattle.grid_rules.specs.declared.GridLayout.{GridLayout}
use Rattle.md_rules.specs.Accepts.{MdOf}
use Rattle.md_rules.specs.Opening.{open_md}
use Rattle.md_rules.proofs.Facts.{md_of_lem}
use Rattle.md_rules.specs.declared.MdLayout.{MdLayout}
use Rattle.layout_rules.specs.Layouts.{open_as, Fresh}
use Rattle.layout_rules.specs.Found.{as_area, as_grid, as_md, found, area_of, grid_of, md_of}
use Rattle.layout_rules.specs.declared.Layout.{Layout}
use Rattle.layout_rules.specs.declared.Layout.TheVariants.{Area, Grid, Md}
use Rattle.layout_rules.proofs.Freshness.{found_fresh, found_only, stale_exactly}

-- ---- a fresh layout of each kind

pub fresh_area : (f : List ℕ) (l : AreaLayout) → Fresh f (Area l) ↔ (open_area f ≡ gives l)
unfolding open_as
fresh_area f l = mapped-gives Area (λ v w e. cc) (open_area f) l

pub fresh_grid : (f : List ℕ) (l : GridLayout) → Fresh f (Grid l) ↔ (open_grid l.order f l.number ≡ gives l)
unfolding open_as
fresh_grid f l = mapped-gives Grid (λ v w e. cc) (open_grid l.order f l.number) l

pub fresh_md : (f : List ℕ) (l : MdLayout) → Fresh f (Md l) ↔ (open_md l.order f ≡ gives l)
unfolding open_as
fresh_md f l = mapped-gives Md (λ v w e. cc) (open_md l.order f) l

-- an AREA layout with another padding than the one that opening gives, the other fields being what they may, is stale
pub padding-stale : (f : List ℕ) (l m : AreaLayout) → open_area f ≡ gives l → ¬ (m.padding ≡ l.padding) → ¬ Fresh f (Area m)
padding-stale f l m e other fresh = other (ap (λ (a : AreaLayout). a.padding) (gives-same (sym ((fresh_area f m).0 fresh) ∙ e)))

-- ---- a kind

-- what a kind says of layouts: it gives those of its own, and refuses 7 to any other
record OneKind {Value : Type 0} (kind : Value → Layout) (own : Layout → Answer Value) : Type 0 where
  given : (v : Value) → own (kind v) ≡ gives v
  only : (l : Layout) (v : Value) → own l ≡ gives v → l ≡ kind v
  never : (n : ℕ) → 7 < n → (l : Layout) → ¬ (own l ≡ refuses n 0)

area-kind : OneKind Area as_area
area-kind = record { given = λ v. refl; only = λ l. only l; never = λ n h l. never n h l }
  where
    only : (l : Layout) (v : AreaLayout) → as_area l ≡ gives v → l ≡ Area v
    only (Area l) v e = ap Area (gives-same e)
    only (Grid l) v e = gives-refuses (sym e)
    only (Md l) v e = gives-refuses (sym e)

    never : (n : ℕ) → 7 < n → (l : Layout) → ¬ (as_area l ≡ refuses n 0)
    never n h (Area l) e = gives-refuses e
    never n h (Grid l) e = seven_only h e
    never n h (Md l) e = seven_only h e

grid-kind : OneKind Grid as_grid
grid-kind = record { given = λ v. refl; only = λ l. only l; never = λ n h l. never n h l }
  where
    only : (l : Layout) (v : GridLayout) → as_grid l ≡ gives v → l ≡ Grid v
    only (Area l) v e = gives-refuses (sym e)
    only (Grid l) v e = ap Grid (gives-same e)
    only (Md l) v e = gives-refuses (sym e)

    never : (n : ℕ) → 7 < n → (l : Layout) → ¬ (as_grid l ≡ refuses n 0)
    never n h (Area l) e = seven_only h e
    never n h (Grid l) e = gives-refuses e
    never n h (Md l) e = seven_only h e

md-kind : OneKind Md as_md
md-kind = record { given = λ v. refl; only = λ l. only l; never = λ n h l. never n h l }
  where
    only : (l : Layout) (v : MdLayout) → as_md l ≡ gives v → l ≡ Md v
    only (Area l) v e = gives-refuses (sym e)
    only (Grid l) v e = gives-refuses (sym e)
    only (Md l) v e = ap Md (gives-same e)

    never : (n : ℕ) → 7 < n → (l : Layout) → ¬ (as_md l ≡ refuses n 0)
    never n h (Area l) e = seven_only h e
    never n h (Grid l) e = seven_only h e
    never n h (Md l) e = gives-refuses e

-- 10 is not 9
ten_nine : {Value : Type 0} → ¬ (◌≡◌ {A = Answer Value} (refuses 10 0) (refuses 9 0))
ten_nine e = let same : ◌≡◌ {A = ℕ} 10 9 = cc in let z : ⊥ = omega arith in z

-- what a call of a kind finds
module _ {Value : Type 0} {kind : Value → Layout} {own : Layout → Answer Value} (k : OneKind kind own) (f : List ℕ) (l : Layout) where
  -- its own layout, exactly where that is the layout, and fresh
  value-found : (v : Value) → (found own f l ≡ gives v) ↔ ((l ≡ kind v) × Fresh f (kind v))
  value-found v = (
    λ e.
        let x = (found_only own f l (gives v) (λ h. gives-refuses h)).0 e in
        let same : l ≡ kind v = k.only l v x.1 in
        (same, subst (Fresh f) same x.0),
    λ p. found_fresh own f l (subst (Fresh f) (sym p.0) p.1) ∙ ap own p.0 ∙ k.given v,
  )

  -- a call that goes on with the layout gives a value exactly where it is the layout, and fresh, and the call gives that value
  value_then : {Other : Type 0} (h : Value → Answer Other) (w : Other)
      → (and_then (found own f l) h ≡ gives w) ↔ ((v : Value) × ((l ≡ kind v) × Fresh f (kind v)) × (h v ≡ gives w))
  value_then h w =
      let x = then_gives h (found own f l) w in (
        λ e. let (v, here, given) = x.0 e in (v, (value-found v).0 here, given),
        λ p. x.1 (p.0, (value-found p.0).1 p.1, p.2),
      )

  -- 9 exactly where the layout is stale
  stale-found : (found own f l ≡ refuses 9 0) ↔ (¬ Fresh f l)
  stale-found = stale_exactly own f l (k.never 9 nine l)

  -- 7 exactly where it is fresh, and of another kind
  other_found : (found own f l ≡ refuses 7 0) ↔ (Fresh f l × (own l ≡ refuses 7 0))
  other_found = found_only own f l (refuses 7 0) (seven_only nine)

  -- never 10
  ten_found : ¬ (found own f l ≡ refuses 10 0)
  ten_found e = k.never 10 (omega arith) l ((found_only own f l (refuses 10 0) (λ same. ten_nine same)).0 e).1

  -- a call that goes on with the layout, and never refuses 9 by itself, refuses it exactly where the layout is stale
  then_stale : {Other : Type 0} (h : Value → Answer Other) → ((v : Value) → ¬ (h v ≡ refuses 9 0))
      → (and_then (found own f l) h ≡ refuses 9 0) ↔ (¬ Fresh f l)
  then_stale h never = (
    λ e fresh. then_never h (found own f l) 9 0 (λ q. stale-found.0 q fresh) never e,
    λ stale. then_refused h (found own f l) 9 0 (stale-found.1 stale),
  )

-- ---- AREA

-- an AREA call finds a layout exactly where it is the layout, and opening the file gives it
pub area-found : (f : List ℕ) (l : Layout) (a : AreaLayout) → (area_of f l ≡ gives a) ↔ ((l ≡ Area a) × (open_area f ≡ gives a))
area-found f l a =
    let x = value-found area-kind f l a in
    (λ e. ((x.0 e).0, (fresh_area f a).0 (x.0 e).1), λ p. x.1 (p.0, (fresh_area f a).1 p.1))

-- a call that goes on with it gives a value exactly where that is so, and it gives the value
pub area_then : {Other : Type 0} (f : List ℕ) (l : Layout) (h : AreaLayout → Answer Other) (w : Other)
    → (and_then (area_of f l) h ≡ gives w) ↔ ((a : AreaLayout) × ((l ≡ Area a) × (open_area f ≡ gives a)) × (h a ≡ gives w))
area_then f l h w =
    let x = value_then area-kind f l h w in (
      λ e. let (a, (same, fresh), given) = x.0 e in (a, (same, (fresh_area f a).0 fresh), given),
      λ p. x.1 (p.0, (p.1.0, (fresh_area f p.0).1 p.1.1), p.2),
    )

-- what is known of it
pub area_known : (f : List ℕ) (l : Layout) (a : AreaLayout) → area_of f l ≡ gives a → AreaOf f a
area_known f l a e = area_of_lem f a ((area-found f l a).0 e).1

-- it is refused with 9 exactly where the layout is stale
pub area-stale : (f : List ℕ) (l : Layout) → (area_of f l ≡ refuses 9 0) ↔ (¬ Fresh f l)
area-stale f l = stale-found area-kind f l

-- never with 10, which is left to outputs that are too short
pub area_ten : (f : List ℕ) (l : Layout) → ¬ (area_of f l ≡ refuses 10 0)
area_ten f l = ten_found area-kind f l

-- with 7 exactly where it is fresh, and of another kind
pub area_other : (f : List ℕ) (l : Layout) → (area_of f l ≡ refuses 7 0) ↔ (Fresh f l × (as_area l ≡ refuses 7 0))
area_other f l = other_found area-kind f l

-- so is a call that goes on with the layout and never refuses 9 by itself
pub area_nine : {Other : Type 0} (f : List ℕ) (l : Layout) (h : AreaLayout → Answer Other) → ((a : AreaLayout) → ¬ (h a ≡ refuses 9 0))
    → (and_then (area_of f l) h ≡ refuses 9 0) ↔ (¬ Fresh f l)
area_nine f l h never = then_stale area-kind f l h never

-- ---- GRID

pub grid-found : (f : List ℕ) (l : Layout) (g : GridLayout)
    → (grid_of f l ≡ gives g) ↔ ((l ≡ Grid g) × (open_grid g.order f g.number ≡ gives g))
grid-found f l g =
    let x = value-found grid-kind f l g in
    (λ e. ((x.0 e).0, (fresh_grid f g).0 (x.0 e).1), λ p. x.1 (p.0, (fresh_grid f g).1 p.1))

pub grid_known : (f : List ℕ) (l : Layout) (g : GridLayout) → grid_of f l ≡ gives g → GridOf g.order f g.number g
grid_known f l g e = grid_of_lem g.order f g.number g ((grid-found f l g).0 e).1

pub grid-stale : (f : List ℕ) (l : Layout) → (grid_of f l ≡ refuses 9 0) ↔ (¬ Fresh f l)
grid-stale f l = stale-found grid-kind f l

pub grid_ten : (f : List ℕ) (l : Layout) → ¬ (grid_of f l ≡ refuses 10 0)
grid_ten f l = ten_found grid-kind f l

pub grid_other : (f : List ℕ) (l : Layout) → (grid_of f l ≡ refuses 7 0) ↔ (Fresh f l × (as_grid l ≡ refuses 7 0))
grid_other f l = other_found grid-kind f l

pub grid_nine : {Other : Type 0} (f : List ℕ) (l : Layout) (h : GridLayout → Answer Other) → ((g : GridLayout) → ¬ (h g ≡ refuses 9 0))
    → (and_then (grid_of f l) h ≡ refuses 9 0) ↔ (¬ Fresh f l)
grid_nine f l h never = then_stale grid-kind f l h never

-- ---- MD

pub md-found : (f : List ℕ) (l : Layout) (m : MdLayout) → (md_of f l ≡ gives m) ↔ ((l ≡ Md m) × (open_md m.order f ≡ gives m))
md-found f l m =
    let x = value-found md-kind f l m in
    (λ e. ((x.0 e).0, (fresh_md f m).0 (x.0 e).1), λ p. x.1 (p.0, (fresh_md f m).1 p.1))

pub md_then : {Other : Type 0} (f : List ℕ) (l : Layout) (h : MdLayout → Answer Other) (w : Other)
    → (and_then (md_of f l) h ≡ gives w) ↔ ((m : MdLayout) × ((l ≡ Md m) × (open_md m.order f ≡ gives m)) × (h m ≡ gives w))
md_then f l h w =
    let x = value_then md-kind f l h w in (
      λ e. let (m, (same, fresh), given) = x.0 e in (m, (same, (fresh_md f m).0 fresh), given),
      λ p. x.1 (p.0, (p.1.0, (fresh_md f p.0).1 p.1.1), p.2),
    )

pub md_known : (f : List ℕ) (l : Layout) (m : MdLayout) → md_of f l ≡ gives m → MdOf m.order f m
md_known f l m e = md_of_lem m.order f m ((md-found f l m).0 e).1

pub md-stale : (f : List ℕ) (l : Layout) → (md_of f l ≡ refuses 9 0) ↔ (¬ Fresh f l)
md-stale f l = stale-found md-kind f l

pub md_ten : (f : List ℕ) (l : Layout) → ¬ (md_of f l ≡ refuses 10 0)
md_ten f l = ten_found md-kind f l

pub md_other : (f : List ℕ) (l : Layout) → (md_of f l ≡ refuses 7 0) ↔ (Fresh f l × (as_md l ≡ refuses 7 0))
md_other f l = other_found md-kind f l

pub md_nine : {Other : Type 0} (f : List ℕ) (l : Layout) (h : MdLayout → Answer Other) → ((m : MdLayout) → ¬ (h m ≡ refuses 9 0))
    → (and_then (md_of f l) h ≡ refuses 9 0) ↔ (¬ Fresh f l)
md_nine f l h never = then_stale md-kind f l h never
