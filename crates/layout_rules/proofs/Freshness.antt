-- A layout is fresh exactly where opening these bytes, by the layout's own kind, order and grid number, gives it; and what a call finds by file
-- and layout.
-- Assumes nothing.
use mathlib.Core.Path.{◌≡◌, refl, sym, ap, ◌∙◌}
use mathlib.Core.Bool.{Bool, true, false, false≢true}
use mathlib.Core.Logic.{◌↔◌}
use mathlib.Core.List.{List}
use Prim.Native.Nat.{ℕ}
use native.Mathlib.Omega.{arith}
use Rattle.lists.specs.Choices.{pick}
use Rattle.refusal_rules.specs.Answers.{Answer, gives, refuses}
use Rattle.refusal_rules.specs.Tests.{Exactly}
use Rattle.refusal_rules.proofs.Answers.{gives-refuses, gives-same}
use Rattle.area_rules.proofs.Layouts.{same_area_exactly}
use Rattle.grid_rules.proofs.Acceptance.{same_grid_exactly}
use Rattle.md_rules.proofs.Acceptance.{same_md_exactly}
use Rattle.layout_rules.specs.Layouts.{reopened, Fresh, same_layout, gives_that, is_fresh}
use Rattle.layout_rules.specs.Found.{found}
use Rattle.layout_rules.specs.declared.Layout.{Layout}
use Rattle.layout_rules.specs.declared.Layout.TheVariants.{Area, Grid, Md}

-- ---- layouts that are the same

-- a number for each kind
kind_number : Layout → ℕ
kind_number (Area l) = 0
kind_number (Grid l) = 1
kind_number (Md l) = 2

-- layouts of different kinds are not the same
kinds_differ : (a b : Layout) → ¬ (kind_number a ≡ kind_number b) → Exactly false (a ≡ b)
kinds_differ a b h = record { sound = λ e. absurd (false≢true e); complete = λ e. absurd (h (ap kind_number e)) }

-- two layouts of one kind are the same exactly where what they carry is
kinds_same : {Value : Type 0} (kind : Value → Layout) {t : Bool} {a b : Value} → Exactly t (a ≡ b) → (kind a ≡ kind b → a ≡ b) → Exactly t (kind a ≡ kind b)
kinds_same kind x inject = record { sound = λ h. ap kind (x.sound h); complete = λ e. x.complete (inject e) }

-- whether two layouts are the same is told exactly
pub layout_exactly : (a b : Layout) → Exactly (same_layout a b) (a ≡ b)
unfolding kind_number
layout_exactly (Area a) (Area b) = kinds_same Area (same_area_exactly a b) (λ e. cc)
layout_exactly (Area a) (Grid b) = kinds_differ (Area a) (Grid b) (λ e. let z : ⊥ = omega arith in z)
layout_exactly (Area a) (Md b) = kinds_differ (Area a) (Md b) (λ e. let z : ⊥ = omega arith in z)
layout_exactly (Grid a) (Area b) = kinds_differ (Grid a) (Area b) (λ e. let z : ⊥ = omega arith in z)
layout_exactly (Grid a) (Grid b) = kinds_same Grid (same_grid_exactly a b) (λ e. cc)
layout_exactly (Grid a) (Md b) = kinds_differ (Grid a) (Md b) (λ e. let z : ⊥ = omega arith in z)
layout_exactly (Md a) (Area b) = kinds_differ (Md a) (Area b) (λ e. let z : ⊥ = omega arith in z)
layout_exactly (Md a) (Grid b) = kinds_differ (Md a) (Grid b) (λ e. let z : ⊥ = omega arith in z)
layout_exactly (Md a) (Md b) = kinds_same Md (same_md_exactly a b) (λ e. cc)

-- ---- freshness

-- whether an answer is a layout is told exactly
pub that_exactly : (l : Layout) (x : Answer Layout) → Exactly (gives_that l x) (x ≡ gives l)
that_exactly l (gives m) =
    let x = layout_exactly m l in record { sound = λ e. ap gives (x.sound e); complete = λ e. x.complete (gives-same e) }
that_exactly l (refuses n p) = record { sound = λ e. absurd (false≢true e); complete = λ e. gives-refuses (sym e) }

-- whether a layout is fresh is told exactly
pub fresh_exactly : (f : List ℕ) (l : Layout) → Exactly (is_fresh f l) (Fresh f l)
unfolding is_fresh
fresh_exactly f l = that_exactly l (reopened f l)

-- ---- what a call finds by file and layout

module _ {Value : Type 0} (own : Layout → Answer Value) (f : List ℕ) (l : Layout) where
  -- with a stale layout the call refuses 9
  pub found-stale : ¬ Fresh f l → found own f l ≡ refuses 9 0
  unfolding found
  found-stale h = step (is_fresh f l) refl
    where
      step : (t : Bool) → is_fresh f l ≡ t → pick t (own l) (refuses 9 0) ≡ refuses 9 0
      step true e = absurd (h ((fresh_exactly f l).sound e))
      step false e = refl

  -- with a fresh layout it says what its own rules say
  pub found_fresh : Fresh f l → found own f l ≡ own l
  unfolding found
  found_fresh h = ap (λ t. pick t (own l) (refuses 9 0)) ((fresh_exactly f l).complete h)

  -- by the test that tells which
  pub found_told : {t : Bool} → t ≡ is_fresh f l → t ≡ true → found own f l ≡ own l
  found_told x e = found_fresh ((fresh_exactly f l).sound (sym x ∙ e))

  pub stale_told : {t : Bool} → t ≡ is_fresh f l → t ≡ false → found own f l ≡ refuses 9 0
  stale_told x e = found-stale (λ h. false≢true (sym e ∙ x ∙ (fresh_exactly f l).complete h))

  -- any answer but refusal 9 is that of a fresh layout
  pub found_only : (x : Answer Value) → ¬ (x ≡ refuses 9 0) → (found own f l ≡ x) ↔ (Fresh f l × (own l ≡ x))
  unfolding found
  found_only x other = (step (is_fresh f l) refl, λ p. found_fresh p.0 ∙ p.1)
    where
      step : (t : Bool) → is_fresh f l ≡ t → pick t (own l) (refuses 9 0) ≡ x → Fresh f l × (own l ≡ x)
      step true e h = ((fresh_exactly f l).sound e, h)
      step false e h = absurd (other (sym h))

  -- where no kind refuses 9, it is given exactly to stale layouts
  pub stale_exactly : ¬ (own l ≡ refuses 9 0) → (found own f l ≡ refuses 9 0) ↔ (¬ Fresh f l)
  stale_exactly never = (λ e h. never (sym (found_fresh h) ∙ e), found-stale)
