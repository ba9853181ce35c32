-- Where the points of an accepted grid lie: at the paper's addresses. A layout that opening gives is within bounds, so the test of bounds never refuses it.
-- Refusal 9 is left to layouts that are stale.
-- Assumes nothing.
use mathlib.Core.Path.{◌≡◌}
use mathlib.Core.Bool.{false}
use mathlib.Core.Logic.{◌↔◌}
use Prim.Native.Nat.{ℕ, ◌<◌}
use Rattle.refusal_rules.specs.Answers.{gives, refuses, word_place}
use Rattle.refusal_rules.specs.Rules.{first_fault, first, judge}
use Rattle.refusal_rules.specs.declared.Place.{Place}
use Rattle.refusal_rules.proofs.Answers.{value_exactly, never_refused, above_seven}
use Rattle.grid_rules.specs.Points.{point_word, IsPoint, GridFits}
use Rattle.grid_rules.specs.declared.GridLayout.{GridLayout}
use Rattle.grid_rules.specs.Places.{point_rules, point_place}
use Rattle.grid_rules.specs.Bounds.{grid_bounded}
use Rattle.grid_rules.proofs.Bounds.{grid_bounds, grid_bounded_lem}
use Rattle.grid_rules.proofs.Tables.{points_hold}

-- a point has a place exactly where there is such a point, and then at word offset + 64 + (c-1)·rows + (r-1)
pub point_place_lem : (l : GridLayout) → GridFits l → (r c : ℕ) (p : Place)
    → (point_place l r c ≡ gives p) ↔ (IsPoint l r c × (p ≡ word_place (point_word l r c)))
unfolding point_place
point_place_lem l fits r c p =
    let x = value_exactly (point_rules l r c) (word_place (point_word l r c)) p in
    let y = points_hold l r c in (
      λ e. ((y.0 (x.0 e).0).1, (x.0 e).1),
      λ h. x.1 (y.1 ((grid_bounds l).sound (grid_bounded_lem l fits), h.0), h.1),
    )

-- the place of a point, by a layout alone, is never refused with a number above 7, at any place
pub point_never : (n p : ℕ) → 7 < n → (l : GridLayout) (r c : ℕ) → ¬ (point_place l r c ≡ refuses n p)
unfolding point_place point_rules
point_never n p h l r c = never_refused (point_rules l r c) _ n p (above_seven h, (above_seven h, (above_seven h, tt)))

-- A layout with rows or columns above what opening accepts, which only a caller can have made up, has no point: 7. The offset, the other field that addresses are
-- computed from, is not tested: whatever it is, no sum of it fails.
pub point_unbounded : (l : GridLayout) → grid_bounded l ≡ false → (r c : ℕ) → point_place l r c ≡ refuses 7 0
unfolding point_place point_rules first_fault first judge
point_unbounded l above r c = rw above
