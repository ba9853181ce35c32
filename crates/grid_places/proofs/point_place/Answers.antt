-- `grid_places::point_place` meets its contract: the verdict picks the answer.
-- Assumes nothing.
use mathlib.Core.Path.{◌≡◌, sym}
use native.Mathlib.Omega.{arith}
use Rattle.refusal_rules.proofs.Tables.{pass_hold}
use Rattle.grid_rules.specs.Points.{point_word}
use Rattle.grid_rules.proofs.Sizes.{points_most}
use Rattle.grid_rules.proofs.Tables.{points_hold}
use Rattle.grid_places.proofs.point_place.Goals as goal

pub point_word-requires : goal.point_word-requires
point_word-requires c = (points_hold _ _ _).0 (pass_hold _ (sym c.in_ok-point_verdict.ensures))

pub overflow_mul-result : goal.overflow_mul-result
overflow_mul-result c =
    let s = c in
    let h = (points_hold _ _ _).0 (pass_hold _ (sym c.in_ok-point_verdict.ensures)) in
    let word : c.point_word.result ≡ point_word s.args.layout s.args.row s.args.column = c.point_word.ensures in
    omega (arith, word, s.well_formed.0, s.ranges.row, points_most h.0 s.args.column h.1.column_to)
