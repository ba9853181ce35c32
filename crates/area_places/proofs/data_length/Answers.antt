-- `area_places::data_length` meets its contract: where a line has a length, the layout is within bounds, and the product fits.
-- Assumes nothing.
use mathlib.Core.Path.{sym, ap}
use Prim.Native.Nat.{ℕ, ◌*◌}
use native.Mathlib.Nat.{le_refl}
use native.Mathlib.Omega.{arith}
use Rattle.area_rules.proofs.Places.{line_length_exactly}
use Rattle.area_rules.proofs.Sizes.{lines_most}
use Rattle.area_places.proofs.data_length.Goals as goal

pub overflow_mul-result : goal.overflow_mul-result
overflow_mul-result c =
    let l = c.args.layout in
    let (bounds, same) = (line_length_exactly l _).0 (sym c.in_ok-line.ensures) in
    omega (arith, ap (λ (n : ℕ). l.lines * n) same, lines_most bounds l.lines (le_refl l.lines) (omega arith))
