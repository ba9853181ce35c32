-- `endian_steps::read_number` meets its contract: in either order the sum is that of `number-sum`, over four digits at every width.
-- Assumes nothing.
use mathlib.Core.Path.{◌≡◌}
use mathlib.Core.List.{List}
use Prim.Native.Nat.{ℕ, ◌+◌, ◌-◌, ◌≤◌}
use native.Mathlib.Omega.{arith}
use lib.ListN.{get_or, take, drop}
use Rattle.endian_rules.specs.Numbers.{ordered, number_at}
use Rattle.endian_rules.specs.declared.Order.{Order}
use Rattle.endian_rules.specs.declared.Order.TheVariants.{Big, Little}
use Rattle.endian_rules.proofs.Numbers.{sum_of_powers}
use Rattle.endian_rules.proofs.Places.{number-sum}
use Rattle.endian_steps.proofs.read_number.Goals as goal

-- the number that the contract asks for, as a sum over the bytes that the code takes
summed : (order o : Order) (width : ℕ) (file : List ℕ) (at : ℕ) → order ≡ o → width ≤ 4
    → number_at order width file at ≡ sum_of_powers (λ k. get_or (ordered o (take (at + width - at) (drop at file))) k 0) 4
summed order o width file at e fits =
    let long : at + width - at ≡ width = omega arith in
    rw (e, long) (number-sum o width file at 4 fits)

pub returns-in-Big : goal.returns-in-Big
unfolding sum_of_powers
returns-in-Big c =
    let a = c.args in
    omega (arith, summed a.order Big a.width a.file.now a.at c.in-Big.is c.requires.0)

pub returns-in-Little : goal.returns-in-Little
unfolding sum_of_powers
returns-in-Little c =
    let a = c.args in
    omega (arith, summed a.order Little a.width a.file.now a.at c.in-Little.is c.requires.0)
