-- The comparison of byte orders.
-- Assumes nothing.
use mathlib.Core.Path.{◌≡◌, refl}
use lib.Dec.{eqb}
use denote.Enum.Bare.{sameb}
use Rattle.endian_rules.specs.Words.{order_number}
use Rattle.endian_rules.specs.contracts.Order.{the_type}
use Rattle.endian_rules.specs.declared.Order.{Order}
use Rattle.endian_rules.specs.declared.Order.TheVariants.{Big, Little}

-- two orders compare as their numbers do
pub order_numbers : (x y : Order) → sameb the_type x y ≡ eqb (order_number x) (order_number y)
order_numbers Big Big = refl
order_numbers Big Little = refl
order_numbers Little Big = refl
order_numbers Little Little = refl
