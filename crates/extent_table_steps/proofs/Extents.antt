-- What a walk wants of the types of this crate's parameters and answers: `extent_rules::Extent`, of which a table is a slice, and `endian_rules::Order`.
--     value, values, tells, lawful, makes      an extent's machine value, alone and as a list, and what is known of it
--     ToldExtent                               a call has answered with the machine value of an extent
--     order_value, makes_order                 an order's machine value, and what it owns
--     told                                     an extent that has this machine value is related to the one that is written out
--     an_order, an_extent                      an order and an extent as parameters
-- Assumes nothing.
use mathlib.Core.Path.{refl}
use mathlib.Core.List.{List, [], ◌∷◌}
use Prim.Native.Nat.{ℕ}
use seplogic.Ra.Ura.{Ura}
use mir.Val.{Val}
use types.Logic.{Logic}
use denote.Laws.{Is, Tells, Lawful, Makes}
use denote.Enum.Laws as EL
use denote.Struct.Laws as LL
use Rattle.endian_rules.specs.declared.Order.{Order}
use Rattle.endian_rules.specs.contracts.Order as O
use Rattle.endian_rules.proofs.Order.TheLaws as O'
use Rattle.extent_rules.specs.declared.Extent.{Extent}
use Rattle.extent_rules.specs.contracts.Extent as X
use Rattle.extent_rules.proofs.Extent.TheLaws as X'
use Rattle.walks.proofs.Calls.{at_value, ValueIs}
use Rattle.walks.proofs.Known.{Value, enum, struct}

-- an extent's machine value
abbrev pub extent-value : Extent → Val
extent-value e = LL.val X.the_type X'.the_laws e

-- the same, as a list
abbrev pub extent_values : Extent → List Val
extent_values = LL.vals X.the_type X'.the_laws

-- it can only be that
abbrev pub extent_tells : Tells X.the_row (Is X.the_row) extent_values
extent_tells = LL.tells X.the_type X'.the_laws

-- an extent's relation at its machine value, written out
pub extent_told : (e : Extent) (w : Val) → Is X.the_row e (w ∷ []) → Is X.the_row e (extent-value e ∷ [])
extent_told e w = at_value X.the_row extent_values extent_tells e (w ∷ [])

-- a call has answered u, the machine value of e
abbrev pub ToldExtent : Extent → Val → Type 0
ToldExtent = ValueIs X.the_row extent_values

-- an order's machine value
abbrev pub order-value : Order → Val
order-value o = EL.val O.the_type O'.the_laws o

module _ {M : Type 1} {𝓤 : Ura M} (𝓛 : Logic 𝓤) where
  -- an extent's machine value is of its type
  abbrev pub lawful : Lawful 𝓛 X.the_row
  lawful = LL.lawful X.the_type X'.the_laws 𝓛

  -- what an extent owns is had for nothing
  abbrev pub makes : Makes 𝓛 X.the_row (Is X.the_row)
  makes = LL.makes X.the_type X'.the_plain 𝓛

  -- and what an order owns
  abbrev pub makes_order : Makes 𝓛 O.the_row (Is O.the_row)
  makes_order = EL.makes O.the_type O'.the_plain 𝓛

-- ---- the parameters
module _ {n : ℕ} where
  -- an order
  abbrev pub an_order : Value n
  an_order = enum O.the_type O'.the_laws tt O'.the_plain (λ κs x f. refl)

  -- an extent
  abbrev pub an_extent : Value n
  an_extent = struct X.the_type X'.the_laws X'.the_plain (λ κs x f. refl)
