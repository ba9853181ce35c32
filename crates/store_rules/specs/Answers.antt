-- What a store's answer says, and a store by the name of its value.
-- Assumes nothing.
use Rattle.std.specs.Prelude.{List, ℕ}
use Rattle.store_theory.specs.Plans.{outcome}
use Rattle.layout_rules.specs.Layouts.{layout_order}
use Rattle.layout_rules.specs.declared.Layout.{Layout}
use Rattle.value_rules.specs.declared.ValueName.{ValueName}
use Rattle.value_rules.specs.Reading.{place_in}
use Rattle.store_rules.specs.Stores.{Done, put_in}

-- what a store is answered, and the file that it leaves, by the name of the value and the unsigned number that its bits are
abbrev pub store_at : List ℕ → Layout → ValueName → ℕ → Done × List ℕ
store_at f l x n = outcome f (put_in (layout_order l) n (place_in f l x))
