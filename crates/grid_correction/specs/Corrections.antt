-- What the corrections of the example do, in the terms of the calls that they make.
-- Assumes nothing.
use Rattle.std.specs.Prelude.{List, [], ◌∷◌, ℕ, ℤ}
use Rattle.endian_rules.specs.declared.Order.{Order}
use Rattle.refusal_rules.specs.Answers.{Answer, gives, refuses, mapped, says}
use Rattle.store_theory.specs.Series.{leaves, replies}
use Rattle.grid_rules.specs.Opening.{open_grid}
use Rattle.layout_rules.specs.declared.Layout.{Layout}
use Rattle.layout_rules.specs.declared.Layout.TheVariants.{Grid}
use Rattle.value_rules.specs.Reading.{read_point}
use Rattle.store_rules.specs.Stores.{Store, Done, point, stores_in, store_point}
use Rattle.grid_correction.specs.declared.Correction.{Correction}
use Rattle.grid_correction.specs.declared.TwoAnswers.{TwoAnswers}

-- the value that a point had and the file after its correction, where opening answers a layout; else the refusal and the file as it was
abbrev pub corrected_by : List ℕ → Answer Layout → ℕ → ℕ → ℤ → Answer ℤ × List ℕ
corrected_by f (gives l) r c v = (read_point f l r c, (store_point f l r c v).1)
corrected_by f (refuses n p) r c v = (refuses n p, f)

-- what correcting a point of a grid answers, and the file that it leaves
abbrev pub correct_point : List ℕ → Order → ℕ → ℕ → ℕ → ℤ → Answer ℤ × List ℕ
correct_point f o g r c v = corrected_by f (mapped Grid (open_grid o f g)) r c v

-- a correction as a store
abbrev pub store_of : Layout → Correction → Store
store_of l x = record { layout = l; request = point x.row x.column x.value }

-- what two stores answer, one after the other
abbrev pub two_say : TwoAnswers → List Done
two_say r = says r.first ∷ says r.second ∷ []

-- what two corrections, one after the other, answer, and the file that they leave: a series of stores, as demand 3 speaks of them
abbrev pub correct_two : List ℕ → Layout → Correction → Correction → List Done × List ℕ
correct_two f l x y = (replies stores_in f (store_of l x ∷ store_of l y ∷ []), leaves stores_in f (store_of l x ∷ store_of l y ∷ []))
