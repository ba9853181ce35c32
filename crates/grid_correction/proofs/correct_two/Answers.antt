-- `grid_correction::correct_two` meets its contract: two calls that keep their contracts, one after the other, are a run of stores.
-- Assumes nothing.
use mathlib.Core.Path.{◌≡◌, refl, ap, ap₂, ◌∙◌}
use mir.Syntax.{w32}
use mir.Val.{to_z, of_z}
use borrow.Author.Rules.{rules}
use Rattle.store_theory.specs.Series.{call, done}
use Rattle.store_theory.proofs.Series.{run_is}
use Rattle.store_rules.specs.Stores.{stores_in, store_point}
use Rattle.grid_correction.proofs.correct_two.Goals as goal

pub returns : goal.returns
returns c =
    let a = c.args in
    let x = a.first in
    let y = a.second in
    let one = c.store_point-one in
    let same : to_z w32 (of_z w32 x.value) ≡ x.value = search rules in
    let same-2 : to_z w32 (of_z w32 y.value) ≡ y.value = search rules in
    let (told, left) =
    run_is stores_in
    (call (one.ensures ∙ ap (store_point a.file.now a.layout x.row x.column) same)
    (call (c.store_point-other.ensures ∙ ap (store_point one.new.file a.layout y.row y.column) same-2)
    (done refl))) in
    ap₂ (λ r g. (r, g)) told left
