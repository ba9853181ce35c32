-- `md_places::field_word` meets its contract: a field is so many words behind the start of its part.
-- Assumes nothing.
use mathlib.Core.Path.{◌≡◌, sym, ap, ◌∙◌}
use Prim.Native.Nat.{ℕ, ◌+◌, ◌-◌}
use native.Mathlib.Omega.{arith}
use Rattle.md_rules.specs.Places.{part_word}
use Rattle.md_rules.proofs.Sizes.{part_most, field_in_part}
use Rattle.md_places.proofs.field_word.Goals as goal

pub overflow_add-result : goal.overflow_add-result
overflow_add-result c =
    let s = c in
    let start : c.part_word.result ≡ part_word s.args.layout s.args.row s.args.column = c.part_word.ensures in
    let is = s.requires.1 in
    omega (arith, start, s.ranges.position, part_most s.requires.0 s.args.row s.args.column is.row is.column (omega (arith, s.well_formed.0)) (omega (arith, s.well_formed.0)))

pub returns : goal.returns
returns c =
    let a = c.args in
    ap (λ (w : ℕ). w + (a.position - 1)) c.part_word.ensures ∙ sym (field_in_part a.layout a.row a.column a.position)
