-- `md_keys::find_in` meets its contract: no position before the one that the loop is at has the name.
-- Assumes nothing.
use mathlib.Core.Path.{sym, ◌∙◌}
use native.Mathlib.Omega.{arith}
use Rattle.md_part_rules.proofs.Names.{name_found, name_none, name_other, none_more}
use Rattle.md_keys.proofs.find_in.Goals as goal

pub returns-then-name-ne4 : goal.returns-then-name-ne4
returns-then-name-ne4 c = sym (name_other _ _ _ c.if-name-ne4.true)

pub returns-then-is_named : goal.returns-then-is_named
returns-then-is_named c =
    let l = c.loop-position in
    let named = sym c.is_named.ensures ∙ c.if-is_named.true in
    sym (name_found _ _ _ _ c.if-name-ne4.false (record { from = omega arith; to = c.loop-position-test.true; passes = named; before = l.invariant }))

pub returns-else-is_named : goal.returns-else-is_named
returns-else-is_named c =
    let l = c.loop-position in
    let other = sym c.is_named.ensures ∙ c.if-is_named.false in
    sym (name_none _ _ _ c.if-name-ne4.false (λ j from lt. none_more _ _ l.invariant other j from (omega arith)))
