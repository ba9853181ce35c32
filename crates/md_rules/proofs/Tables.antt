-- What the tables of rules of MD places ask, as statements: each holds exactly where there is such a part or field.
-- Assumes nothing.
use mathlib.Core.Logic.{◌↔◌}
use mathlib.Core.List.{[], ◌∷◌}
use Prim.Native.Nat.{ℕ, ◌≤◌}
use Rattle.refusal_rules.specs.Rules.{rule, Hold}
use Rattle.refusal_rules.specs.Tests.{within}
use Rattle.refusal_rules.proofs.Exactness.{le_exactly, within_exactly}
use Rattle.refusal_rules.proofs.Tables.{hold-append, also}
use Rattle.md_rules.specs.Fields.{fields_of, IsField}
use Rattle.md_rules.specs.declared.MdLayout.{MdLayout}
use Rattle.md_rules.specs.Bounds.{MdBounds}
use Rattle.md_rules.specs.Places.{part_rules, field_rules}
use Rattle.md_rules.proofs.Bounds.{md_bounds}

-- a part
pub parts_hold : (l : MdLayout) (r c : ℕ) → Hold (part_rules l r c) ↔ (MdBounds l × ((r ≤ l.rows) × (c ≤ l.columns)))
unfolding part_rules
parts_hold l r c = (
  λ h. ((md_bounds l).sound h.0, ((le_exactly r l.rows).sound h.1.0, (le_exactly c l.columns).sound h.1.1.0)),
  λ p.
      also ((md_bounds l).complete p.0)
      (also ((le_exactly r l.rows).complete p.1.0) (also ((le_exactly c l.columns).complete p.1.1) tt)),
)

-- a field
pub fields_hold : (l : MdLayout) (r c f : ℕ) → Hold (field_rules l r c f) ↔ (MdBounds l × IsField l r c f)
unfolding field_rules
fields_hold l r c f =
    let both = hold-append (part_rules l r c) (rule (within 1 (fields_of l r c) f) 7 0 ∷ []) in
    let part = parts_hold l r c in
    let field = within_exactly 1 (fields_of l r c) f in (
      λ h.
          let (bounds, (row, column)) = part.0 (both.0 h).0 in
          let (from, to) = field.sound (both.0 h).1.0 in
          (bounds, record { row = row; column = column; from = from; to = to }),
      λ p. both.1 (part.1 (p.0, (p.1.row, p.1.column)), also (field.complete (p.1.from, p.1.to)) tt),
    )
