-- What the tables of rules of AREA places ask, as statements: each holds exactly where there is such a line, or such a line and element.
-- Assumes nothing.
use mathlib.Core.Logic.{◌↔◌}
use Prim.Native.Nat.{ℕ, ◌<◌}
use Rattle.refusal_rules.specs.Rules.{Hold}
use Rattle.refusal_rules.proofs.Exactness.{lt_exactly}
use Rattle.refusal_rules.proofs.Tables.{also}
use Rattle.area_rules.specs.declared.AreaLayout.{AreaLayout}
use Rattle.area_rules.specs.Bounds.{AreaBounds}
use Rattle.area_rules.specs.Places.{line_rules, sample_rules}
use Rattle.area_rules.proofs.Bounds.{area_bounds}

-- a line
pub lines-hold : (l : AreaLayout) (i : ℕ) → Hold (line_rules l i) ↔ (AreaBounds l × (i < l.lines))
unfolding line_rules
lines-hold l i = (
  λ h. ((area_bounds l).sound h.0, (lt_exactly i l.lines).sound h.1.0),
  λ p. also ((area_bounds l).complete p.0) (also ((lt_exactly i l.lines).complete p.1) tt),
)

-- a line and an element
pub samples_hold : (l : AreaLayout) (i e : ℕ) → Hold (sample_rules l i e) ↔ (AreaBounds l × ((i < l.lines) × (e < l.elements)))
unfolding sample_rules
samples_hold l i e = (
  λ h. ((area_bounds l).sound h.0, ((lt_exactly i l.lines).sound h.1.0, (lt_exactly e l.elements).sound h.1.1.0)),
  λ p.
      also ((area_bounds l).complete p.0)
      (also ((lt_exactly i l.lines).complete p.1.0) (also ((lt_exactly e l.elements).complete p.1.1) tt)),
)
