-- `calendar::month_of` meets its contract. The loop goes up from the month behind one that has begun: each month before the one it is at begins before the
-- day ends.
-- Assumes nothing.
use mathlib.Core.Path.{◌≡◌}
use Prim.Native.Nat.{◌-◌}
use Rattle.calendar_rules.specs.Gregorian.{last_before}
use Rattle.calendar.proofs.month_of.Given as goal

abbrev pub invariant-loop-month : goal.invariant-loop-month
invariant-loop-month l = last_before l.leap l.day (l.month - 1) ≡ l.month - 1
