-- `calendar::date_in` meets its contract: the month is one of twelve, and begins before the day ends.
-- Assumes nothing.
use mathlib.Core.Path.{◌≡◌, ap, ap₂, ◌∙◌}
use Prim.Native.Nat.{◌<◌}
use native.Mathlib.Omega.{arith}
use Rattle.calendar_rules.specs.Gregorian.{leap, days_before, month_of}
use Rattle.calendar_rules.proofs.Months.{month_lies}
use Rattle.calendar.proofs.date_in.Goals as goal

-- the month that was found
month-is : (c : goal.After-month_of-month) → let a = c.args in c.month_of-month.result ≡ month_of (leap a.year) a.day
month-is c = c.month_of-month.ensures ∙ ap (λ t. month_of t c.args.day) c.is_leap-leap.ensures

month-small : (c : goal.After-month_of-month) → c.month_of-month.result < 12
month-small c =
    let a = c.args in
    omega (arith, month-is c, (month_lies (leap a.year) a.day 11).month)

-- the days before it
days-are : (c : goal.After-days_before)
    → let a = c.args in c.days_before.result ≡ days_before (leap a.year) (month_of (leap a.year) a.day)
days-are c = c.days_before.ensures ∙ ap₂ days_before c.is_leap-leap.ensures (month-is c.before)

pub overflow_add-result : goal.overflow_add-result
overflow_add-result c = omega (arith, month-small c)

pub overflow_cast-result : goal.overflow_cast-result
overflow_cast-result c = omega (arith, month-small c)

pub days_before-requires : goal.days_before-requires
days_before-requires c = month-small c

pub overflow_sub-result : goal.overflow_sub-result
overflow_sub-result c =
    let s = c in
    omega (arith, days-are c, (month_lies (leap s.args.year) s.args.day 11).starts s.requires)
