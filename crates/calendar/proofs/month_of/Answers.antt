-- `calendar::month_of` meets its contract. The loop goes up from the month behind one that has begun: each month before the one it is at begins before the
-- day ends.
-- Assumes nothing.
use mathlib.Core.Path.{◌≡◌, sym, ◌∙◌}
use Prim.Native.Nat.{suc, ◌+◌, ◌-◌, ◌≤◌}
use native.Mathlib.Omega.{arith}
use Rattle.calendar_rules.specs.Gregorian.{days_before}
use Rattle.calendar_rules.proofs.Months.{last_stays, last_from}
use Rattle.calendar.proofs.month_of.Goals as goal

pub loop-month-init : goal.loop-month-init
loop-month-init c =
    let a = c.args in
    let first = c.min-first.result in
    let e : first + 1 - 1 ≡ first = omega arith in
    rw e (last_from a.leap a.day first (omega (arith, c.min-first.ensures)) (omega (arith, c.min-first.ensures)))

pub returns-then-day-days_before : goal.returns-then-day-days_before
returns-then-day-days_before c =
    let a = c.args in
    let l = c.loop-month in
    let here : suc (l.month - 1) ≡ l.month = omega arith in
    let past : a.day ≤ days_before a.leap (suc (l.month - 1)) = rw here (omega (arith, c.days_before.ensures)) in
    sym (last_stays a.leap a.day (l.month - 1) 11 (omega arith) past ∙ l.invariant)
