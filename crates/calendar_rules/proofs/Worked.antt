-- The dates that document 01 names, and the edges of the two rules, computed.
-- Assumes nothing.
use mathlib.Core.Path.{◌≡◌, refl}
use mathlib.Core.Bool.{true, false}
use lib.IntN.{pos, negsuc}
use Rattle.refusal_rules.specs.Rules.{judge, first, first_fault}
use Rattle.refusal_rules.specs.Answers.{gives, refuses}
use Rattle.refusal_rules.specs.Tests.{within}
use Rattle.calendar_rules.specs.Gregorian.{leap, days_before, last_before, date_in}
use Rattle.calendar_rules.specs.Dates.{date_rules, date_of}
use Rattle.calendar_rules.specs.Times.{time_rules, time_of}

-- of the hundreds only every fourth is a leap year
hundreds : (leap 1900 ≡ false) × ((leap 2000 ≡ true) × ((leap 2100 ≡ false) × (leap 2200 ≡ false)))
unfolding leap
hundreds = (refl, (refl, (refl, refl)))

-- 100366 is 31 December 2000, and 99366 is refused with 11
day_366_of_2000 : date_of (pos 100366) ≡ gives (record { year = 2000; month = 12; day = 31 })
unfolding date_of date_rules first_fault first judge within leap days_before last_before date_in
day_366_of_2000 = refl

day_366_of_1999 : date_of (pos 99366) ≡ refuses 11 0
unfolding date_of date_rules first_fault first judge within leap days_before last_before date_in
day_366_of_1999 = refl

-- day 0 is no day, and a negative word is no date
day_zero : date_of (pos 0) ≡ refuses 11 0
unfolding date_of date_rules first_fault first judge within leap days_before last_before date_in
day_zero = refl

negative_word : date_of (negsuc 0) ≡ refuses 11 0
unfolding date_of date_rules first_fault first judge
negative_word = refl

-- the last second of a day, and one after it
last_second : time_of (pos 235959) ≡ gives (record { hours = 23; minutes = 59; seconds = 59 })
unfolding time_of time_rules first_fault first judge
last_second = refl

hour_24 : time_of (pos 240000) ≡ refuses 11 0
unfolding time_of time_rules first_fault first judge
hour_24 = refl
