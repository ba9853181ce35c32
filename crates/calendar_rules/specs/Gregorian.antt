-- The Gregorian calendar: leap years, months, and the day of the year.
-- Assumes nothing.
use Rattle.std.specs.Prelude.{Bool, not, List, [], ◌∷◌, ℕ, zero, suc, ◌+◌, ◌-◌, ◌%◌, ◌≤◌, ltb, eqb, get_or}
use Rattle.lists.specs.Choices.{pick, both, either}
use Rattle.calendar_rules.specs.declared.Date.{Date}

-- whether a year is a leap year: four divides it, but not a hundred, unless four hundred does
unfoldable pub leap : ℕ → Bool
leap year = both (eqb (year % 4) 0) (either (not (eqb (year % 100) 0)) (eqb (year % 400) 0))

-- the days of each month of a year, January first
abbrev pub month_lengths : Bool → List ℕ
month_lengths isLeap = 31 ∷ pick isLeap 29 28 ∷ 31 ∷ 30 ∷ 31 ∷ 30 ∷ 31 ∷ 31 ∷ 30 ∷ 31 ∷ 30 ∷ 31 ∷ []

-- the days of a year before a month, which is counted from 0
unfoldable pub days_before : Bool → ℕ → ℕ
days_before isLeap zero = 0
days_before isLeap (suc month) = days_before isLeap month + get_or (month_lengths isLeap) month 0

-- the days of a year
abbrev pub year_length : Bool → ℕ
year_length isLeap = days_before isLeap 12

-- d is a date of the calendar: its month is from 1 to 12, and its day from 1 to the last of that month
pub record IsDate (d : Date) : Type 0 where
  pub month_from : 1 ≤ d.month
  pub month_to : d.month ≤ 12
  pub day_from : 1 ≤ d.day
  pub day_to : d.day ≤ get_or (month_lengths (leap d.year)) (d.month - 1) 0

-- the day of the year of a date, counted from 1
abbrev pub day_of_year : Date → ℕ
day_of_year d = days_before (leap d.year) (d.month - 1) + d.day

-- the last of the months up to `month` that begins before a day of the year ends; months are counted from 0
unfoldable pub last_before : Bool → ℕ → ℕ → ℕ
last_before isLeap day zero = 0
last_before isLeap day (suc month) = pick (ltb (days_before isLeap (suc month)) day) (suc month) (last_before isLeap day month)

-- the month in which a day of the year lies, counted from 0
abbrev pub month_of : Bool → ℕ → ℕ
month_of isLeap day = last_before isLeap day 11

-- the date of a day of a year
unfoldable pub date_in : ℕ → ℕ → Date
date_in year day =
    record {
      year = year;
      month = month_of (leap year) day + 1;
      day = day - days_before (leap year) (month_of (leap year) day);
    }
