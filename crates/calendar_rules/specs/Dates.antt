-- Date words: document 01, "Dates". yyyddd is 1000·(year - 1900) + day of the year, from 0 to 999,999, the day within that
-- Gregorian year. A word is signed.
-- Assumes nothing.
use Rattle.std.specs.Prelude.{◌≡◌, List, [], ◌∷◌, ℕ, ◌+◌, ◌-◌, ◌*◌, ◌/◌, ◌%◌, ◌≤◌, leb, ℤ, pos, nat_abs}
use Rattle.std.specs.Int.Signed.{le_z}
use Rattle.refusal_rules.specs.Rules.{Rule, rule, first_fault}
use Rattle.refusal_rules.specs.Answers.{Answer, answered}
use Rattle.refusal_rules.specs.Tests.{within}
use Rattle.calendar_rules.specs.Gregorian.{leap, year_length, IsDate, day_of_year, date_in}
use Rattle.calendar_rules.specs.declared.Date.{Date}

-- the year that a date word holds
abbrev pub year_of : ℤ → ℕ
year_of word = 1900 + nat_abs word / 1000

-- the day of the year that a date word holds
abbrev pub day_of : ℤ → ℕ
day_of word = nat_abs word % 1000

-- the rules of a date word: refusal 11, place 0
unfoldable pub date_rules : ℤ → List Rule
date_rules word =
    rule (le_z (pos 0) word) 11 0
    ∷ rule (leb (nat_abs word) 999999) 11 0
    ∷ rule (within 1 (year_length (leap (year_of word))) (day_of word)) 11 0
    ∷ []

-- the answer of the date call: the date, or the refusal of the first rule that fails
unfoldable pub date_of : ℤ → Answer Date
date_of word = answered (first_fault (date_rules word)) (date_in (year_of word) (day_of word))

-- a word is the yyyddd of a date
pub record DateWord (word : ℤ) (d : Date) : Type 0 where
  pub date : IsDate d
  pub since : 1900 ≤ d.year
  pub yyyddd : word ≡ pos (1000 * (d.year - 1900) + day_of_year d)
  pub range : 1000 * (d.year - 1900) + day_of_year d ≤ 999999
