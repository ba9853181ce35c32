-- Time words: document 01, "Dates". hhmmss has hours to 23, minutes and seconds to 59. A word is signed.
-- Assumes nothing.
use Rattle.std.specs.Prelude.{◌≡◌, List, [], ◌∷◌, ◌+◌, ◌*◌, ◌/◌, ◌%◌, ◌≤◌, leb, ℤ, pos, nat_abs}
use Rattle.std.specs.Int.Signed.{le_z}
use Rattle.refusal_rules.specs.Rules.{Rule, rule, first_fault}
use Rattle.refusal_rules.specs.Answers.{Answer, answered}
use Rattle.calendar_rules.specs.declared.TimeOfDay.{TimeOfDay}

-- the hours, minutes and seconds that a time word holds
abbrev pub time_in : ℤ → TimeOfDay
time_in word = record { hours = nat_abs word / 10000; minutes = nat_abs word / 100 % 100; seconds = nat_abs word % 100 }

-- the rules of a time word: refusal 11, place 0
unfoldable pub time_rules : ℤ → List Rule
time_rules word =
    rule (le_z (pos 0) word) 11 0
    ∷ rule (leb (time_in word).hours 23) 11 0
    ∷ rule (leb (time_in word).minutes 59) 11 0
    ∷ rule (leb (time_in word).seconds 59) 11 0
    ∷ []

-- the answer of the time call: the time of day, or the refusal of the first rule that fails
unfoldable pub time_of : ℤ → Answer TimeOfDay
time_of word = answered (first_fault (time_rules word)) (time_in word)

-- a word is the hhmmss of a time of day
pub record TimeWord (word : ℤ) (t : TimeOfDay) : Type 0 where
  pub hours : t.hours ≤ 23
  pub minutes : t.minutes ≤ 59
  pub seconds : t.seconds ≤ 59
  pub hhmmss : word ≡ pos (10000 * t.hours + 100 * t.minutes + t.seconds)
