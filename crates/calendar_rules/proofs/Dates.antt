-- A date word's answer is the only date of the Gregorian calendar with that yyyddd, and a word that is refused has none.
-- Assumes nothing.
use mathlib.Core.Path.{◌≡◌, refl, sym, ap, ap₂, ◌∙◌}
use mathlib.Core.Bool.{Bool, false≢true}
use mathlib.Core.Logic.{◌↔◌}
use Prim.Native.Nat.{ℕ, suc, ◌+◌, ◌-◌, ◌*◌, ◌≤◌, ◌<◌}
use native.Mathlib.Omega.{arith}
use lib.Dec.{leb-zero}
use lib.IntN.{ℤ, pos, negsuc, pos-ne-negsuc}
use lib.ListN.{get_or}
use borrow.Author.Tests.{leb-true, le-leb}
use Rattle.refusal_rules.specs.Rules.{Hold}
use Rattle.refusal_rules.specs.Answers.{gives, refuses}
use Rattle.refusal_rules.proofs.Exactness.{within_exactly}
use Rattle.refusal_rules.proofs.Answers.{value_exactly, exactly_one, exactly_none}
use Rattle.calendar_rules.specs.Gregorian.{leap, month_lengths, days_before, year_length, IsDate, day_of_year, month_of, date_in}
use Rattle.calendar_rules.specs.Dates.{year_of, day_of, date_rules, date_of, DateWord}
use Rattle.calendar_rules.specs.declared.Date.{Date}
use Rattle.calendar_rules.proofs.Months.{days_mono, year_most, month_only, Lies, month_lies}

-- ---- the rules

-- what the rules say of a word that is not negative
pub record Accepted (n : ℕ) : Type 0 where
  pub range : n ≤ 999999
  pub day_from : 1 ≤ day_of (pos n)
  pub day_to : day_of (pos n) ≤ year_length (leap (year_of (pos n)))

-- where they hold
pub hold_accepted : (n : ℕ) → Hold (date_rules (pos n)) → Accepted n
unfolding date_rules
hold_accepted n h =
    let day : (1 ≤ day_of (pos n)) × (day_of (pos n) ≤ year_length (leap (year_of (pos n)))) =
    (within_exactly 1 (year_length (leap (year_of (pos n)))) (day_of (pos n))).sound h.1.1.0 in
    record { range = leb-true n 999999 h.1.0; day_from = day.0; day_to = day.1 }

accepted_hold : (n : ℕ) → Accepted n → Hold (date_rules (pos n))
unfolding date_rules
accepted_hold n a = (
  leb-zero n,
  (
    le-leb n 999999 a.range,
    ((within_exactly 1 (year_length (leap (year_of (pos n)))) (day_of (pos n))).complete (a.day_from, a.day_to), tt),
  ),
)

-- they do not hold of a negative word
hold_negative : (n : ℕ) → Hold (date_rules (negsuc n)) → ⊥
unfolding date_rules
hold_negative n h = false≢true h.0

-- ---- from a word to its date

-- the date of an accepted word is one, and the word is its yyyddd
accepted_word : (n : ℕ) → Accepted n → DateWord (pos n) (date_in (year_of (pos n)) (day_of (pos n)))
unfolding date_in days_before
accepted_word n a =
    let isLeap : Bool = leap (year_of (pos n)) in
    let m : ℕ = month_of isLeap (day_of (pos n)) in
    let l : Lies isLeap (day_of (pos n)) 11 m = month_lies isLeap (day_of (pos n)) 11 in
    let starts : days_before isLeap m < day_of (pos n) = l.starts a.day_from in
    let ends : day_of (pos n) ≤ days_before isLeap m + get_or (month_lengths isLeap) m 0 = l.ends a.day_to in
    let same : m + 1 - 1 ≡ m = omega arith in
    let whole : n ≡ 1000 * (year_of (pos n) - 1900) + (days_before isLeap m + (day_of (pos n) - days_before isLeap m)) = omega arith in
    record {
      date =
          record {
            month_from = omega arith;
            month_to = omega (arith, l.month);
            day_from = omega arith;
            day_to = rw same (omega arith);
          };
      since = omega arith;
      yyyddd = rw same (ap pos whole);
      range = rw same (omega (arith, whole, a.range));
    }

-- ---- and back

-- the day of the year of a date, and the month in which it lies
module _ (d : Date) (is : IsDate d) where
  ends : day_of_year d ≤ days_before (leap d.year) (suc (d.month - 1))
  unfolding days_before
  ends = omega (arith, is.day_to)

  day_to_year : day_of_year d ≤ year_length (leap d.year)
  day_to_year = omega (arith, ends, days_mono (leap d.year) (suc (d.month - 1)) 12 (omega (arith, is.month_from, is.month_to)))

  date-back : d ≡ date_in d.year (day_of_year d)
  unfolding date_in
  date-back =
      let m : month_of (leap d.year) (day_of_year d) ≡ d.month - 1 =
      month_only (leap d.year) (day_of_year d) (d.month - 1) 11 (omega (arith, is.month_to)) (omega (arith, is.day_from)) ends in
      let month : d.month ≡ month_of (leap d.year) (day_of_year d) + 1 = omega (arith, is.month_from) in
      let day : d.day ≡ day_of_year d - days_before (leap d.year) (month_of (leap d.year) (day_of_year d)) = rw m (omega arith) in
      λ i. record { year = d.year; month = month i; day = day i }

-- the rules hold of the yyyddd of a date, and the date that it gives is that one
word_accepted : (d : Date) (n : ℕ) → DateWord (pos n) d → Accepted n × (d ≡ date_in (year_of (pos n)) (day_of (pos n)))
word_accepted d n w =
    let e : n ≡ 1000 * (d.year - 1900) + day_of_year d = cc w.yyyddd in
    let most : day_of_year d ≤ 366 = omega (arith, day_to_year d w.date, year_most (leap d.year)) in
    let year : d.year ≡ year_of (pos n) = omega (arith, w.since) in
    let day : day_of_year d ≡ day_of (pos n) = omega arith in (
      record {
        range = omega (arith, w.range);
        day_from = omega (arith, w.date.day_from);
        day_to = rw (← day, ← year) (day_to_year d w.date);
      },
      date-back d w.date ∙ ap₂ date_in year day,
    )

-- ---- the claim

-- the answer is a date exactly where the word is that date's yyyddd
pub date_exactly : (z : ℤ) (d : Date) → (date_of z ≡ gives d) ↔ DateWord z d
unfolding date_of
date_exactly (pos n) d =
    let x = value_exactly (date_rules (pos n)) (date_in (year_of (pos n)) (day_of (pos n))) d in (
      λ e. rw (x.0 e).1 (accepted_word n (hold_accepted n (x.0 e).0)),
      λ w. let a = word_accepted d n w in x.1 (accepted_hold n a.0, a.1),
    )
date_exactly (negsuc n) d =
    let x = value_exactly (date_rules (negsuc n)) (date_in (year_of (negsuc n)) (day_of (negsuc n))) d in
    (λ e. absurd (hold_negative n (x.0 e).0), λ w. absurd (pos-ne-negsuc _ n (sym w.yyyddd)))

-- so there is at most one such date
pub date_only : (z : ℤ) (d e : Date) → DateWord z d → DateWord z e → d ≡ e
unfolding date_of
date_only = exactly_one DateWord date_rules (λ z. date_in (year_of z) (day_of z)) date_exactly

-- and the answer is refusal 11 at place 0 exactly where there is none
pub date_refused : (z : ℤ) → (date_of z ≡ refuses 11 0) ↔ ((d : Date) → ¬ DateWord z d)
unfolding date_of date_rules
date_refused =
    exactly_none DateWord date_rules (λ z. date_in (year_of z) (day_of z)) date_exactly (record { number = 11; place = 0 })
    (λ z. (refl, (refl, (refl, tt))))
