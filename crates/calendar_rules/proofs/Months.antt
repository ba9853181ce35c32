-- Laws of the months of a year: the table of days before each month, and the month in which a day of the year lies.
-- Assumes nothing.
use mathlib.Core.Path.{◌≡◌, refl, sym, ap₂, ◌∙◌}
use mathlib.Core.Bool.{Bool, true, false}
use mathlib.Core.Logic.{⊎_elim}
use mathlib.Core.List.{List, [], ◌∷◌}
use Prim.Native.Nat.{ℕ, zero, suc, ◌+◌, ◌-◌, ◌*◌, ◌%◌, ◌≤◌, ◌<◌}
use native.Mathlib.Nat.{eq-or-lt_of_le, le_of_suc-le-suc}
use native.Mathlib.Omega.{arith}
use lib.Dec.{leb, ltb, eqb}
use lib.ListN.{get_or}
use borrow.Author.Tests.{eqb-true, leb-true, le-leb, lt-leb, lt-ltb, le-ltb, ltb-true, ltb-false}
use Rattle.lists.specs.Choices.{pick}
use Rattle.lists.proofs.Every.{every_at}
use Rattle.calendar_rules.specs.Gregorian.{days_before, year_length, last_before}

-- ---- the table

-- the table of the code: a common year, and then a leap year
abbrev pub days_table : List ℕ
days_table =
    0 ∷ 31 ∷ 59 ∷ 90 ∷ 120 ∷ 151 ∷ 181 ∷ 212 ∷ 243 ∷ 273 ∷ 304 ∷ 334
    ∷ 0 ∷ 31 ∷ 60 ∷ 91 ∷ 121 ∷ 152 ∷ 182 ∷ 213 ∷ 244 ∷ 274 ∷ 305 ∷ 335
    ∷ []

-- its rule: entry k holds the days before the month k % 12, of a common year below entry 12 and of a leap year from there on. It is
-- one test, computed over the whole table.
right_entry : ℕ → ℕ → Bool
right_entry k x = eqb x (days_before (leb 12 k) (k % 12))

table_rule_lem : (k : ℕ) → k < 24 → get_or days_table k 0 ≡ days_before (leb 12 k) (k % 12)
unfolding right_entry days_before
table_rule_lem k h = eqb-true (get_or days_table k 0) (days_before (leb 12 k) (k % 12)) (every_at right_entry days_table 0 refl k h)

pub common_entry : (month : ℕ) → month < 12 → get_or days_table month 0 ≡ days_before false month
common_entry month h =
    let e : month % 12 ≡ month = omega arith in
    table_rule_lem month (omega arith) ∙ ap₂ days_before (lt-leb 12 month h) e

pub leap-entry : (month : ℕ) → month < 12 → get_or days_table (12 + month) 0 ≡ days_before true month
leap-entry month h =
    let e : (12 + month) % 12 ≡ month = omega arith in
    table_rule_lem (12 + month) (omega arith) ∙ ap₂ days_before (le-leb 12 (12 + month) (omega arith)) e

-- ---- the days before a month

pub days_mono : (isLeap : Bool) (m k : ℕ) → m ≤ k → days_before isLeap m ≤ days_before isLeap k
unfolding days_before
days_mono isLeap m zero h = let e : m ≡ 0 = omega arith in rw e (omega arith)
days_mono isLeap m (suc k) h =
    ⊎_elim (λ e. rw e (omega arith)) (λ lt. omega (arith, days_mono isLeap m k (le_of_suc-le-suc lt))) (eq-or-lt_of_le h)

pub year_most : (isLeap : Bool) → year_length isLeap ≤ 366
unfolding days_before
year_most true = omega arith
year_most false = omega arith

-- ---- the month of a day

-- the test of one month, as a loop that goes down makes it
pub last_here : (isLeap : Bool) (day m : ℕ) → 0 < m → days_before isLeap m < day → last_before isLeap day m ≡ m
unfolding last_before
last_here isLeap day zero h lt = refl
last_here isLeap day (suc m) h lt = rw (lt-ltb (days_before isLeap (suc m)) day lt)

pub last_back : (isLeap : Bool) (day m : ℕ) → 0 < m → day ≤ days_before isLeap m → last_before isLeap day m ≡ last_before isLeap day (m - 1)
unfolding last_before
last_back isLeap day zero h le = let z : ⊥ = omega arith in absurd z
last_back isLeap day (suc m) h le =
    let e : suc m - 1 ≡ m = omega arith in
    rw (le-ltb (days_before isLeap (suc m)) day le, e)

-- no month after one that ends with or after a day begins before that day ends
pub last_stays : (isLeap : Bool) (day m k : ℕ) → m ≤ k → day ≤ days_before isLeap (suc m)
    → last_before isLeap day k ≡ last_before isLeap day m
last_stays isLeap day m zero h le = let e : m ≡ 0 = omega arith in rw e
last_stays isLeap day m (suc k) h le =
    ⊎_elim
    (λ e. rw e)
    (λ lt.
    let past : day ≤ days_before isLeap (suc k) = omega (arith, le, days_mono isLeap (suc m) (suc k) (omega arith)) in
    let back : suc k - 1 ≡ k = omega arith in
    rw back at (last_back isLeap day (suc k) (omega arith) past) ∙ last_stays isLeap day m k (le_of_suc-le-suc lt) le)
    (eq-or-lt_of_le h)

-- the months before month m have at most 31·m days: one test, computed over the whole table
months_of_31 : ℕ → ℕ → Bool
months_of_31 k x = leb x (31 * (k % 12))

days_most : (isLeap : Bool) (m : ℕ) → m < 12 → days_before isLeap m ≤ 31 * m
unfolding months_of_31
days_most false m h =
    let e : m % 12 ≡ m = omega arith in
    rw (common_entry m h, e) at (leb-true (get_or days_table m 0) (31 * (m % 12)) (every_at months_of_31 days_table 0 refl m (omega (arith, h))))
days_most true m h =
    let e : (12 + m) % 12 ≡ m = omega arith in
    rw (leap-entry m h, e) at (leb-true (get_or days_table (12 + m) 0) (31 * ((12 + m) % 12)) (every_at months_of_31 days_table 0 refl (12 + m) (omega (arith, h))))

-- so month m has begun by day 32·m
pub last_from : (isLeap : Bool) (day m : ℕ) → m < 12 → 32 * m ≤ day → last_before isLeap day m ≡ m
unfolding last_before
last_from isLeap day zero small h = refl
last_from isLeap day (suc m) small h = last_here isLeap day (suc m) (omega arith) (omega (arith, h, days_most isLeap (suc m) small))

-- a day after the start of a month and not after its end lies in it
pub month_only : (isLeap : Bool) (day m k : ℕ) → m ≤ k → days_before isLeap m < day → day ≤ days_before isLeap (suc m)
    → last_before isLeap day k ≡ m
unfolding last_before
month_only isLeap day m zero h lo hi = omega arith
month_only isLeap day m (suc k) h lo hi =
    ⊎_elim
    (λ e. rw (lt-ltb (days_before isLeap (suc k)) day (rw e at lo)) (sym e))
    (λ lt.
    let below : m ≤ k = le_of_suc-le-suc lt in
    rw (le-ltb (days_before isLeap (suc k)) day (omega (arith, days_mono isLeap (suc m) (suc k) (omega arith)))) (month_only isLeap day m k below lo hi))
    (eq-or-lt_of_le h)

-- the month in which a day lies, of the first k + 1: it is one of them, begins before the day ends, and does not end before the day
pub record Lies (isLeap : Bool) (day k m : ℕ) : Type 0 where
  pub month : m ≤ k
  pub starts : 1 ≤ day → days_before isLeap m < day
  pub ends : day ≤ days_before isLeap (suc k) → day ≤ days_before isLeap (suc m)

pub month_lies : (isLeap : Bool) (day k : ℕ) → Lies isLeap day k (last_before isLeap day k)
unfolding last_before days_before
month_lies isLeap day zero = record { month = omega arith; starts = λ h. h; ends = λ h. h }
month_lies isLeap day (suc k) = step (ltb (days_before isLeap (suc k)) day) refl (month_lies isLeap day k)
  where
    step : (t : Bool) → ltb (days_before isLeap (suc k)) day ≡ t → Lies isLeap day k (last_before isLeap day k)
        → Lies isLeap day (suc k) (pick t (suc k) (last_before isLeap day k))
    step true e r = record { month = omega arith; starts = λ h. ltb-true (days_before isLeap (suc k)) day e; ends = λ h. h }
    step false e r =
        record {
          month = omega (arith, r.month);
          starts = r.starts;
          ends = λ h. r.ends (ltb-false (days_before isLeap (suc k)) day e);
        }
