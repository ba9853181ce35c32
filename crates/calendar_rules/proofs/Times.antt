-- A time word's answer is the only time of day with that hhmmss, and a word that is refused has none.
-- Assumes nothing.
use mathlib.Core.Path.{◌≡◌, refl, sym, ap}
use mathlib.Core.Bool.{false≢true}
use mathlib.Core.Logic.{◌↔◌}
use Prim.Native.Nat.{◌+◌, ◌*◌, ◌/◌, ◌%◌}
use native.Mathlib.Omega.{arith}
use lib.Dec.{leb-zero}
use lib.IntN.{ℤ, pos, negsuc, pos-ne-negsuc}
use borrow.Author.Tests.{leb-true, le-leb}
use Rattle.refusal_rules.specs.Rules.{Hold}
use Rattle.refusal_rules.specs.Answers.{gives, refuses}
use Rattle.refusal_rules.proofs.Answers.{value_exactly, exactly_one, exactly_none}
use Rattle.calendar_rules.specs.Times.{time_in, time_rules, time_of, TimeWord}
use Rattle.calendar_rules.specs.declared.TimeOfDay.{TimeOfDay}

-- the rules hold exactly where the word is the hhmmss of the time of day that it holds
hold_word : (z : ℤ) → Hold (time_rules z) → TimeWord z (time_in z)
unfolding time_rules
hold_word (pos n) h =
    record {
      hours = leb-true (n / 10000) 23 h.1.0;
      minutes = leb-true (n / 100 % 100) 59 h.1.1.0;
      seconds = leb-true (n % 100) 59 h.1.1.1.0;
      hhmmss = ap pos (omega arith);
    }
hold_word (negsuc n) h = absurd (false≢true h.0)

word_hold : (z : ℤ) (t : TimeOfDay) → TimeWord z t → Hold (time_rules z) × (t ≡ time_in z)
unfolding time_rules
word_hold (pos n) t w =
    let e : n ≡ 10000 * t.hours + 100 * t.minutes + t.seconds = cc w.hhmmss in
    let hours : t.hours ≡ n / 10000 = omega (arith, w.minutes, w.seconds) in
    let minutes : t.minutes ≡ n / 100 % 100 = omega (arith, w.minutes, w.seconds) in
    let seconds : t.seconds ≡ n % 100 = omega (arith, w.seconds) in (
      (
        leb-zero n,
        (
          le-leb (n / 10000) 23 (omega (arith, w.hours)),
          (le-leb (n / 100 % 100) 59 (omega (arith, w.minutes)), (le-leb (n % 100) 59 (omega (arith, w.seconds)), tt)),
        ),
      ),
      λ i. record { hours = hours i; minutes = minutes i; seconds = seconds i },
    )
word_hold (negsuc n) t w = absurd (pos-ne-negsuc _ n (sym w.hhmmss))

-- the answer is a time of day exactly where the word is that time's hhmmss
pub time_exactly : (z : ℤ) (t : TimeOfDay) → (time_of z ≡ gives t) ↔ TimeWord z t
unfolding time_of
time_exactly z t =
    let x = value_exactly (time_rules z) (time_in z) t in
    (λ e. rw (x.0 e).1 (hold_word z (x.0 e).0), λ w. x.1 (word_hold z t w))

-- so there is at most one such time of day
pub time_only : (z : ℤ) (t u : TimeOfDay) → TimeWord z t → TimeWord z u → t ≡ u
unfolding time_of
time_only = exactly_one TimeWord time_rules time_in time_exactly

-- and the answer is refusal 11 at place 0 exactly where there is none
pub time_refused : (z : ℤ) → (time_of z ≡ refuses 11 0) ↔ ((t : TimeOfDay) → ¬ TimeWord z t)
unfolding time_of time_rules
time_refused =
    exactly_none TimeWord time_rules time_in time_exactly (record { number = 11; place = 0 }) (λ z. (refl, (refl, (refl, (refl, tt)))))
