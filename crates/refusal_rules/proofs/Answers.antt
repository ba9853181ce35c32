-- Laws of answers: an answer is a value exactly where every rule holds, and a refusal exactly where one fails.
-- Assumes nothing.
use mathlib.Core.Path.{◌≡◌, refl, sym, ap, subst, ◌∙◌}
use mathlib.Core.Logic.{◌↔◌}
use mathlib.Core.List.{List, ◌∷◌}
use Prim.Native.Nat.{ℕ, ◌<◌}
use native.Mathlib.Omega.{arith}
use lib.Dec.{eqb}
use Rattle.std.specs.Prelude.{Result, Ok, Err}
use Rattle.lists.specs.Choices.{pick}
use Rattle.refusal_rules.specs.declared.Refusal.{Refusal}
use Rattle.refusal_rules.specs.declared.Refusal.TheVariants.{ShortFile, NoByteOrder, CountOutOfBounds, RuleBroken, Misplaced, Absent, NoSuch, TooLarge, Stale, ShortOutput, NoDate, WrongLength, NoEmptySlot, NoRoom}
use Rattle.refusal_rules.specs.Rules.{Refused, numbered, Verdict, Pass, Fault, Rule, first_fault, Every, Hold, Give, FirstFailing}
use Rattle.refusal_rules.specs.Answers.{Answer, gives, refuses, says, answered, mapped, and_then}
use Rattle.refusal_rules.proofs.Tables.{pass_hold, hold_pass, fault_first, first_fault_lem, every_right, same_fault}

-- ---- answers that are equal

module _ {Value : Type 0} where
  -- no value is a refusal
  pub gives-refuses {ℓ} : {A : Type ℓ} {v : Value} {n p : ℕ} → gives v ≡ refuses n p → A
  gives-refuses e = let z : ◌≡◌ {A = ℕ} 0 1 = cc in let y : ⊥ = omega arith in absurd y

  -- equal values
  pub gives-same : {v w : Value} → gives v ≡ gives w → v ≡ w
  gives-same e = cc

  -- equal refusals
  pub refuses-same : {r s : Refused} → ◌≡◌ {A = Answer Value} (refuses r.number r.place) (refuses s.number s.place) → r ≡ s
  refuses-same {r} {s} e =
      let number : r.number ≡ s.number = cc in
      let place : r.place ≡ s.place = cc in
      λ i. record { number = number i; place = place i }

-- the refusal of each number and place
refusal_at : ℕ → ℕ → Refusal
refusal_at n p =
    pick (eqb n 1) ShortFile
    (pick (eqb n 2) NoByteOrder
    (pick (eqb n 3) (CountOutOfBounds p)
    (pick (eqb n 4) (RuleBroken p)
    (pick (eqb n 5) (Misplaced p)
    (pick (eqb n 6) Absent
    (pick (eqb n 7) NoSuch
    (pick (eqb n 8) TooLarge
    (pick (eqb n 9) Stale
    (pick (eqb n 10) ShortOutput
    (pick (eqb n 11) NoDate
    (pick (eqb n 12) WrongLength
    (pick (eqb n 13) NoEmptySlot NoRoom))))))))))))

-- is the one that has them
numbered_back : (r : Refusal) → refusal_at (numbered r).number (numbered r).place ≡ r
unfolding refusal_at
numbered_back ShortFile = refl
numbered_back NoByteOrder = refl
numbered_back (CountOutOfBounds w) = refl
numbered_back (RuleBroken w) = refl
numbered_back (Misplaced w) = refl
numbered_back Absent = refl
numbered_back NoSuch = refl
numbered_back TooLarge = refl
numbered_back Stale = refl
numbered_back ShortOutput = refl
numbered_back NoDate = refl
numbered_back WrongLength = refl
numbered_back NoEmptySlot = refl
numbered_back NoRoom = refl

-- so refusals with one number and one place are the same
pub numbered_settles : (r s : Refusal) → numbered r ≡ numbered s → r ≡ s
numbered_settles r s e = sym (numbered_back r) ∙ ap (λ (x : Refused). refusal_at x.number x.place) e ∙ numbered_back s

-- what a result says settles the result
pub says_settles : {Value : Type 0} (x y : Result Value Refusal) → says x ≡ says y → x ≡ y
says_settles (Ok v) (Ok w) e = ap Ok (gives-same e)
says_settles (Ok v) (Err s) e = gives-refuses e
says_settles (Err r) (Ok w) e = gives-refuses (sym e)
says_settles (Err r) (Err s) e = ap Err (numbered_settles r s (refuses-same e))

-- an answer with other values made of its values, no two of which become one, gives what the answer gives
pub mapped-gives : {Value Other : Type 0} (h : Value → Other) → ((v w : Value) → h v ≡ h w → v ≡ w)
    → (x : Answer Value) (v : Value) → (mapped h x ≡ gives (h v)) ↔ (x ≡ gives v)
mapped-gives h inject (gives w) v = (λ e. ap gives (inject w v (gives-same e)), λ e. ap (λ u. gives (h u)) (gives-same e))
mapped-gives h inject (refuses n p) v = (λ e. gives-refuses (sym e), λ e. gives-refuses (sym e))

-- equal refusals of answers with values of any type
pub refuses_alike : {A B : Type 0} {m q n p : ℕ} → ◌≡◌ {A = Answer A} (refuses m q) (refuses n p) → ◌≡◌ {A = Answer B} (refuses m q) (refuses n p)
refuses_alike {m = m} {q} {n} {p} e =
    let number : m ≡ n = cc in
    let place : q ≡ p = cc in
    λ i. refuses (number i) (place i)

-- what it gives is made of what the answer gives
pub mapped_made : {Value Other : Type 0} (h : Value → Other) (x : Answer Value) (w : Other)
    → (mapped h x ≡ gives w) ↔ ((v : Value) × (x ≡ gives v) × (w ≡ h v))
mapped_made h (gives v) w = (λ e. (v, refl, sym (gives-same e)), λ p. ap (λ u. gives (h u)) (gives-same p.1) ∙ ap gives (sym p.2))
mapped_made h (refuses n q) w = (λ e. gives-refuses (sym e), λ p. gives-refuses (sym p.1))

-- it refuses exactly as the answer does
pub mapped-refuses : {Value Other : Type 0} (h : Value → Other) (x : Answer Value) (n p : ℕ) → (mapped h x ≡ refuses n p) ↔ (x ≡ refuses n p)
mapped-refuses h (gives v) n p = (λ e. gives-refuses e, λ e. gives-refuses e)
mapped-refuses h (refuses m q) n p = (λ e. refuses_alike e, λ e. refuses_alike e)

-- ---- an answer that goes on with another's value

module _ {Value Other : Type 0} (h : Value → Answer Other) where
  -- it gives a value exactly where the first gives one, with which the second gives it
  pub then_gives : (x : Answer Value) (w : Other) → (and_then x h ≡ gives w) ↔ ((v : Value) × (x ≡ gives v) × (h v ≡ gives w))
  then_gives (gives v) w = (λ e. (v, refl, e), λ p. ap h (gives-same p.1) ∙ p.2)
  then_gives (refuses n q) w = (λ e. gives-refuses (sym e), λ p. gives-refuses (sym p.1))

  -- where the first gives a value, the second decides
  pub then_given : (x : Answer Value) (v : Value) → x ≡ gives v → and_then x h ≡ h v
  then_given x v e = ap (λ (y : Answer Value). and_then y h) e

  -- where neither refuses so, the two together do not
  pub then_never : (x : Answer Value) (n p : ℕ) → ¬ (x ≡ refuses n p) → ((v : Value) → ¬ (h v ≡ refuses n p)) → ¬ (and_then x h ≡ refuses n p)
  then_never (gives v) n p first second e = second v e
  then_never (refuses m q) n p first second e = first (refuses_alike e)

  -- a refusal of the first stays
  pub then_refused : (x : Answer Value) (n p : ℕ) → x ≡ refuses n p → and_then x h ≡ refuses n p
  then_refused x n p e = ap (λ (y : Answer Value). and_then y h) e

-- ---- the answer of a table

module _ {Value : Type 0} (rs : List Rule) (v : Value) where
  -- a call answers a value exactly where every rule holds, and then the one that the definition gives
  pub value_exactly : (w : Value) → (answered (first_fault rs) v ≡ gives w) ↔ (Hold rs × (w ≡ v))
  value_exactly w = (λ e. step (first_fault rs) refl e, λ h. rw (hold_pass rs h.0) (ap gives (sym h.1)))
    where
      step : (x : Verdict) → first_fault rs ≡ x → answered x v ≡ gives w → Hold rs × (w ≡ v)
      step Pass p e = (pass_hold rs p, sym (gives-same e))
      step (Fault r) p e = gives-refuses (sym e)

  -- and a refusal exactly where a rule fails, and then that of the first
  pub refusal_exactly : (f : Refused) → (answered (first_fault rs) v ≡ refuses f.number f.place) ↔ FirstFailing rs f
  refusal_exactly f = (λ e. step (first_fault rs) refl e, λ x. rw (first_fault_lem rs f x))
    where
      step : (x : Verdict) → first_fault rs ≡ x → answered x v ≡ refuses f.number f.place → FirstFailing rs f
      step Pass p e = gives-refuses e
      step (Fault r) p e = fault_first rs f (p ∙ ap Fault (refuses-same e))

  -- and never with a number that no rule has
  pub never_refused : (n p : ℕ) → Every (λ r. ¬ (r.number ≡ n)) rs → ¬ (answered (first_fault rs) v ≡ refuses n p)
  never_refused n p other e =
      let f : Refused = record { number = n; place = p } in
      let x : FirstFailing rs f = (refusal_exactly f).0 e in
      (every_right (λ r. ¬ (r.number ≡ n)) x.before (x.failing ∷ x.after) (subst (Every (λ r. ¬ (r.number ≡ n))) x.split other)).0
      (sym (ap (λ (r : Refused). r.number) x.gives))

-- ---- 7, there is no such value, is no number above it: 8 is left to stores, 9 to layouts that are stale

-- of numbers
pub above_seven : {n : ℕ} → 7 < n → ¬ (◌≡◌ {A = ℕ} 7 n)
above_seven h e = omega (arith, h, e)

-- of refusals
pub seven_only : {Value : Type 0} {n p : ℕ} → 7 < n → ¬ (◌≡◌ {A = Answer Value} (refuses 7 0) (refuses n p))
seven_only {n = n} h e = let same : ◌≡◌ {A = ℕ} 7 n = cc in above_seven h same

-- 9 is above 7
pub nine : ◌<◌ 7 9
nine = omega arith

-- ---- answers that say exactly whether a value is the one for what was asked

module _ {Value Asked : Type 0} (Is : Asked → Value → Type 0) (rules : Asked → List Rule) (value : Asked → Value)
    (exactly : (x : Asked) (v : Value) → (answered (first_fault (rules x)) (value x) ≡ gives v) ↔ Is x v) where
  -- there is at most one
  pub exactly_one : (x : Asked) (v w : Value) → Is x v → Is x w → v ≡ w
  exactly_one x v w p q = gives-same (sym ((exactly x v).1 p) ∙ (exactly x w).1 q)

  -- where every rule gives the same refusal, it is given exactly where there is none
  pub exactly_none : (f : Refused) → ((x : Asked) → Give f (rules x))
      → (x : Asked) → (answered (first_fault (rules x)) (value x) ≡ refuses f.number f.place) ↔ ((v : Value) → ¬ Is x v)
  exactly_none f all x = (λ e v p. gives-refuses (sym ((exactly x v).1 p) ∙ e), λ none. step (first_fault (rules x)) refl none)
    where
      step : (y : Verdict) → first_fault (rules x) ≡ y → ((v : Value) → ¬ Is x v)
          → answered (first_fault (rules x)) (value x) ≡ refuses f.number f.place
      step Pass e none = absurd (none (value x) ((exactly x (value x)).0 (ap (λ (y : Verdict). answered y (value x)) e)))
      step (Fault r) e none =
          ap (λ (y : Verdict). answered y (value x)) e
          ∙ ap (λ (s : Refused). refuses s.number s.place) (same_fault (rules x) f r (all x) (fault_first (rules x) r e))
