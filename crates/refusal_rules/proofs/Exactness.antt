-- Tests that say exactly whether a statement holds, put together as the tests of a rule are.
-- Assumes nothing.
use mathlib.Core.Path.{◌≡◌, refl, sym, ap, ap₂}
use mathlib.Core.Bool.{Bool, true, false, not, false≢true}
use mathlib.Core.Logic.{◌⊎◌, inl, inr, ⊎_elim, ◌↔◌}
use mathlib.Core.List.{List, [], ◌∷◌, nil≢cons, cons≢nil, head-eq_of_cons-eq, tail-eq_of_cons-eq}
use Prim.Native.Nat.{ℕ, ◌≤◌, ◌<◌}
use lib.Dec.{leb, ltb, eqb}
use borrow.Author.Tests.{leb-true, le-leb, ltb-true, lt-ltb, eqb-true, eq-eqb}
use Rattle.lists.specs.Choices.{both, either}
use Rattle.lists.proofs.Choices.{both_true, true_both, either_true, true_either}
use Rattle.refusal_rules.specs.Tests.{Exactly, within, same_numbers}

-- at most
pub le_exactly : (a b : ℕ) → Exactly (leb a b) (a ≤ b)
le_exactly a b = record { sound = leb-true a b; complete = le-leb a b }

-- below
pub lt_exactly : (a b : ℕ) → Exactly (ltb a b) (a < b)
lt_exactly a b = record { sound = ltb-true a b; complete = lt-ltb a b }

-- equal
pub eq_exactly : (a b : ℕ) → Exactly (eqb a b) (a ≡ b)
eq_exactly a b = record { sound = eqb-true a b; complete = eq-eqb a b }

-- the opposite test says exactly that the statement does not hold
pub not_exactly : {t : Bool} {P : Type 0} → Exactly t P → Exactly (not t) (¬ P)
not_exactly {t = true} x = record { sound = λ e. absurd (false≢true e); complete = λ h. absurd (h (x.sound refl)) }
not_exactly {t = false} x = record { sound = λ e p. false≢true (x.complete p); complete = λ h. refl }

-- a test that is true exactly where a statement holds
pub iff_exactly : {t : Bool} {P : Type 0} → ((t ≡ true) ↔ P) → Exactly t P
iff_exactly x = record { sound = x.0; complete = x.1 }

-- the test that is true, of a statement that holds
pub true_exactly : {P : Type 0} → P → Exactly true P
true_exactly p = record { sound = λ e. p; complete = λ h. refl }

-- two tests of one statement agree
pub exactly_same : {t u : Bool} {P : Type 0} → Exactly t P → Exactly u P → t ≡ u
exactly_same {t = true} {u} x y = sym (y.complete (x.sound refl))
exactly_same {t = false} {u = true} x y = x.complete (y.sound refl)
exactly_same {t = false} {u = false} x y = refl

-- two tests
pub both_exactly : {a b : Bool} {P Q : Type 0} → Exactly a P → Exactly b Q → Exactly (both a b) (P × Q)
both_exactly {a} {b} x y =
    record {
      sound = λ e. (x.sound (both_true a b e).0, y.sound (both_true a b e).1);
      complete = λ h. true_both a b (x.complete h.0) (y.complete h.1);
    }

-- one of two tests
pub either_exactly : {a b : Bool} {P Q : Type 0} → Exactly a P → Exactly b Q → Exactly (either a b) (P ⊎ Q)
either_exactly {a} {b} x y =
    record {
      sound = λ e. ⊎_elim (λ h. inl (x.sound h)) (λ h. inr (y.sound h)) (either_true a b e);
      complete = λ s. true_either a b (⊎_elim (λ p. inl (x.complete p)) (λ q. inr (y.complete q)) s);
    }

-- within bounds
pub within_exactly : (low high n : ℕ) → Exactly (within low high n) ((low ≤ n) × (n ≤ high))
unfolding within
within_exactly low high n = both_exactly (le_exactly low n) (le_exactly n high)

-- the same lists of numbers
pub numbers_exactly : (xs ys : List ℕ) → Exactly (same_numbers xs ys) (xs ≡ ys)
unfolding same_numbers
numbers_exactly [] [] = record { sound = λ e. refl; complete = λ e. refl }
numbers_exactly [] (y ∷ ys) = record { sound = λ e. absurd (false≢true e); complete = λ e. absurd (nil≢cons e) }
numbers_exactly (x ∷ xs) [] = record { sound = λ e. absurd (false≢true e); complete = λ e. absurd (cons≢nil e) }
numbers_exactly (x ∷ xs) (y ∷ ys) =
    let h : Exactly (both (eqb x y) (same_numbers xs ys)) ((x ≡ y) × (xs ≡ ys)) = both_exactly (eq_exactly x y) (numbers_exactly xs ys) in
    record {
      sound = λ e. ap₂ ◌∷◌ (h.sound e).0 (h.sound e).1;
      complete = λ e. h.complete (head-eq_of_cons-eq e, tail-eq_of_cons-eq e);
    }

-- so are values that are settled by their lists of numbers
pub by_numbers : {Value : Type 0} (numbers : Value → List ℕ) → ((a b : Value) → numbers a ≡ numbers b → a ≡ b)
    → (a b : Value) → Exactly (same_numbers (numbers a) (numbers b)) (a ≡ b)
by_numbers numbers settle a b =
    let x : Exactly (same_numbers (numbers a) (numbers b)) (numbers a ≡ numbers b) = numbers_exactly (numbers a) (numbers b) in
    record { sound = λ e. settle a b (x.sound e); complete = λ e. x.complete (ap numbers e) }
