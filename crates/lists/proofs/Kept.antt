-- Laws of the elements that pass a test.
-- Assumes nothing.
use mathlib.Core.Path.{◌≡◌, refl, sym, ap, ◌∙◌}
use mathlib.Core.Bool.{Bool, true, false}
use mathlib.Core.Logic.{⊎_elim}
use mathlib.Core.List.Memᴰ
use mathlib.Core.List.{List, [], ◌∷◌, ◌++◌, Memᴰ}
use Prim.Native.Nat.{ℕ, zero, suc, ◌≤◌}
use native.Mathlib.Omega.{arith}
use lib.ListN.{length}
use Rattle.lists.specs.Choices.{pick}
use Rattle.lists.specs.Lists.{lines_of, keep}

module _ {A : Type 0} (t : A → Bool) where
  -- what is kept of two lists that are joined
  pub keep-append : (l m : List A) → keep t (l ++ m) ≡ keep t l ++ keep t m
  unfolding keep
  keep-append [] m = refl
  keep-append (x ∷ l) m = step (t x) (keep-append l m)
    where
      step : (b : Bool) → keep t (l ++ m) ≡ keep t l ++ keep t m
          → pick b (x ∷ keep t (l ++ m)) (keep t (l ++ m)) ≡ pick b (x ∷ keep t l) (keep t l) ++ keep t m
      step true e = ap (λ (k : List A). x ∷ k) e
      step false e = e

  -- no more are kept than there are
  pub keep-length : (l : List A) → length (keep t l) ≤ length l
  unfolding keep
  keep-length [] = omega arith
  keep-length (x ∷ l) = step (t x) (keep-length l)
    where
      step : (b : Bool) → length (keep t l) ≤ length l → length (pick b (x ∷ keep t l) (keep t l)) ≤ suc (length l)
      step true h = omega arith
      step false h = omega arith

  -- what is kept is a member that passes, and a member that passes is kept
  pub kept_is : (x : A) (l : List A) → Memᴰ x (keep t l) → Memᴰ x l × (t x ≡ true)
  unfolding keep
  kept_is x [] m = absurd (Memᴰ.not-nil m)
  kept_is x (y ∷ l) m = step (t y) refl (kept_is x l) m
    where
      more : Memᴰ x l × (t x ≡ true) → Memᴰ x (y ∷ l) × (t x ≡ true)
      more r = (Memᴰ.tail r.0, r.1)

      step : (b : Bool) → t y ≡ b → (Memᴰ x (keep t l) → Memᴰ x l × (t x ≡ true))
          → Memᴰ x (pick b (y ∷ keep t l) (keep t l)) → Memᴰ x (y ∷ l) × (t x ≡ true)
      step true e rec q = ⊎_elim (λ p. (Memᴰ.head p, ap t p ∙ e)) (λ r. more (rec r)) (Memᴰ.cases_cons q)
      step false e rec q = more (rec q)

  pub is_kept : {x : A} {l : List A} → Memᴰ x l → t x ≡ true → Memᴰ x (keep t l)
  unfolding keep
  is_kept {x} (Memᴰ.head {x = y} {xs = l} p) e = rw (sym (ap t p) ∙ e) (Memᴰ.head p)
  is_kept {x} (Memᴰ.tail {x = y} {xs = l} m) e = step (t y) (is_kept m e)
    where
      step : (b : Bool) → Memᴰ x (keep t l) → Memᴰ x (pick b (y ∷ keep t l) (keep t l))
      step true q = Memᴰ.tail q
      step false q = q

  -- where no member passes, none is kept
  pub keep-none : (l : List A) → ((x : A) → Memᴰ x l → t x ≡ false) → keep t l ≡ []
  unfolding keep
  keep-none [] h = refl
  keep-none (x ∷ l) h = rw (h x (Memᴰ.head refl)) (keep-none l (λ y m. h y (Memᴰ.tail m)))

-- two tests that agree on the members keep the same
pub keep-same : {A : Type 0} (t u : A → Bool) (l : List A) → ((x : A) → Memᴰ x l → t x ≡ u x) → keep t l ≡ keep u l
unfolding keep
keep-same t u [] h = refl
keep-same t u (x ∷ l) h = rw (h x (Memᴰ.head refl), keep-same t u l (λ y m. h y (Memᴰ.tail m)))

-- what is kept of lines is what is kept of each line
pub keep-lines_of : {A : Type 0} (t : A → Bool) (g : ℕ → List A) (n : ℕ) → keep t (lines_of g n) ≡ lines_of (λ i. keep t (g i)) n
unfolding keep lines_of
keep-lines_of t g zero = refl
keep-lines_of t g (suc n) = keep-append t (lines_of g n) (g n) ∙ ap (λ l. l ++ keep t (g n)) (keep-lines_of t g n)
