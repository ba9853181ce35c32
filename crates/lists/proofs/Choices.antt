-- Laws of choices by a test.
-- Assumes nothing.
use mathlib.Core.Path.{◌≡◌, refl}
use mathlib.Core.Bool.{Bool, true, false, ◌&&◌, false≢true}
use mathlib.Core.Logic.{◌⊎◌, inl, inr}
use Rattle.lists.specs.Choices.{pick, both, either}

-- two tests, as code makes them and as tables write them
pub and_both : (s t : Bool) → s && t ≡ both s t
and_both true t = refl
and_both false t = refl

-- a test that is the last of several
pub both_last : (s : Bool) → both s true ≡ s
both_last true = refl
both_last false = refl

-- what it says that two tests both hold
pub both_true : (a b : Bool) → both a b ≡ true → (a ≡ true) × (b ≡ true)
both_true true b e = (refl, e)
both_true false b e = absurd (false≢true e)

-- and when they do
pub true_both : (a b : Bool) → a ≡ true → b ≡ true → both a b ≡ true
true_both true b e f = f
true_both false b e f = e

-- what it says that they do not
pub both_false : (a b : Bool) → both a b ≡ false → (a ≡ false) ⊎ (b ≡ false)
both_false true b e = inr e
both_false false b e = inl refl

-- what it says that one of two tests holds
pub either_true : (a b : Bool) → either a b ≡ true → (a ≡ true) ⊎ (b ≡ true)
either_true true b e = inl refl
either_true false b e = inr e

-- and when one does
pub true_either : (a b : Bool) → (a ≡ true) ⊎ (b ≡ true) → either a b ≡ true
true_either true b e = refl
true_either false b (inl e) = absurd (false≢true e)
true_either false b (inr e) = e

module _ {A : Type 0} where
  -- two choices by one test are equal where what the test picks is equal
  pub pick-same : (t : Bool) (a b c d : A) → (t ≡ true → a ≡ b) → (t ≡ false → c ≡ d) → pick t a c ≡ pick t b d
  pick-same true a b c d f g = f refl
  pick-same false a b c d f g = g refl

  -- a property of what is picked
  pub pick_cases : (P : A → Type 0) (t : Bool) (a b : A) → (t ≡ true → P a) → (t ≡ false → P b) → P (pick t a b)
  pick_cases P true a b f g = f refl
  pick_cases P false a b f g = g refl
