-- Laws of a list that is reversed.
-- Assumes nothing.
use mathlib.Core.Path.{◌≡◌, sym, ap, ◌∙◌}
use mathlib.Core.Logic.{⊎_elim}
use mathlib.Core.List.{List, [], ◌∷◌, reverse, reverse-cons}
use Prim.Native.Nat.{ℕ, suc, ◌-◌, ◌<◌}
use native.Mathlib.Nat.{eq-or-lt_of_le, le_of_suc-le-suc}
use native.Mathlib.Omega.{arith}
use lib.ListN.{length, get_or, length-reverse, get_or-append}
use lib.Seq.{get_or_at}

module _ {A : Type 0} where
  -- the element at index i counted from the other end
  pub get_or-reverse : (l : List A) (i : ℕ) (d : A) → i < length l → get_or (reverse l) i d ≡ get_or l (length l - 1 - i) d
  get_or-reverse [] i d h = let z : ⊥ = omega arith in absurd z
  get_or-reverse (x ∷ l) i d h =
      ap (λ (k : List A). get_or k i d) (reverse-cons x l)
      ∙ ⊎_elim
      (λ e.
      let first : 0 ≡ suc (length l) - 1 - i = omega arith in
      get_or_at (reverse l) x [] d i (length-reverse l ∙ sym e) ∙ ap (λ (k : ℕ). get_or (x ∷ l) k d) first)
      (λ lt.
      let next : suc (length l - 1 - i) ≡ suc (length l) - 1 - i = omega arith in
      get_or-append (reverse l) (x ∷ []) d i (omega (arith, length-reverse l))
      ∙ get_or-reverse l i d lt
      ∙ ap (λ (k : ℕ). get_or (x ∷ l) k d) next)
      (eq-or-lt_of_le (le_of_suc-le-suc h))
