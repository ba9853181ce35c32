-- Laws of lists by their index, and of lines that are joined.
-- Assumes nothing.
use mathlib.Core.Path.{◌≡◌, refl, sym, ap, ap₂, ◌∙◌}
use mathlib.Core.Logic.{⊎_elim}
use mathlib.Core.List.{List, [], ◌∷◌, ◌++◌, append_assoc, append-nil}
use Prim.Native.Nat.{ℕ, zero, suc, ◌+◌, ◌*◌, ◌<◌}
use native.Mathlib.Nat.{add-zero, add-suc, zero-mul, mul-one, suc-mul, eq-or-lt_of_le, le_of_suc-le-suc}
use native.Mathlib.Omega.{arith}
use lib.ListN.{length, get_or, length-append, get_or-append}
use lib.Seq.{get_or-append-add}
use Rattle.lists.proofs.Rows.{row-before}
use Rattle.lists.specs.Lists.{list_of, lines_of}

-- two lists of lines are equal where their lines are
pub lines_of-same : {A : Type 0} (f g : ℕ → List A) (n : ℕ) → ((i : ℕ) → i < n → f i ≡ g i) → lines_of f n ≡ lines_of g n
unfolding lines_of
lines_of-same f g zero h = refl
lines_of-same f g (suc n) h = ap₂ (λ l x. l ++ x) (lines_of-same f g n (λ i lt. h i (omega arith))) (h n (omega arith))

-- lines of n elements each
module _ {A : Type 0} (g : ℕ → List A) (n : ℕ) (all : (k : ℕ) → length (g k) ≡ n) where
  pub length-lines_of : (k : ℕ) → length (lines_of g k) ≡ k * n
  unfolding lines_of
  length-lines_of zero = sym (zero-mul n)
  length-lines_of (suc k) = length-append (lines_of g k) (g k) ∙ omega (arith, length-lines_of k, all k, suc-mul k n)

  -- element i of line j
  pub get_or-lines_of : (k j i : ℕ) (d : A) → j < k → i < n → get_or (lines_of g k) (j * n + i) d ≡ get_or (g j) i d
  unfolding lines_of
  get_or-lines_of zero j i d h m = let z : ⊥ = omega arith in absurd z
  get_or-lines_of (suc k) j i d h m =
      ⊎_elim
      (λ e.
      ap (λ (x : ℕ). get_or (lines_of g k ++ g k) (x + i) d) (ap (λ (x : ℕ). x * n) e ∙ sym (length-lines_of k))
      ∙ get_or-append-add (lines_of g k) (g k) i d
      ∙ ap (λ (x : ℕ). get_or (g x) i d) (sym e))
      (λ lt.
      get_or-append (lines_of g k) (g k) d (j * n + i) (omega (arith, length-lines_of k, row-before n j k lt))
      ∙ get_or-lines_of k j i d lt m)
      (eq-or-lt_of_le (le_of_suc-le-suc h))

-- a list by its index is lines of one element each
list_of-lines : {A : Type 0} (f : ℕ → A) (n : ℕ) → list_of f n ≡ lines_of (λ i. f i ∷ []) n
unfolding list_of lines_of
list_of-lines f zero = refl
list_of-lines f (suc n) = ap (λ l. l ++ f n ∷ []) (list_of-lines f n)

pub list_of-same : {A : Type 0} (f g : ℕ → A) (n : ℕ) → ((i : ℕ) → i < n → f i ≡ g i) → list_of f n ≡ list_of g n
list_of-same f g n h =
    list_of-lines f n ∙ lines_of-same (λ i. f i ∷ []) (λ i. g i ∷ []) n (λ i lt. ap (λ x. x ∷ []) (h i lt)) ∙ sym (list_of-lines g n)

module _ {A : Type 0} (f : ℕ → A) where
  pub length-list_of : (n : ℕ) → length (list_of f n) ≡ n
  length-list_of n = ap length (list_of-lines f n) ∙ length-lines_of (λ i. f i ∷ []) 1 (λ k. refl) n ∙ mul-one n

  pub get_or-list_of : (n i : ℕ) (d : A) → i < n → get_or (list_of f n) i d ≡ f i
  get_or-list_of n i d h =
      let e : i ≡ i * 1 + 0 = omega arith in
      ap₂ (λ l k. get_or l k d) (list_of-lines f n) e ∙ get_or-lines_of (λ k. f k ∷ []) 1 (λ k. refl) n i 0 d h (omega arith)

  -- a list by its index in two pieces
  pub list_of-append : (i n : ℕ) → list_of f i ++ list_of (λ j. f (i + j)) n ≡ list_of f (i + n)
  unfolding list_of
  list_of-append i zero = append-nil (list_of f i) ∙ ap (list_of f) (sym (add-zero i))
  list_of-append i (suc n) =
      sym (append_assoc (list_of f i) (list_of (λ j. f (i + j)) n) (f (i + n) ∷ []))
      ∙ ap (λ (l : List A). l ++ f (i + n) ∷ []) (list_of-append i n)
      ∙ ap (list_of f) (sym (add-suc i n))
