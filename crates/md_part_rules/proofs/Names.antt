-- The names of keys: four bytes compared one by one, and the first of the positions whose key has a name.
-- Assumes nothing.
use mathlib.Core.Path.{◌≡◌, refl, sym, ap, ap₂, ◌∙◌}
use mathlib.Core.Bool.{Bool, true, false}
use mathlib.Core.Logic.{◌⊎◌, inl, inr, ⊎_elim}
use mathlib.Core.List.{List, [], ◌∷◌, ◌++◌}
use Prim.Native.Nat.{ℕ, zero, suc, ◌+◌, ◌≤◌, ◌<◌}
use native.Mathlib.Nat.{eq-or-lt_of_le}
use native.Mathlib.Omega.{arith}
use lib.Dec.{eqb}
use lib.ListN.{length, get_or}
use borrow.Author.Tests.{eq-eqb, ne_eqb}
use Rattle.lists.specs.Choices.{both}
use Rattle.lists.specs.Lists.{part, list_of, keep}
use Rattle.lists.proofs.Parts.{length-part, get_or-part}
use Rattle.lists.proofs.Kept.{keep-append}
use Rattle.refusal_rules.specs.Answers.{gives, refuses}
use Rattle.refusal_rules.specs.Tests.{same_numbers}
use Rattle.md_rules.specs.declared.MdLayout.{MdLayout}
use Rattle.md_part_rules.specs.Keys.{is_named, positions, first_position, key_in}

-- ---- four bytes

-- a list of four is its four elements
four : (l : List ℕ) → length l ≡ 4 → l ≡ get_or l 0 0 ∷ get_or l 1 0 ∷ get_or l 2 0 ∷ get_or l 3 0 ∷ []
four [] e = let z : ⊥ = omega arith in absurd z
four (a ∷ []) e = let z : ⊥ = omega arith in absurd z
four (a ∷ b ∷ []) e = let z : ⊥ = omega arith in absurd z
four (a ∷ b ∷ c ∷ []) e = let z : ⊥ = omega arith in absurd z
four (a ∷ b ∷ c ∷ d ∷ []) e = refl
four (a ∷ b ∷ c ∷ d ∷ x ∷ l) e = let z : ⊥ = omega arith in absurd z

-- a test that holds adds nothing
both_true_right : (b : Bool) → both b true ≡ b
both_true_right true = refl
both_true_right false = refl

-- four bytes of a file are a name where each of them is
pub four_same : (f name : List ℕ) (at : ℕ) → at + 4 ≤ length f → length name ≡ 4
    → both (eqb (get_or f at 0) (get_or name 0 0))
    (both (eqb (get_or f (at + 1) 0) (get_or name 1 0)) (both (eqb (get_or f (at + 2) 0) (get_or name 2 0)) (eqb (get_or f (at + 3) 0) (get_or name 3 0)))) ≡ same_numbers (part at 4 f) name
unfolding same_numbers
four_same f name at h e =
    let start : at + 0 ≡ at = omega arith in
    let byte : (i : ℕ) → i < 4 → get_or (part at 4 f) i 0 ≡ get_or f (at + i) 0 = λ i lt. get_or-part at 4 f i 0 lt in
    let first : get_or (part at 4 f) 0 0 ≡ get_or f at 0 = byte 0 (omega arith) ∙ ap (λ (a : ℕ). get_or f a 0) start in
    let bytes : part at 4 f ≡ get_or f at 0 ∷ get_or f (at + 1) 0 ∷ get_or f (at + 2) 0 ∷ get_or f (at + 3) 0 ∷ [] =
    four (part at 4 f) (length-part at 4 f h)
    ∙ (λ t. first t ∷ byte 1 (omega arith) t ∷ byte 2 (omega arith) t ∷ byte 3 (omega arith) t ∷ []) in
    sym
    (ap₂ same_numbers bytes (four name e)
    ∙ (λ t.
    both (eqb (get_or f at 0) (get_or name 0 0))
    (both (eqb (get_or f (at + 1) 0) (get_or name 1 0))
    (both (eqb (get_or f (at + 2) 0) (get_or name 2 0)) (both_true_right (eqb (get_or f (at + 3) 0) (get_or name 3 0)) t)))))

-- ---- the first of the positions 1 to n that passes a test

module _ (t : ℕ → Bool) where
  -- no position below k passes
  abbrev pub NoneBelow : ℕ → Type 0
  NoneBelow k = (j : ℕ) → 1 ≤ j → j < k → t j ≡ false

  -- k is the first of n positions that passes
  pub record First (n k : ℕ) : Type 0 where
    pub from : 1 ≤ k
    pub to : k ≤ n
    pub passes : t k ≡ true
    pub before : NoneBelow k

  -- one position more that does not pass
  pub none_more : (k : ℕ) → NoneBelow k → t k ≡ false → NoneBelow (k + 1)
  none_more k none e j from lt = ⊎_elim (λ same. ap t same ∙ e) (λ less. none j from less) (eq-or-lt_of_le (omega arith))

  -- where none passes, none is kept
  none_kept : (n : ℕ) → NoneBelow (n + 1) → keep t (positions n) ≡ []
  unfolding list_of keep
  none_kept zero none = refl
  none_kept (suc n) none =
      let last : t (suc n) ≡ false = none (suc n) (omega arith) (omega arith) in
      keep-append t (positions n) (suc n ∷ []) ∙ rw (none_kept n (λ j from lt. none j from (omega arith)), last)

  -- the first that passes is the first that is kept
  first_kept : (n k : ℕ) → First n k → (ks : List ℕ) × (keep t (positions n) ≡ k ∷ ks)
  unfolding list_of keep
  first_kept zero k x = let z : ⊥ = omega (arith, x.from, x.to) in absurd z
  first_kept (suc n) k x =
      ⊎_elim last (λ lt. earlier (first_kept n k (record { from = x.from; to = omega arith; passes = x.passes; before = x.before })))
      (eq-or-lt_of_le x.to)
    where
      last : k ≡ suc n → (ks : List ℕ) × (keep t (positions n ++ suc n ∷ []) ≡ k ∷ ks)
      last e =
          let passes : t (suc n) ≡ true = sym (ap t e) ∙ x.passes in
          ([], keep-append t (positions n) (suc n ∷ []) ∙ rw (none_kept n (λ j from lt. x.before j from (omega arith)), passes, e))

      earlier : (ks : List ℕ) × (keep t (positions n) ≡ k ∷ ks) → (ks : List ℕ) × (keep t (positions n ++ suc n ∷ []) ≡ k ∷ ks)
      earlier found =
          (found.0 ++ keep t (suc n ∷ []), keep-append t (positions n) (suc n ∷ []) ∙ ap (λ (l : List ℕ). l ++ keep t (suc n ∷ [])) found.1)

  -- so it is found
  pub first-found : (n k : ℕ) → First n k → first_position (keep t (positions n)) ≡ gives k
  first-found n k x = let (ks, e) = first_kept n k x in ap first_position e

  -- and where none passes, nothing is
  pub none-found : (n : ℕ) → NoneBelow (n + 1) → first_position (keep t (positions n)) ≡ refuses 7 0
  none-found n none = ap first_position (none_kept n none)

  -- of n positions one is the first that passes, or none passes
  pub first-searched : (n : ℕ) → ((k : ℕ) × First n k) ⊎ NoneBelow (n + 1)
  first-searched zero = inr (λ j from lt. let z : ⊥ = omega arith in absurd z)
  first-searched (suc n) = ⊎_elim more (λ none. step (t (suc n)) refl none) (first-searched n)
    where
      more : (k : ℕ) × First n k → ((k : ℕ) × First (suc n) k) ⊎ NoneBelow (suc n + 1)
      more x =
          let first = x.1 in
          inl (x.0, record { from = first.from; to = omega (arith, first.to); passes = first.passes; before = first.before })

      step : (b : Bool) → t (suc n) ≡ b → NoneBelow (n + 1) → ((k : ℕ) × First (suc n) k) ⊎ NoneBelow (suc n + 1)
      step true e none =
          inl (suc n, record { from = omega arith; to = omega arith; passes = e; before = λ j from lt. none j from (omega arith) })
      step false e none = inr (none_more (suc n) (λ j from lt. none j from (omega arith)) e)

-- ---- a key

module _ (f : List ℕ) (m : MdLayout) (name : List ℕ) where
  -- a name of four bytes
  pub name_found : (k : ℕ) → length name ≡ 4 → First (is_named f name) m.keys k → key_in f m name ≡ gives k
  unfolding key_in
  name_found k e x = rw (eq-eqb (length name) 4 e) (first-found (is_named f name) m.keys k x)

  pub name_none : length name ≡ 4 → NoneBelow (is_named f name) (m.keys + 1) → key_in f m name ≡ refuses 7 0
  unfolding key_in
  name_none e none = rw (eq-eqb (length name) 4 e) (none-found (is_named f name) m.keys none)

  -- of another length
  pub name_other : ¬ (length name ≡ 4) → key_in f m name ≡ refuses 7 0
  unfolding key_in
  name_other h = rw (ne_eqb (length name) 4 h)
