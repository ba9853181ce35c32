-- Laws of `sets` (lib.Seq), a run of stores into a list: what it leaves at each place and in each part, and two runs in either order.
-- Assumes nothing.
use mathlib.Core.Path.{◌≡◌, refl, sym, ap, ◌∙◌}
use mathlib.Core.Logic.{inl, inr, ⊎_elim}
use mathlib.Core.List.{List, [], ◌∷◌, ◌++◌}
use Prim.Native.Nat.{ℕ, zero, suc, ◌+◌, ◌-◌, ◌≤◌, ◌<◌}
use native.Mathlib.Nat.{add-zero, add-suc, suc-add}
use native.Mathlib.Decide.{dec_lt}
use native.Mathlib.Omega.{arith}
use lib.ListN.{length, get_or, set, length-set}
use lib.Seq.{sets, length-sets, get_or-set_same, get_or-set_other, set-set, set_comm, ext_get_or}
use Rattle.lists.specs.Lists.{Outside, Apart, part}
use Rattle.lists.proofs.Parts.{length-part, get_or-part, part-same}

-- where a place stands to the n places from a on
pub data Where (i a n : ℕ) : Type 0 where
  inside : (k : ℕ) → i ≡ a + k → k < n → Where i a n
  outside : Outside i a n → Where i a n

pub where_is : (i a n : ℕ) → Where i a n
where_is i a n = step (dec_lt i a) (dec_lt i (a + n))
  where
    step : Dec (i < a) → Dec (i < a + n) → Where i a n
    step (yes h) d = outside (inl h)
    step (no h) (yes g) = inside (i - a) (omega arith) (omega arith)
    step (no h) (no g) = outside (inr (omega arith))

-- a place outside the n + 1 places from a on is not the first of them, and is outside the others
not_first : (i a n : ℕ) → Outside i a (suc n) → i ≡ a → ⊥
not_first i a n h e = ⊎_elim (λ lt. omega arith) (λ ge. omega arith) h

outside_rest : (i a n : ℕ) → Outside i a (suc n) → Outside i (suc a) n
outside_rest i a n h = ⊎_elim (λ lt. inl (omega arith)) (λ ge. inr (omega arith)) h

module _ {A : Type 0} where
  -- a place outside is not changed, and a place inside holds what was stored there
  pub sets-outside : (b l : List A) (a i : ℕ) (d : A) → Outside i a (length b) → get_or (sets l a b) i d ≡ get_or l i d
  sets-outside [] l a i d h = refl
  sets-outside (x ∷ b) l a i d h = sets-outside b (set l a x) (suc a) i d (outside_rest i a (length b) h) ∙ get_or-set_other l a i x d (not_first i a (length b) h)

  pub sets-inside : (b l : List A) (a k : ℕ) (d : A) → a + length b ≤ length l → k < length b → get_or (sets l a b) (a + k) d ≡ get_or b k d
  sets-inside [] l a k d h lt = let z : ⊥ = omega arith in absurd z
  sets-inside (x ∷ b) l a zero d h lt = rw add-zero (sets-outside b (set l a x) (suc a) a d (inl (omega arith)) ∙ get_or-set_same l a x d (omega arith))
  sets-inside (x ∷ b) l a (suc k) d h lt = rw (add-suc, ← suc-add) (sets-inside b (set l a x) (suc a) k d (simp length-set (omega arith)) (omega arith))

  -- the part that was stored is what was stored, and a part elsewhere is as it was
  pub part_stored : (b l : List A) (a : ℕ) (d : A) → a + length b ≤ length l → part a (length b) (sets l a b) ≡ b
  part_stored b l a d h =
      let e : length (part a (length b) (sets l a b)) ≡ length b = length-part a (length b) (sets l a b) (rw length-sets h) in
      ext_get_or d (part a (length b) (sets l a b)) b e (λ i lt. get_or-part a (length b) (sets l a b) i d (omega arith) ∙ sets-inside b l a i d h (omega arith))

  pub part-apart : (b l : List A) (a c n : ℕ) (d : A) → Apart c n a (length b) → part c n (sets l a b) ≡ part c n l
  part-apart b l a c n d h =
      part-same c n (sets l a b) l d (length-sets l a b)
      (λ i low high. sets-outside b l a i d (⊎_elim (λ x. inl (omega arith)) (λ x. inr (omega arith)) h))

  -- a single store elsewhere, before or after
  pub set-sets : (b l : List A) (a i : ℕ) (v : A) → Outside i a (length b) → sets (set l i v) a b ≡ set (sets l a b) i v
  set-sets [] l a i v h = refl
  set-sets (x ∷ b) l a i v h =
      ap (λ (k : List A). sets k (suc a) b) (set_comm l i a v x (not_first i a (length b) h))
      ∙ set-sets b (set l a x) (suc a) i v (outside_rest i a (length b) h)

  -- two runs elsewhere, in either order
  pub sets_comm : (b c l : List A) (a e : ℕ) → Apart a (length b) e (length c) → sets (sets l a b) e c ≡ sets (sets l e c) a b
  sets_comm b [] l a e h = refl
  sets_comm b (x ∷ c) l a e h =
      ap (λ (k : List A). sets k (suc e) c) (sym (set-sets b l a e x (⊎_elim (λ lo. inr (omega arith)) (λ hi. inl (omega arith)) h)))
      ∙ sets_comm b c (set l e x) a (suc e) (⊎_elim (λ lo. inl (omega arith)) (λ hi. inr (omega arith)) h)

  -- of two runs at one place the last one stands
  pub sets_last : (b c l : List A) (a : ℕ) → length b ≡ length c → sets (sets l a b) a c ≡ sets l a c
  sets_last [] [] l a h = refl
  sets_last [] (y ∷ c) l a h = refl
  sets_last (x ∷ b) [] l a h = let z : ⊥ = omega arith in absurd z
  sets_last (x ∷ b) (y ∷ c) l a h =
      ap (λ (k : List A). sets k (suc a) c) (sym (set-sets b (set l a x) (suc a) a y (inl (omega arith))) ∙ ap (λ (k : List A). sets k (suc a) b) (set-set l a x y))
      ∙ sets_last b c (set l a y) (suc a) (omega arith)

  -- a run in two pieces
  pub sets-append : (b c l : List A) (a : ℕ) → sets l a (b ++ c) ≡ sets (sets l a b) (a + length b) c
  sets-append [] c l a = ap (λ (k : ℕ). sets l k c) (sym (add-zero a))
  sets-append (x ∷ b) c l a = sets-append b c (set l a x) (suc a) ∙ ap (λ (k : ℕ). sets (sets (set l a x) (suc a) b) k c) (omega arith)
