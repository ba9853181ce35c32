-- Laws of the orders of a list.
-- Assumes nothing.
use mathlib.Core.Path.{◌≡◌, refl, sym, ap, ap₂, subst, ◌∙◌}
use mathlib.Core.Bool.{Bool, true, false, decide, decide_iff}
use mathlib.Core.HLevel.{Discrete}
use mathlib.Core.Logic.{◌↔◌, ◌⊎◌, inl, inr}
use mathlib.Core.List.Memᴰ
use mathlib.Core.List.{List, [], ◌∷◌, ◌++◌, Memᴰ}
use mathlib.Core.List.Permᴰ
use Prim.Native.Nat.{suc, ◌+◌, ◌≤◌}
use native.Mathlib.Omega.{arith}
use lib.ListN.{length}
use Rattle.lists.specs.Choices.{pick}
use Rattle.lists.specs.Lists.{keep}
use Rattle.lists.proofs.Kept.{kept_is}
use Rattle.store_theory.specs.Stores.{OrderOf}

module _ {X : Type 0} where
  -- an order has the list's members
  pub order_mem : {x : X} {l o : List X} → OrderOf l o → Memᴰ x l → Memᴰ x o
  order_mem Permᴰ.nil m = m
  order_mem {x} (Permᴰ.cons {a = a} {b = b} {l₁ = l} {l₂ = o} e d) m = step (λ k. order_mem d k) (Memᴰ.cases_cons m)
    where
      step : (Memᴰ x l → Memᴰ x o) → (x ≡ a) ⊎ Memᴰ x l → Memᴰ x (b ∷ o)
      step rec (inl q) = Memᴰ.head (q ∙ e)
      step rec (inr k) = Memᴰ.tail (rec k)
  order_mem {x} (Permᴰ.swap {a = a} {b = b} {a' = c} {b' = d} {l = l} e₁ e₂) m = step (Memᴰ.cases_cons m)
    where
      under : (x ≡ b) ⊎ Memᴰ x l → Memᴰ x (c ∷ d ∷ l)
      under (inl q) = Memᴰ.head (q ∙ e₂)
      under (inr k) = Memᴰ.tail (Memᴰ.tail k)

      step : (x ≡ a) ⊎ Memᴰ x (b ∷ l) → Memᴰ x (c ∷ d ∷ l)
      step (inl q) = Memᴰ.tail (Memᴰ.head (q ∙ e₁))
      step (inr k) = under (Memᴰ.cases_cons k)
  order_mem (Permᴰ.trans d₁ d₂) m = order_mem d₂ (order_mem d₁ m)

  -- it is as long
  pub order-length : {l o : List X} → OrderOf l o → length l ≡ length o
  order-length Permᴰ.nil = refl
  order-length (Permᴰ.cons e d) = ap suc (order-length d)
  order-length (Permᴰ.swap e₁ e₂) = refl
  order-length (Permᴰ.trans d₁ d₂) = order-length d₁ ∙ order-length d₂

  -- what passes a test stands in an order of what passes it in the list
  pub order-keep : (t : X → Bool) {l o : List X} → OrderOf l o → OrderOf (keep t l) (keep t o)
  unfolding keep
  order-keep t Permᴰ.nil = Permᴰ.nil
  order-keep t (Permᴰ.cons {a = a} {b = b} {l₁ = l} {l₂ = o} e d) = rw (ap t e) (step (t b) (order-keep t d))
    where
      step : (u : Bool) → OrderOf (keep t l) (keep t o) → OrderOf (pick u (a ∷ keep t l) (keep t l)) (pick u (b ∷ keep t o) (keep t o))
      step true k = Permᴰ.cons e k
      step false k = k
  order-keep t (Permᴰ.swap {a = a} {b = b} {a' = c} {b' = d} {l = l} e₁ e₂) = rw (ap t e₁, ap t e₂) (step (t d) (t c) (keep t l))
    where
      step : (u v : Bool) (k : List X)
          → OrderOf (pick u (a ∷ pick v (b ∷ k) k) (pick v (b ∷ k) k)) (pick v (c ∷ pick u (d ∷ k) k) (pick u (d ∷ k) k))
      step true true k = Permᴰ.swap e₁ e₂
      step true false k = Permᴰ.cons e₁ (Permᴰ.refl k)
      step false true k = Permᴰ.cons e₂ (Permᴰ.refl k)
      step false false k = Permᴰ.refl k
  order-keep t (Permᴰ.trans d₁ d₂) = Permᴰ.trans (order-keep t d₁) (order-keep t d₂)

  -- a list of at most one member has one order
  pub order_single : {l o : List X} → OrderOf l o → length l ≤ 1 → l ≡ o
  order_single Permᴰ.nil h = refl
  order_single (Permᴰ.cons e d) h = ap₂ ◌∷◌ e (order_single d (omega arith))
  order_single (Permᴰ.swap e₁ e₂) h = let z : ⊥ = omega arith in absurd z
  order_single (Permᴰ.trans d₁ d₂) h =
      let e = order_single d₁ h in
      e ∙ order_single d₂ (rw e at h)

  -- a member of such a list is all of it
  pub only_member : {x : X} {l : List X} → Memᴰ x l → length l ≤ 1 → l ≡ x ∷ []
  only_member (Memᴰ.head {xs = []} e) h = ap (λ y. y ∷ []) (sym e)
  only_member (Memᴰ.head {xs = y ∷ l} e) h = let z : ⊥ = omega arith in absurd z
  only_member (Memᴰ.tail {xs = []} m) h = absurd (Memᴰ.not-nil m)
  only_member (Memᴰ.tail {xs = y ∷ l} m) h = let z : ⊥ = omega arith in absurd z

-- ---- the same members, each as often

module _ {X : Type 0} where
  -- as many members of both lists pass any test
  abbrev pub AsOften : List X → List X → Type 0
  AsOften l o = (t : X → Bool) → length (keep t l) ≡ length (keep t o)

  -- an order has each member as often
  pub order_count : {l o : List X} → OrderOf l o → AsOften l o
  order_count d t = order-length (order-keep t d)

  keep_nil : (t : X → Bool) → length (keep t []) ≡ 0
  unfolding keep
  keep_nil t = refl

  keep_cons : (t : X → Bool) (x : X) (l : List X) → length (keep t (x ∷ l)) ≡ pick (t x) 1 0 + length (keep t l)
  unfolding keep
  keep_cons t x l = step (t x)
    where
      step : (u : Bool) → length (pick u (x ∷ keep t l) (keep t l)) ≡ pick u 1 0 + length (keep t l)
      step true = omega arith
      step false = omega arith

  -- a list with a member, taken apart there
  record Split (x : X) (o : List X) : Type 0 where
    before : List X
    after : List X
    split : o ≡ before ++ x ∷ after

  split_at : {x : X} {o : List X} → Memᴰ x o → Split x o
  split_at (Memᴰ.head {x = y} {xs = o} e) = record { before = []; after = o; split = ap (λ z. z ∷ o) (sym e) }
  split_at (Memᴰ.tail {x = y} {xs = o} m) =
      let s = split_at m in
      record { before = y ∷ s.before; after = s.after; split = ap (λ (k : List X). y ∷ k) s.split }

  -- of a list whose members some test keeps, one that it keeps
  some_kept : (t : X → Bool) (o : List X) → 1 ≤ length (keep t o) → (y : X) × Memᴰ y o × (t y ≡ true)
  some_kept t o h = step (keep t o) (λ y m. kept_is t y o m) h
    where
      step : (k : List X) → ((y : X) → Memᴰ y k → Memᴰ y o × (t y ≡ true)) → 1 ≤ length k → (y : X) × Memᴰ y o × (t y ≡ true)
      step [] g lt = let z : ⊥ = omega arith in absurd z
      step (y ∷ k) g lt = (y, (g y (Memᴰ.head refl)).0, (g y (Memᴰ.head refl)).1)

module _ {X : Type 0} (discrete : Discrete X) where
  -- lists that have the same members, each as often, are orders of each other
  pub count_order : (l o : List X) → AsOften l o → OrderOf l o
  count_order [] [] h = Permᴰ.nil
  count_order [] (y ∷ o) h = let z : ⊥ = omega (arith, h (λ x. true), keep_nil {X = X} (λ x. true), keep_cons (λ x. true) y o) in absurd z
  count_order (x ∷ l) o h = rw s.split (Permᴰ.trans (Permᴰ.cons refl (count_order l (s.before ++ s.after) fewer)) (Permᴰ.symm moved))
    where
      test : X → Bool
      test y = decide (discrete x y)

      once : length (keep test (x ∷ l)) ≡ 1 + length (keep test l)
      once = keep_cons test x l ∙ ap (λ (u : Bool). pick u 1 0 + length (keep test l)) ((decide_iff (discrete x x)).1 refl)

      found : (y : X) × Memᴰ y o × (test y ≡ true)
      found = some_kept test o (omega (arith, once, h test))

      s : Split x o
      s = split_at (subst (λ (y : X). Memᴰ y o) (sym ((decide_iff (discrete x found.0)).0 found.2)) found.1)

      moved : OrderOf (s.before ++ x ∷ s.after) (x ∷ (s.before ++ s.after))
      moved = Permᴰ.middle x s.before s.after

      fewer : AsOften l (s.before ++ s.after)
      fewer t =
          omega (
            arith,
            keep_cons t x l,
            keep_cons t x (s.before ++ s.after),
            h t ∙ ap (λ (k : List X). length (keep t k)) s.split ∙ order_count moved t,
          )

  -- so an order is what the words say
  pub order_exactly : (l o : List X) → OrderOf l o ↔ AsOften l o
  order_exactly l o = (order_count, count_order l o)
