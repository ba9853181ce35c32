-- A run of plans that are fixed beforehand, one after another on one file, and what it leaves at each byte.
-- Assumes nothing.
use mathlib.Core.Path.{◌≡◌, refl, sym, ◌∙◌}
use mathlib.Core.Bool.{Bool, true, false, false≢true}
use mathlib.Core.Logic.{◌⊎◌, inl, inr}
use mathlib.Core.List.Memᴰ
use mathlib.Core.List.{List, [], ◌∷◌, Memᴰ}
use Prim.Native.Nat.{ℕ}
use lib.ListN.{length, get_or}
use Rattle.lists.specs.Choices.{pick}
use Rattle.lists.specs.Lists.{keep}
use Rattle.lists.proofs.Kept.{kept_is, is_kept, keep-none}
use Rattle.store_theory.specs.Plans.{Plan, after, outcome, SucceedsAt, succeeds_at, Covers}
use Rattle.store_theory.specs.Series.{leaves}
use Rattle.store_theory.specs.Stores.{All}
use Rattle.store_theory.proofs.Series.{leaves-length}
use Rattle.store_theory.proofs.Plans.{PlanInside, length-after, after_other, after_agree, covers, succeeds_exactly, not_at}

module _ {X Answer : Type 0} (P : X → Plan Answer) where
  -- the file after them
  abbrev pub carried : List ℕ → List X → List ℕ
  carried g l = leaves (λ f s. outcome f (P s)) g l

  -- it is as long
  pub length_carried : (g : List ℕ) (l : List X) → length (carried g l) ≡ length g
  unfolding outcome
  length_carried g l = leaves-length (λ f s. outcome f (P s)) (λ f s. length-after f (P s)) g l

  -- a byte that no store covers is left as it is
  pub carried_other : (i : ℕ) (g : List ℕ) (l : List X) → All (λ s. ¬ Covers i (P s)) l → get_or (carried g l) i 0 ≡ get_or g i 0
  unfolding leaves outcome
  carried_other i g [] h = refl
  carried_other i g (s ∷ l) h =
      carried_other i (after g (P s)) l (λ t m. h t (Memᴰ.tail m)) ∙ after_other g (P s) i (h s (Memᴰ.head refl))

  -- the members that succeed at an address
  abbrev pub here : ℕ → List X → List X
  here a l = keep (λ s. succeeds_at a (P s)) l

  -- at a byte that only stores at address a cover, these alone count
  pub carried_here : (n i a : ℕ) (g k : List ℕ) (l : List X) → All (λ s. Covers i (P s) → SucceedsAt a (P s)) l
      → All (λ s. PlanInside n (P s)) l
      → length g ≡ n → length k ≡ n → get_or g i 0 ≡ get_or k i 0 → get_or (carried g l) i 0 ≡ get_or (carried k (here a l)) i 0
  unfolding leaves outcome keep
  carried_here n i a g k [] h fit lg lk e = e
  carried_here n i a g k (s ∷ l) h fit lg lk e =
      step (succeeds_at a (P s)) refl
      (carried_here n i a (after g (P s)) (after k (P s)) l h' fit' q (length-after k (P s) ∙ lk))
      (carried_here n i a (after g (P s)) k l h' fit' q lk)
    where
      h' : All (λ t. Covers i (P t) → SucceedsAt a (P t)) l
      h' t m = h t (Memᴰ.tail m)

      fit' : All (λ t. PlanInside n (P t)) l
      fit' t m = fit t (Memᴰ.tail m)

      q : length (after g (P s)) ≡ n
      q = length-after g (P s) ∙ lg

      elsewhere : succeeds_at a (P s) ≡ false → ¬ Covers i (P s)
      elsewhere u c = false≢true (sym u ∙ (succeeds_exactly a (P s)).1 (h s (Memᴰ.head refl) c))

      step : (u : Bool) → succeeds_at a (P s) ≡ u
          → (get_or (after g (P s)) i 0 ≡ get_or (after k (P s)) i 0 → get_or (carried (after g (P s)) l) i 0 ≡ get_or (carried (after k (P s)) (here a l)) i 0)
          → (get_or (after g (P s)) i 0 ≡ get_or k i 0 → get_or (carried (after g (P s)) l) i 0 ≡ get_or (carried k (here a l)) i 0)
          → get_or (carried (after g (P s)) l) i 0 ≡ get_or (carried k (pick u (s ∷ here a l) (here a l))) i 0
      step true u both one = both (after_agree n g k (P s) i lg lk (fit s (Memᴰ.head refl)) e)
      step false u both one = one (after_other g (P s) i (elsewhere u) ∙ e)

  -- a member that succeeds at the address is one of them
  pub mem_here : (a : ℕ) {s : X} {l : List X} → Memᴰ s l → SucceedsAt a (P s) → Memᴰ s (here a l)
  mem_here a {s} m w = is_kept (λ s. succeeds_at a (P s)) m ((succeeds_exactly a (P s)).1 w)

  -- and each of them is such a member
  pub here_mem : (a : ℕ) (s : X) (l : List X) → Memᴰ s (here a l) → Memᴰ s l × SucceedsAt a (P s)
  here_mem a s l m =
      let r = kept_is (λ s. succeeds_at a (P s)) s l m in
      (r.0, (succeeds_exactly a (P s)).0 r.1)

  -- where no member succeeds at the address there is none
  pub none_here : (a : ℕ) (l : List X) → All (λ t. ¬ SucceedsAt a (P t)) l → here a l ≡ []
  none_here a l h = keep-none (λ s. succeeds_at a (P s)) l (λ s m. not_at a (P s) (h s m))

  -- a member that covers a byte, or none does
  pub find : (i : ℕ) (l : List X) → ((s : X) × Memᴰ s l × Covers i (P s)) ⊎ All (λ s. ¬ Covers i (P s)) l
  find i [] = inr (λ s m. absurd (Memᴰ.not-nil m))
  find i (s ∷ l) = step (covers i (P s)) (find i l)
    where
      step : Dec (Covers i (P s)) → ((t : X) × Memᴰ t l × Covers i (P t)) ⊎ All (λ t. ¬ Covers i (P t)) l
          → ((t : X) × Memᴰ t (s ∷ l) × Covers i (P t)) ⊎ All (λ t. ¬ Covers i (P t)) (s ∷ l)
      step (yes c) r = inl (s, Memᴰ.head refl, c)
      step (no c) (inl w) = inl (w.0, Memᴰ.tail w.1, w.2)
      step (no c) (inr h) = inr (λ t m. cons t (Memᴰ.cases_cons m))
        where
          cons : (t : X) → (t ≡ s) ⊎ Memᴰ t l → ¬ Covers i (P t)
          cons t (inl e) = rw e c
          cons t (inr m) = h t m
