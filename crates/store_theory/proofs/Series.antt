-- Laws of calls made one after another.
-- Assumes nothing.
use mathlib.Core.Path.{◌≡◌, refl, ap, ap₂, ◌∙◌}
use mathlib.Core.List.{List, [], ◌∷◌, ◌++◌}
use Prim.Native.Nat.{ℕ}
use lib.ListN.{length}
use Rattle.store_theory.specs.Series.{leaves, replies, Run, done, call}

module _ {Call Answer : Type 0} (does : List ℕ → Call → Answer × List ℕ) where
  -- functions that keep their contracts, called one after another, give these answers and leave this file
  pub run_is : {f h : List ℕ} {l : List Call} {rs : List Answer} → Run does f l rs h → (rs ≡ replies does f l) × (h ≡ leaves does f l)
  unfolding leaves replies
  run_is (done e) = (refl, e)
  run_is (call {g = g} {c = c} {l = l} e k) =
      let (a, b) = run_is k in
      let left : g ≡ (does _ c).1 = ap (λ p. p.1) e in
      (ap₂ ◌∷◌ (ap (λ p. p.0) e) (a ∙ ap (λ (x : List ℕ). replies does x l) left), b ∙ ap (λ (x : List ℕ). leaves does x l) left)

  -- and every series of calls has such a run
  pub run_of : (f : List ℕ) (l : List Call) → Run does f l (replies does f l) (leaves does f l)
  unfolding leaves replies
  run_of f [] = done refl
  run_of f (c ∷ l) = call refl (run_of (does f c).1 l)

  -- the file after two lists of calls that are joined
  pub leaves-append : (f : List ℕ) (l m : List Call) → leaves does f (l ++ m) ≡ leaves does (leaves does f l) m
  unfolding leaves
  leaves-append f [] m = refl
  leaves-append f (c ∷ l) m = leaves-append (does f c).1 l m

  -- what they are answered
  pub replies-append : (f : List ℕ) (l m : List Call) → replies does f (l ++ m) ≡ replies does f l ++ replies does (leaves does f l) m
  unfolding leaves replies
  replies-append f [] m = refl
  replies-append f (c ∷ l) m = ap (λ (x : List Answer). (does f c).0 ∷ x) (replies-append (does f c).1 l m)

  -- the file is as long as before, where each call leaves its length
  pub leaves-length : ((f : List ℕ) (c : Call) → length (does f c).1 ≡ length f) → (f : List ℕ) (l : List Call)
      → length (leaves does f l) ≡ length f
  unfolding leaves
  leaves-length h f [] = refl
  leaves-length h f (c ∷ l) = leaves-length h (does f c).1 l ∙ h f c
