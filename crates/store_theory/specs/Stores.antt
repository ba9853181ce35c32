-- The stores of a file format, made one after another.
-- Assumes nothing.
use Rattle.std.specs.Prelude.{◌≡◌, ℕ, ◌+◌, ◌≤◌, ◌<◌, length}
use mathlib.Core.List.{List, [], ◌∷◌, Memᴰ, Permᴰ}
use Rattle.std.proofs.lemmas.List.Edits.{sets}
use Rattle.lists.specs.Lists.{keep}
use Rattle.store_theory.specs.Plans.{Plan, write, answer, outcome, SucceedsAt, succeeds_at, Holds}
use Rattle.store_theory.specs.Series.{leaves, replies}

-- the second list is an order of the first: it has the same members, each as often (a permutation)
abbrev pub OrderOf : {X : Type 0} → List X → List X → Type 0
OrderOf l o = Permᴰ l o

-- every member of a list has a property
abbrev pub All : {X : Type 0} → (X → Type 0) → List X → Type 0
All {X} P l = (x : X) → Memᴰ x l → P x

-- The stores of a file format: which there are, what each does, what opening answers, and what reading back answers.
pub record System (Store Answer Opened Value : Type 0) : Type 1 where
  -- which stores are meant: those whose layout is of the one kind and byte order, and whose numbers are such as can be stored
  pub Fit : Store → Type 0
  -- what a store does to a file
  pub plan : List ℕ → Store → Plan Answer
  -- what opening a file answers
  pub opening : List ℕ → Opened
  -- what the single read of a store's place with the store's layout answers, and that answer where the place holds the store's number
  pub read : List ℕ → Store → Value
  pub number : Store → Value

module _ {Store Answer Opened Value : Type 0} (S : System Store Answer Opened Value) where
  -- the answer that a store gets alone on a file
  abbrev pub alone : List ℕ → Store → Answer
  alone f s = answer (S.plan f s)

  -- what a store is answered on a file, and the file that it leaves
  abbrev pub stores : List ℕ → Store → Answer × List ℕ
  stores f s = outcome f (S.plan f s)

  -- the file after a list of stores made one after another
  abbrev pub file_after : List ℕ → List Store → List ℕ
  file_after f l = leaves stores f l

  -- what each of a list of stores made one after another is answered
  abbrev pub answers : List ℕ → List Store → List Answer
  answers f l = replies stores f l

  -- the stores of a list that succeed at an address, alone on a file
  unfoldable pub stores_at : List ℕ → ℕ → List Store → List Store
  stores_at f a l = keep (λ s. succeeds_at a (S.plan f s)) l

  -- no two stores of a list that succeed, alone on a file, have the same address
  abbrev pub Distinct : List ℕ → List Store → Type 0
  Distinct f [] = Unit {0}
  Distinct f (s ∷ l) = All (λ t. (a : ℕ) → SucceedsAt a (S.plan f s) → SucceedsAt a (S.plan f t) → ⊥) l × Distinct f l

  -- a store that is meant succeeds, and writes b at address a
  pub record Succeeds (f : List ℕ) (s : Store) (a : ℕ) (b : List ℕ) : Type 0 where
    pub fit : S.Fit s
    pub told : Answer
    pub planned : S.plan f s ≡ write told a b

  -- What the order of stores rests on. Each is a law of one or two stores on one file.
  pub record Laws : Type 0 where
    -- a store's plan depends on the file through what opening answers and the file's length alone
    pub by_opening : (f g : List ℕ) (s : Store) → S.Fit s → S.opening f ≡ S.opening g → length f ≡ length g → S.plan f s ≡ S.plan g s
    -- a place is inside the file
    pub inside : {f : List ℕ} {s : Store} {a : ℕ} {b : List ℕ} → Succeeds f s a b → a + length b ≤ length f
    -- a store leaves what opening answers
    pub opens : {f : List ℕ} {s : Store} {a : ℕ} {b : List ℕ} → Succeeds f s a b → S.opening (sets f a b) ≡ S.opening f
    -- two places that share a byte have the same address
    pub meet : {f : List ℕ} {s t : Store} {a c : ℕ} {b d : List ℕ} → Succeeds f s a b → Succeeds f t c d → (i : ℕ) → a ≤ i
        → i < a + length b
        → c ≤ i → i < c + length d → a ≡ c
    -- a place that holds a store's bytes reads back as its number
    pub reads : {f : List ℕ} {s : Store} {a : ℕ} {b : List ℕ} → Succeeds f s a b → Holds f a b → S.read f s ≡ S.number s
