-- Lists as the specifications build them: a part of a list, a list by its index, line by line, by a test; and what is
-- written over the front of a lent output.
-- Assumes nothing.
use Rattle.std.specs.Prelude.{Bool, ◌⊎◌, List, [], ◌∷◌, ◌++◌, ℕ, zero, suc, ◌+◌, ◌≤◌, ◌<◌, length, take, drop}
use Rattle.lists.specs.Choices.{pick}

-- the place i is not one of the n places from a on
abbrev pub Outside : ℕ → ℕ → ℕ → Type 0
Outside i a n = (i < a) ⊎ (a + n ≤ i)

-- of the n places from a on and the m places from b on, one part ends before the other begins
abbrev pub Apart : ℕ → ℕ → ℕ → ℕ → Type 0
Apart a n b m = (a + n ≤ b) ⊎ (b + m ≤ a)

module _ {A : Type 0} where
  -- the n elements of a list from index a on, or as many of them as there are
  abbrev pub part : ℕ → ℕ → List A → List A
  part a n l = take n (drop a l)

  -- f 0, f 1 and so on, n of them
  unfoldable pub list_of : (ℕ → A) → ℕ → List A
  list_of f zero = []
  list_of f (suc n) = list_of f n ++ f n ∷ []

  -- the lists g 0, g 1 and so on, n of them, joined: the lines of a table one after another
  unfoldable pub lines_of : (ℕ → List A) → ℕ → List A
  lines_of g zero = []
  lines_of g (suc n) = lines_of g n ++ g n

  -- the elements that pass a test, in their order
  unfoldable pub keep : (A → Bool) → List A → List A
  keep t [] = []
  keep t (x ∷ l) = pick (t x) (x ∷ keep t l) (keep t l)

  -- a lent output after a copy of l into it: "a successful copy writes the first places of the output and no more" (document 01)
  abbrev pub over : List A → List A → List A
  over l out = l ++ drop (length l) out
