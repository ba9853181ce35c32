-- What a store does to a file. A store is planned on the file as it finds it: it writes bytes at an address, or it is refused and
-- writes nothing. Either way the caller is told an answer.
-- Assumes nothing.
use Rattle.std.specs.Prelude.{◌≡◌, Bool, false, List, ℕ, ◌+◌, ◌≤◌, ◌<◌, eqb, length}
use Rattle.std.proofs.lemmas.List.Edits.{sets}
use Rattle.lists.specs.Lists.{part}

-- what a store does: it writes bytes at an address, or it refuses; each with the answer that the caller is told
pub data Plan (Answer : Type 0) : Type 0 where
  write : Answer → ℕ → List ℕ → Plan Answer
  refuse : Answer → Plan Answer

module _ {Answer : Type 0} where
  -- the answer that the caller of a store is told
  abbrev pub answer : Plan Answer → Answer
  answer (write r a b) = r
  answer (refuse r) = r

  -- the file after a store
  abbrev pub after : List ℕ → Plan Answer → List ℕ
  after f (write r a b) = sets f a b
  after f (refuse r) = f

  -- the answer and the file after a store: what the contract of a function that stores says of its result and the lent file
  unfoldable pub outcome : List ℕ → Plan Answer → Answer × List ℕ
  outcome f p = (answer p, after f p)

  -- The store succeeds, and its place is at address c. "Place" is document 01's term: the bytes of a store that succeeds. Two
  -- stores name the same place when their addresses are equal.
  abbrev pub SucceedsAt : ℕ → Plan Answer → Type 0
  SucceedsAt c (write r a b) = a ≡ c
  SucceedsAt c (refuse r) = ⊥

  -- whether the store succeeds, and its place is at address c
  abbrev pub succeeds_at : ℕ → Plan Answer → Bool
  succeeds_at c (write r a b) = eqb a c
  succeeds_at c (refuse r) = false

  -- the store succeeds, and byte i is in its place
  abbrev pub Covers : ℕ → Plan Answer → Type 0
  Covers i (write r a b) = (a ≤ i) × (i < a + length b)
  Covers i (refuse r) = ⊥

-- the bytes b stand in the file f from address a on
abbrev pub Holds : List ℕ → ℕ → List ℕ → Type 0
Holds f a b = part a (length b) f ≡ b
