-- Stores that carry a layout. "Layout" and "stale" are document 01's terms: a layout is what opening answers, and it is stale where
-- opening these bytes, by the layout's kind, byte order and grid number, does not give that very layout. A store with a stale layout is
-- refused; what any other store does depends on the store alone. A key is what demand 3 calls one kind and one byte order.
-- Assumes nothing.
use Rattle.std.specs.Prelude.{◌≡◌, Bool, true, ◌↔◌, List, ℕ, ◌+◌, ◌*◌, ◌≤◌, length}
use Rattle.std.proofs.lemmas.List.Edits.{sets}
use Rattle.lists.specs.Choices.{pick}
use Rattle.store_theory.specs.Plans.{Plan, write, refuse, Holds}
use Rattle.store_theory.specs.Stores.{System}

-- the stores of a file format whose stores carry a layout
pub record Format (Store Key Opened Answer Value : Type 0) : Type 1 where
  -- the kind and byte order, and the grid number, of the store's layout
  pub key : Store → Key
  pub grid : Store → ℕ
  -- the store's number is one that the type of a number to store has: "0 to 4,294,967,295 for AREA and a signed word otherwise"
  pub Typed : Store → Type 0
  -- what opening a file by a key and a grid number answers
  pub open_as : List ℕ → Key → ℕ → Opened
  -- the answer of opening that is the store's layout, and whether an answer is that very one
  pub layout : Store → Opened
  pub same : Store → Opened → Bool
  -- what a store with a stale layout is answered
  pub stale : Answer
  -- what a store with a fresh layout does
  pub when_fresh : Store → Plan Answer
  -- the single read of a store's place with its layout, and its answer where the place holds the store's number
  pub read : List ℕ → Store → Value
  pub number : Store → Value

module _ {Store Key Opened Answer Value : Type 0} (F : Format Store Key Opened Answer Value) where
  -- opening the file gives the store's layout
  abbrev pub FreshStore : List ℕ → Store → Type 0
  FreshStore f s = F.open_as f (F.key s) (F.grid s) ≡ F.layout s

  -- what a store does to a file: it is refused where its layout is stale, and else does what a store with a fresh layout does
  unfoldable pub plan : List ℕ → Store → Plan Answer
  plan f s = pick (F.same s (F.open_as f (F.key s) (F.grid s))) (F.when_fresh s) (refuse F.stale)

  -- the stores whose layout is of key k and whose numbers have their type; opening answers for every grid number
  abbrev pub system : Key → System Store Answer (ℕ → Opened) Value
  system k =
      record {
        Fit = λ s. (F.key s ≡ k) × F.Typed s;
        plan = plan;
        opening = λ f g. F.open_as f k g;
        read = F.read;
        number = F.number;
      }

  -- a store with a fresh layout succeeds, and writes b at address a
  pub record Writes (f : List ℕ) (s : Store) (a : ℕ) (b : List ℕ) : Type 0 where
    pub typed : F.Typed s
    pub fresh : FreshStore f s
    pub told : Answer
    pub planned : F.when_fresh s ≡ write told a b

  -- What a format owes, of its layouts and of stores that succeed.
  pub record FormatLaws : Type 0 where
    -- whether an answer is the store's layout is told exactly
    pub exact : (s : Store) (x : Opened) → (F.same s x ≡ true) ↔ (x ≡ F.layout s)
    -- a place is inside the file
    pub inside : {f : List ℕ} {s : Store} {a : ℕ} {b : List ℕ} → Writes f s a b → a + length b ≤ length f
    -- after a store opening answers as before, for every grid number
    pub frame : {f : List ℕ} {s : Store} {a : ℕ} {b : List ℕ} → Writes f s a b → (g : ℕ)
        → F.open_as (sets f a b) (F.key s) g ≡ F.open_as f (F.key s) g
    -- all places of one file and key are equally wide and stand at multiples of the width from one base, so that two of them
    -- are equal or share no byte
    pub base : List ℕ → Key → ℕ
    pub width : List ℕ → Key → ℕ
    pub lattice : {f : List ℕ} {s : Store} {a : ℕ} {b : List ℕ} → Writes f s a b
        → (j : ℕ) × (a ≡ base f (F.key s) + j * width f (F.key s)) × (length b ≡ width f (F.key s))
    -- where a place holds a store's bytes, the read answers the store's number
    pub reads : {f : List ℕ} {s : Store} {a : ℕ} {b : List ℕ} → Writes f s a b → Holds f a b → F.read f s ≡ F.number s
