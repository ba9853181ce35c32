-- Calls that make several stores or none. Request 3 of document 02: a call makes the single stores of its items in their order, or is
-- refused as a whole and makes none. Demand 3 and request 13 over lists of such calls: each item counts as one store, in whatever
-- calls the items stand.
-- Assumes nothing.
use Rattle.std.specs.Prelude.{◌≡◌, List, [], ◌∷◌, ◌++◌, map, ℕ, length}
use Rattle.store_theory.specs.Series.{leaves, replies}
use Rattle.store_theory.specs.Stores.{System, OrderOf, All, alone, file_after, answers, stores_at, Distinct}
use Rattle.store_theory.specs.Claims.{OrderFree, LastStands}

-- what a call is told: for the call as a whole, and in its answer slots; "answer slot" is request 3's term
pub record Told (Whole Answer : Type 0) : Type 0 where
  pub whole : Whole
  pub slots : List Answer

module _ {Store Answer Opened Value : Type 0} (S : System Store Answer Opened Value) where
  -- calls that make stores of a file format
  pub record CallSystem (Call Whole : Type 0) : Type 1 where
    -- which calls are meant: those whose layout is of the one kind and byte order, and whose numbers are such as can be stored
    pub Fit : Call → Type 0
    -- the stores that a call makes of a file, in their order; none where it is refused as a whole
    pub makes : List ℕ → Call → List Store
    -- what a call is told on a file as a whole
    pub whole : List ℕ → Call → Whole

  module _ {Call Whole : Type 0} (C : CallSystem Call Whole) where
    -- What a call owes: its stores are fit, and what it makes and is told depends on the file through what opening answers and the file's
    -- length alone.
    pub record CallLaws : Type 0 where
      pub fit : (f : List ℕ) (c : Call) → C.Fit c → All S.Fit (C.makes f c)
      pub makes-by-opening : (f g : List ℕ) (c : Call) → C.Fit c → S.opening f ≡ S.opening g → length f ≡ length g
          → C.makes f c ≡ C.makes g c
      pub whole-by-opening : (f g : List ℕ) (c : Call) → C.Fit c → S.opening f ≡ S.opening g → length f ≡ length g
          → C.whole f c ≡ C.whole g c

    -- what a call is told on a file, and the file that it leaves: what the contract of a function that makes such a call says
    unfoldable pub call_outcome : List ℕ → Call → Told Whole Answer × List ℕ
    call_outcome f c = (record { whole = C.whole f c; slots = answers S f (C.makes f c) }, file_after S f (C.makes f c))

    -- the file after a list of calls made one after another
    abbrev pub file_after_calls : List ℕ → List Call → List ℕ
    file_after_calls f l = leaves call_outcome f l

    -- what each of a list of calls made one after another is told
    abbrev pub told : List ℕ → List Call → List (Told Whole Answer)
    told f l = replies call_outcome f l

    -- what a call is told alone on a file, each item answered as its single store alone
    abbrev pub told_alone : List ℕ → Call → Told Whole Answer
    told_alone f c = record { whole = C.whole f c; slots = map (alone S f) (C.makes f c) }

    -- the stores that the calls of a list make, alone on a file
    unfoldable pub items : List ℕ → List Call → List Store
    items f [] = []
    items f (c ∷ l) = C.makes f c ++ items f l

    -- Demand 3 over calls: the claim for the stores; and every list of calls whose items are those stores, in whatever calls and
    -- order, leaves those bytes; and each of its calls is told what it would be told alone on the file as it came.
    pub record CallsFree (f : List ℕ) (l : List Call) : Type 0 where
      pub stores : OrderFree S f (items f l)
      pub same : (m : List Call) → All C.Fit m → OrderOf (items f l) (items f m) → file_after_calls f m ≡ stores.bytes
      pub answered : (m : List Call) → All C.Fit m → told f m ≡ map (told_alone f) m

    -- demand 3 over calls, of every file and every list of calls no two of whose items succeed at the same place
    abbrev pub Demand3Calls : Type 0
    Demand3Calls = (f : List ℕ) (l : List Call) → All C.Fit l → Distinct S f (items f l) → CallsFree f l

    -- Request 13 over calls: the claim for the stores; both lists of calls leave the same bytes, those of the stores made one after
    -- another; and each call of both is told what it would be told alone on the file as it came.
    pub record CallsLast (f : List ℕ) (l m : List Call) : Type 0 where
      pub stores : LastStands S f (items f l) (items f m)
      pub same : file_after_calls f l ≡ file_after_calls f m
      pub made : file_after_calls f l ≡ file_after S f (items f l)
      pub answered : told f l ≡ map (told_alone f) l
      pub answered' : told f m ≡ map (told_alone f) m

    -- request 13 over calls, of every file and every two lists of calls whose items are the same, each as often, with those at the same place in the same order
    abbrev pub Request13Calls : Type 0
    Request13Calls = (f : List ℕ) (l m : List Call) → All C.Fit l → All C.Fit m → OrderOf (items f l) (items f m)
        → ((a : ℕ) → stores_at S f a (items f l) ≡ stores_at S f a (items f m)) → CallsLast f l m
